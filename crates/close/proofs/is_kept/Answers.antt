-- `close::is_kept` meets its contract.
use Rattle.order.proofs.Fitting.{turned}
use Rattle.close.specs.Closing.{stays}
use Rattle.close.proofs.is_kept.Goals as goal

pub returns-then-not-is_numbered : goal.returns-then-not-is_numbered
unfolding stays
returns-then-not-is_numbered c = rw (← c.requires.1, ← c.is_numbered.ensures, c.if-not-is_numbered.true)

pub returns-else-not-is_numbered : goal.returns-else-not-is_numbered
unfolding stays
returns-else-not-is_numbered c =
    rw (← c.requires.1, ← c.is_numbered.ensures, c.if-not-is_numbered.false, ← c.number_in.ensures, ← c.names.ensures) (turned c.names.result)
