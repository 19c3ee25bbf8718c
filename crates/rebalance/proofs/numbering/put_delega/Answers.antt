-- `rebalance::numbering::put_delega` meets its contract.
use native.Mathlib.Omega.{arith}
use Rattle.rebalance.specs.Numbering.{with_number}
use Rattle.text.proofs.Fits.{number_put}
use Rattle.rebalance.proofs.numbering.put_delega.Goals as goal

pub returns-then-is_numbered : goal.returns-then-is_numbered
unfolding with_number
returns-then-is_numbered c = rw (← c.is_numbered.ensures, c.if-is_numbered.true) (number_put 3 7 _ _ _ (omega (arith, c.requires.0)) c.requires.1 c.put_number.ensures.1)

pub returns-else-is_numbered : goal.returns-else-is_numbered
unfolding with_number
returns-else-is_numbered c = rw (← c.is_numbered.ensures, c.if-is_numbered.false)
