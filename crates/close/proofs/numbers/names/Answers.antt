-- `close::numbers::names` meets its contract.
use mathlib.Core.Path.{◌∙◌}
use Rattle.close.proofs.Named.{among-any}
use Rattle.close.proofs.numbers.names.Goals as goal

pub returns : goal.returns
returns c = c.contains.ensures.value ∙ among-any _ _
