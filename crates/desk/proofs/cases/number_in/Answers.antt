-- `desk::cases::number_in` meets its contract, by whether the text has the number.
use mathlib.Core.Path.{sym, ◌∙◌}
use Rattle.desk.proofs.Listed.{number-there, number-missing}
use Rattle.desk.proofs.cases.number_in.Goals as goal

pub returns-then-i-text : goal.returns-then-i-text
returns-then-i-text c = c.number_of.ensures ∙ sym (number-there _ _ c.if-i-text.true)

pub returns : goal.returns
returns c = sym (number-missing _ _ c.if-i-text.false)
