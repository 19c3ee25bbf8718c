-- `desk::cases::length_in` meets its contract, by whether the header has room for a length.
use mathlib.Core.Path.{sym, ◌∙◌}
use Rattle.desk.proofs.Lengths.{length-missing, length-read}
use Rattle.desk.proofs.cases.length_in.Goals as goal

pub returns-then-head-lt7 : goal.returns-then-head-lt7
returns-then-head-lt7 c = sym (length-missing _ c.if-head-lt7.true)

pub returns : goal.returns
returns c = c.size_of.ensures ∙ sym (length-read _ c.if-head-lt7.false)
