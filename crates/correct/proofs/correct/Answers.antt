-- `correct::correct` meets its contract: a flow's refusal and 21 are handed on, and of the line that was found the other tests give the answer.
use Rattle.refusal.proofs.Handed.{handed_on}
use Rattle.correct.proofs.Named.{found-line, corrected-at, corrected-not}
use mathlib.Core.Path.{sym, ◌∙◌}
use Rattle.correct.proofs.correct.Goals as goal

pub try_line-requires : goal.try_line-requires
try_line-requires c = rw c.section_of.ensures (found-line _ _ _ _ _ (sym c.find.ensures ∙ c.in_ok-k.was))

pub returns : goal.returns
returns c = corrected-at _ _ _ _ _ _ _ _ _ _ (sym c.find.ensures ∙ c.in_ok-k.was) c.section_of.ensures c.try_line.ensures.0 c.try_line.ensures.1

pub returns-in_err-k : goal.returns-in_err-k
returns-in_err-k c = rw (handed_on c.from_residual.result c.from_residual.ensures) (corrected-not _ _ _ _ _ _ (sym c.find.ensures ∙ c.in_err-k.was))
