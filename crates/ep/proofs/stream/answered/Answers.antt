-- `ep::answered` meets its contract.
use mathlib.Core.Path.{ap, ◌∙◌}
use borrow.Author.Tests.{not-true, not-false}
use Rattle.std.specs.Prelude.{Err}
use Rattle.ep.proofs.Courses.{answer-unfit, answer-none, answer-by}
use Rattle.ep.proofs.stream.answered.Goals.{then-not-course-via-then-not-course, then-not-course-via-else-not-course+then-course-eq0}
use Rattle.ep.proofs.stream.answered.Goals as goal

pub returns-then-not-course : goal.returns-then-not-course
returns-then-not-course c = elim c.then-not-course.branch [
  | then-not-course-via-then-not-course w ↦ answer-unfit _ (not-true _ w.if-not-course.true)
  | then-not-course-via-else-not-course+then-course-eq0 w ↦ answer-none _ (not-false _ w.if-not-course.false) w.if-course-eq0.true
]

pub returns-in-Err : goal.returns-in-Err
returns-in-Err c = ap Err c.refused.ensures ∙ answer-by _ (not-false _ c.if-not-course.false) c.if-course-eq0.false _ c.in-Err.is

pub returns : goal.returns
returns c = c.ended.ensures ∙ answer-by _ (not-false _ c.if-not-course.false) c.if-course-eq0.false _ c.in_default.is
