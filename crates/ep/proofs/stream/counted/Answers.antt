-- `ep::counted` meets its contract.
use mathlib.Core.Path.{sym, ◌∙◌}
use native.Mathlib.Omega.{arith}
use Rattle.ep.proofs.Courses.{counted-behind, counted-judged}
use Rattle.ep.proofs.stream.counted.Goals as goal

pub returns-then-is_err : goal.returns-then-is_err
returns-then-is_err c = counted-behind _ _ (sym c.is_err.ensures.value ∙ c.if-is_err.true)

pub step_by-done-requires : goal.step_by-done-requires
step_by-done-requires c = (c.requires.0, c.requires.1.small, omega (arith, c.requires.1.behind))

pub returns : goal.returns
returns c = counted-judged _ _ (sym c.is_err.ensures.value ∙ c.if-is_err.false) _ c.step_by-done.ensures
