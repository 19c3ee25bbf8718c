use mathlib.Core.Path.{sym, ◌∙◌}
use native.Mathlib.Omega.{arith}
use Rattle.f24_judge.specs.InTurn.{calls_of}
use Rattle.f24_judge.proofs.Turns.{call-again, call-ended, call-at-last}
use Rattle.f24_judge.proofs.call_on.Goals as goal

pub loop-made-init : goal.loop-made-init
unfolding calls_of
loop-made-init c = rw (c.judge_portion-last.ensures, c.start.ensures)

pub returns-then-not-goes_on : goal.returns-then-not-goes_on
returns-then-not-goes_on c = sym (call-ended _ _ _ _ (sym c.goes_on.ensures ∙ c.if-not-goes_on.true)) ∙ c.loop-made.invariant

pub loop-made-preserved : goal.loop-made-preserved
loop-made-preserved c = call-again _ _ _ _ _ c.loop-made-test.true (sym c.goes_on.ensures ∙ c.if-not-goes_on.false) c.judge_portion-last-in-loop-made.ensures ∙ c.loop-made.invariant

pub returns : goal.returns
returns c = sym (call-at-last _ _ _ c.loop-made.made (omega arith)) ∙ c.loop-made.invariant
