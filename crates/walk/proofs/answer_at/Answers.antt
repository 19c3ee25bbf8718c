-- `answer_at` meets its contract: the flow's refusal, or the record after those shown, or no more, each by the test that led to it.
use borrow.Author.Tests.{lt-ltb, le-ltb}
use Rattle.refusal.proofs.Handed.{handed_on}
use Rattle.walk.specs.Walk.{answer_at}
use Rattle.walk.proofs.answer_at.Goals as goal

pub returns-in_err-judge : goal.returns-in_err-judge
unfolding answer_at
returns-in_err-judge c = simp (← c.judge.ensures, c.in_err-judge.was) (handed_on c.from_residual.result c.from_residual.ensures)

pub returns-then-shown-flow : goal.returns-then-shown-flow
unfolding answer_at
returns-then-shown-flow c = simp (← c.judge.ensures, c.in_ok-judge.was, lt-ltb _ _ c.if-shown-flow.true)

pub returns : goal.returns
unfolding answer_at
returns c = simp (← c.judge.ensures, c.in_ok-judge.was, le-ltb _ _ c.if-shown-flow.false)
