-- `lenient::ended` meets its contract: behind EF there is no refusal, else 5.
use Rattle.lenient.specs.Lenient.{ended}
use borrow.Author.Tests.{eq-eqb, ne_eqb}
use Rattle.lenient.proofs.ended.Goals as goal

pub returns-then-st-eq-TAIL : goal.returns-then-st-eq-TAIL
unfolding ended
returns-then-st-eq-TAIL c = rw (eq-eqb _ _ c.if-st-eq-TAIL.true)

pub returns : goal.returns
unfolding ended
returns c = rw (ne_eqb _ _ c.if-st-eq-TAIL.false)
