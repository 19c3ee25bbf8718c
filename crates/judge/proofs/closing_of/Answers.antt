use Rattle.judge.specs.Flow.{closing}
use borrow.Author.Tests.{eq-eqb, ne_eqb}
use Rattle.judge.proofs.closing_of.Goals as goal

pub returns-then-st-eq-TAIL : goal.returns-then-st-eq-TAIL
unfolding closing
returns-then-st-eq-TAIL c = rw (eq-eqb _ _ c.if-st-eq-TAIL.true)

pub returns : goal.returns
unfolding closing
returns c = rw (ne_eqb _ _ c.if-st-eq-TAIL.false) c.refused.ensures
