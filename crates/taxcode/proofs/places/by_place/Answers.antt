use Rattle.taxcode.specs.Places.{by_place}
use borrow.Author.Tests.{eq-eqb, ne_eqb}
use Rattle.taxcode.proofs.places.by_place.Goals as goal

pub returns-then-k-eq0 : goal.returns-then-k-eq0
unfolding by_place
returns-then-k-eq0 c = rw (eq-eqb _ _ c.if-k-eq0.true)

pub returns-else-k-eq0 : goal.returns-else-k-eq0
unfolding by_place
returns-else-k-eq0 c = rw (ne_eqb _ _ c.if-k-eq0.false)
