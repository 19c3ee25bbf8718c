use Rattle.rules.specs.Checks.{carried}
use borrow.Author.Tests.{eq-eqb, ne_eqb}
use Rattle.rules.proofs.values.carries.Goals as goal

pub returns-then-n-expected : goal.returns-then-n-expected
unfolding carried
returns-then-n-expected c = rw (eq-eqb _ _ c.if-n-expected.true)

pub returns-else-n-expected : goal.returns-else-n-expected
unfolding carried
returns-else-n-expected c = rw (ne_eqb _ _ c.if-n-expected.false)
