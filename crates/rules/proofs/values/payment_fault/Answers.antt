use Rattle.rules.specs.Checks.{negative_fault}
use Rattle.rules.specs.Values.{payment_on}
use borrow.Author.Tests.{eq-eqb, ne_eqb, lt-ltb, le-ltb}
use Rattle.rules.proofs.values.payment_fault.Goals as goal

pub returns-then-t : goal.returns-then-t
unfolding payment_on negative_fault
returns-then-t c = rw (lt-ltb _ _ c.if-t.true)

pub returns-then-v-final_of : goal.returns-then-v-final_of
unfolding payment_on negative_fault
returns-then-v-final_of c = rw (le-ltb _ _ c.if-t.false, ← c.final_of.ensures, eq-eqb _ _ c.if-v-final_of.true)

pub returns : goal.returns
unfolding payment_on negative_fault
returns c = rw (le-ltb _ _ c.if-t.false, ← c.final_of.ensures, ne_eqb _ _ c.if-v-final_of.false)
