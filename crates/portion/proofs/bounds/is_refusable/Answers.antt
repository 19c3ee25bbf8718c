use native.Mathlib.Omega.{arith}
use Rattle.std.proofs.lemmas.Bool.Decides.{nat_tests}
use Rattle.portion.specs.Portion.{refusable}
use Rattle.portion.proofs.bounds.is_refusable.Goals as goal

pub returns-in-0 : goal.returns-in-0
unfolding refusable
returns-in-0 c = grind (arith, nat_tests)

pub returns-then-next : goal.returns-then-next
unfolding refusable
returns-then-next c = grind (arith, nat_tests)

pub returns-else-next : goal.returns-else-next
unfolding refusable
returns-else-next c = grind (arith, nat_tests)

pub returns-then-at-eq0 : goal.returns-then-at-eq0
unfolding refusable
returns-then-at-eq0 c = grind (arith, nat_tests)

pub returns-else-at-eq0 : goal.returns-else-at-eq0
unfolding refusable
returns-else-at-eq0 c = grind (arith, nat_tests)

pub returns-then-number-le20 : goal.returns-then-number-le20
unfolding refusable
returns-then-number-le20 c = grind (arith, nat_tests)

pub returns-else-number-le20 : goal.returns-else-number-le20
unfolding refusable
returns-else-number-le20 c = grind (arith, nat_tests)

pub returns-else-at-le-MOST_RECORDS : goal.returns-else-at-le-MOST_RECORDS
unfolding refusable
returns-else-at-le-MOST_RECORDS c = grind (arith, nat_tests)
