use native.Mathlib.Omega.{arith}
use Rattle.std.proofs.lemmas.Bool.Decides.{nat_tests}
use Rattle.portion.specs.Portion.{sums_right}
use Rattle.portion.proofs.bounds.sums_right.Goals as goal

pub returns-then-kept-most-2 : goal.returns-then-kept-most-2
unfolding sums_right
returns-then-kept-most-2 c = grind (arith, nat_tests)

pub returns-else-kept-most-2 : goal.returns-else-kept-most-2
unfolding sums_right
returns-else-kept-most-2 c = grind (arith, nat_tests)
