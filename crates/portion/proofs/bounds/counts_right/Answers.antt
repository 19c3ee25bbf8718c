use native.Mathlib.Omega.{arith}
use Rattle.std.proofs.lemmas.Bool.Decides.{nat_tests}
use Rattle.state.specs.Numbers.{state_of}
use Rattle.portion.specs.Portion.{counts_right}
use Rattle.portion.proofs.bounds.counts_right.Goals as goal

pub returns-then-kept : goal.returns-then-kept
unfolding counts_right state_of
returns-then-kept c = grind (arith, nat_tests)

pub returns-else-kept : goal.returns-else-kept
unfolding counts_right state_of
returns-else-kept c = grind (arith, nat_tests)
