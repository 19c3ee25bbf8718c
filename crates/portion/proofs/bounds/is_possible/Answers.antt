use mathlib.Core.Path.{sym, ◌∙◌}
use native.Mathlib.Omega.{arith}
use Rattle.std.proofs.lemmas.Bool.Decides.{nat_tests}
use Rattle.state.specs.Numbers.{state_of}
use Rattle.portion.specs.Portion.{possible}
use Rattle.portion.proofs.Counts.{counts-say}
use Rattle.portion.proofs.bounds.is_possible.Goals as goal
use Rattle.portion.proofs.bounds.is_possible.Goals.{then-counts_right, else-counts_right}

pub course_right-requires : goal.course_right-requires
unfolding state_of
course_right-requires c = let s = (counts-say _ (sym c.counts_right.ensures ∙ c.if-counts_right.true)).seen in omega arith

pub sums_right-requires : goal.sums_right-requires
unfolding state_of
sums_right-requires c =
    elim c.if-counts_right.branch [
      | then-counts_right w ↦ let s = (counts-say _ (sym c.counts_right.ensures ∙ w.if-counts_right.true)).seen in omega arith
      | else-counts_right w ↦ absurd (cc)
    ]

pub returns-then-course_right : goal.returns-then-course_right
unfolding possible state_of
returns-then-course_right c = grind (arith, nat_tests)

pub returns-else-course_right : goal.returns-else-course_right
unfolding possible state_of
returns-else-course_right c = grind (arith, nat_tests)
