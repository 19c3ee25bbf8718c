-- `WalkPlace::next` meets its contract: one more where that fits, else the same place.
use native.Mathlib.Omega.{arith}
use Rattle.std.proofs.lemmas.Bool.Decides.{nat_tests}
use Rattle.walk.specs.Walk.{place_next}
use Rattle.walk.proofs.WalkPlace.next.Goals as goal

pub returns : goal.returns
unfolding place_next
returns c = grind (arith, nat_tests)
