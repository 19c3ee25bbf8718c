use mathlib.Core.Path.{◌≡◌}
use lib.ListN.{length, take}
use Rattle.taxcode.specs.Persons.{place_right, value_at}
use Rattle.taxcode.proofs.Turns.{Counted}
use Rattle.taxcode.proofs.persons.person_right.Given as goal

abbrev pub invariant-loop-i : goal.invariant-loop-i
invariant-loop-i l = (length l.code ≡ 16) × Counted place_right value_at (take 15 l.code) l.sum l.i
