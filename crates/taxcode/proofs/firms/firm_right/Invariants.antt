use mathlib.Core.Path.{◌≡◌}
use lib.ListN.{length, take}
use Rattle.taxcode.specs.Firms.{count_at, digit_or_space}
use Rattle.taxcode.proofs.Turns.{Counted}
use Rattle.taxcode.proofs.firms.firm_right.Given as goal

abbrev pub invariant-loop-i : goal.invariant-loop-i
invariant-loop-i l = (length l.code ≡ 16) × Counted digit_or_space count_at (take 11 l.code) l.sum l.i
