-- What the digits of a firm's code count.
use Prim.Native.Nat.{ℕ, ◌-◌, ◌<◌, ◌%◌}
use mathlib.Core.Path.{◌≡◌, refl}
use mathlib.Core.Bool.{Bool, true, false, cond}
use native.Mathlib.Omega.{arith}
use lib.Dec.{eqb}
use Rattle.std.specs.Char.{is_ascii_digit}
use Rattle.std.proofs.lemmas.Bool.Decides.{nat_tests}
use Rattle.text.specs.Numbers.{digit}
use Rattle.text.proofs.Bytes.{between}
use Rattle.taxcode.specs.Places.{by_place}
use Rattle.taxcode.specs.Firms.{doubled, count_at}
use Rattle.taxcode.proofs.Computed.{Tells, tells}

-- a digit as the library tests it
pub digit-tested : (b : ℕ) → is_ascii_digit b ≡ digit b
digit-tested b = grind (arith, nat_tests)

-- in one place the digits count differently, less than 10 each
pub counts-tell : (k : ℕ) → Tells (λ b. digit b) (count_at k) 10
unfolding count_at by_place doubled
counts-tell k = told (eqb (k % 2) 0)
  where
    below : (b : ℕ) → digit b ≡ true → b < 58
    below b e = let h = (between 48 57 b e).1 in omega arith

    told : (even : Bool) → Tells (λ b. digit b) (λ b. cond even (doubled (b - 48)) (b - 48)) 10
    told true = tells _ _ 10 58 below refl
    told false = tells _ _ 10 58 below refl
