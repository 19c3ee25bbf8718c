-- The turns of the loops over a firm's code, and the ways out of them.
use Prim.Native.Nat.{ℕ, ◌+◌, ◌<◌, ◌≤◌, ◌%◌}
use mathlib.Core.Path.{◌≡◌, refl, ◌∙◌}
use mathlib.Core.Bool.{Bool, true, false, cond, ◌&&◌}
use mathlib.Core.List.{List, [], ◌∷◌}
use native.Mathlib.Omega.{arith}
use lib.Dec.{eqb}
use lib.ListN.{length, get_or, take, drop}
use lib.Seq.{length-take-le}
use borrow.Author.Tests.{eq-eqb, ne_eqb, le-leb, lt-leb}
use Rattle.std.specs.List.{list_all}
use Rattle.text.specs.Numbers.{digit}
use Rattle.taxcode.specs.Places.{every_from, sum_from}
use Rattle.taxcode.specs.Firms.{count_at, digit_or_space, firm_right}
use Rattle.taxcode.proofs.Digits.{counts-tell}
use Rattle.taxcode.proofs.Turns.{every-split, Counted, counted-not, counted-on, counted-all}

-- the first eleven places hold digits, and the others spaces
pub digit-place : (k b : ℕ) → k ≤ 11 → digit_or_space k b ≡ digit b
unfolding digit_or_space
digit-place k b h = rw (le-leb k 11 h)

pub space-place : (k b : ℕ) → 11 < k → digit_or_space k b ≡ eqb b 32
unfolding digit_or_space
space-place k b h = rw (lt-leb k 11 h)

-- behind the eleventh place every character is a space
pub spaces-behind : (k : ℕ) (l : List ℕ) → 11 < k → list_all (λ b. eqb b 32) l ≡ every_from digit_or_space k l
unfolding every_from
spaces-behind k [] h = refl
spaces-behind k (b ∷ bs) h = rw (space-place k b h, spaces-behind (k + 1) bs (omega arith)) (both (eqb b 32) _)
  where
    both : (t y : Bool) → (t && y) ≡ cond t y false
    both true y = refl
    both false y = refl

module _ (code : List ℕ) where
  pub firm-length : (length code ≡ 16 → ⊥) → firm_right code ≡ false
  unfolding firm_right
  firm-length n = rw (ne_eqb _ _ n)

  module _ (l : length code ≡ 16) where
    pub firm-not : every_from digit_or_space 1 (take 11 code) ≡ false → firm_right code ≡ false
    unfolding firm_right
    firm-not e = rw (eq-eqb _ _ l, every-split digit_or_space 11 1 code, e)

    pub firm-is : every_from digit_or_space 1 (take 11 code) ≡ true →
        firm_right code ≡ cond (every_from digit_or_space 12 (drop 11 code)) (eqb (sum_from count_at 1 (take 11 code) % 10) 0) false
    unfolding firm_right
    firm-is e = rw (eq-eqb _ _ l, every-split digit_or_space 11 1 code, e)

    module _ (sum i : ℕ) (c : Counted digit_or_space count_at (take 11 code) sum i) where
      eleven : length (take 11 code) ≡ 11
      eleven = length-take-le 11 code (omega arith)

      pub firm-stop : i < length (take 11 code) → digit (get_or (take 11 code) i 0) ≡ false → firm_right code ≡ false
      firm-stop h e = let f = eleven in firm-not (counted-not digit_or_space count_at (take 11 code) sum i c h (digit-place (i + 1) _ (omega arith) ∙ e))

      pub firm-on : i < length (take 11 code) → digit (get_or (take 11 code) i 0) ≡ true → Counted digit_or_space count_at (take 11 code) (sum + count_at (i + 1) (get_or (take 11 code) i 0)) (i + 1)
      firm-on h e =
          let f = eleven in
          let s = (counts-tell (i + 1)).small (get_or (take 11 code) i 0) e in
          counted-on digit_or_space count_at (take 11 code) sum i c h (digit-place (i + 1) _ (omega arith) ∙ e) (omega arith)

      pub firm-end : length (take 11 code) ≤ i → firm_right code ≡ cond (every_from digit_or_space 12 (drop 11 code)) (eqb (sum % 10) 0) false
      firm-end h =
          let a = counted-all digit_or_space count_at (take 11 code) sum i c h in
          rw (← a.1) (firm-is a.0)
