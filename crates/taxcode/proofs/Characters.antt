-- Which characters may stand in a place, by tests that the code makes, and what they count there.
use Prim.Native.Nat.{ℕ, ◌<◌, ◌≤◌, ◌%◌}
use mathlib.Core.Path.{◌≡◌, refl, sym, ◌∙◌}
use mathlib.Core.Bool.{Bool, true, false, cond, not, false≢true}
use native.Mathlib.Omega.{arith}
use lib.Dec.{eqb, ltb, leb}
use borrow.Author.Tests.{ne_eqb, leb-true, leb-false, lt-ltb, le-ltb}
use Rattle.text.specs.Among.{among, from_to}
use Rattle.text.specs.Numbers.{digit}
use Rattle.text.proofs.Bytes.{between}
use Rattle.text.proofs.Tests.{alike, alike_same, each_below}
use Rattle.taxcode.specs.Places.{spelled, by_place}
use Rattle.taxcode.specs.Persons.{capital, figure, holds_figure, place_right, even_value, odd_values, odd_value, value_at}
use Rattle.taxcode.proofs.Computed.{Tells, tells}

-- the places that hold digits are those from 7 to 15 but 9 and 12
abbrev figure_place : ℕ → Bool
figure_place k = cond (eqb k 9) false (cond (eqb k 12) false (cond (ltb k 7) false (leb k 15)))

pub figure-place : (k : ℕ) → holds_figure k ≡ figure_place k
unfolding holds_figure among
figure-place k = go (leb k 15) refl
  where
    go : (t : Bool) → leb k 15 ≡ t → holds_figure k ≡ figure_place k
    go true e = alike_same _ _ (each_below (λ k. alike (holds_figure k) (figure_place k)) 16 refl k (let h = leb-true k 15 e in omega arith))
    go false e =
        let h : 15 < k = leb-false k 15 e in
        let l : (n : ℕ) → n ≤ 15 → eqb k n ≡ false = λ n g. ne_eqb k n (λ i. omega arith) in
        rw (l 7 (omega arith), l 8 (omega arith), l 9 (omega arith), l 10 (omega arith), l 11 (omega arith), l 12 (omega arith), l 13 (omega arith), l 14 (omega arith), l 15 (omega arith), e) (cond_same (ltb k 7))
      where
        cond_same : (b : Bool) → false ≡ cond b false false
        cond_same true = refl
        cond_same false = refl

-- the letters for digits are those from L to V but O
pub figure_letter : (b : ℕ) → b < 256 → figure b ≡ cond (digit b) true (cond (from_to 76 86 b) (not (eqb b 79)) false)
unfolding figure among spelled
figure_letter b h = alike_same _ _ (each_below (λ b. alike (figure b) (cond (digit b) true (cond (from_to 76 86 b) (not (eqb b 79)) false))) 256 refl b h)

-- a character by what its place holds, and what it counts there by whether the place is even
abbrev right_in : Bool → ℕ → Bool
right_in figures b = cond figures (figure b) (capital b)

abbrev value_in : Bool → ℕ → ℕ
value_in even b = cond even (even_value b) (odd_value b)

-- nothing behind Z may stand in any place
beyond : (figures : Bool) (b : ℕ) → 90 < b → right_in figures b ≡ false
unfolding figure capital among spelled
beyond true b h =
    let n : (x : ℕ) → x ≤ 90 → eqb b x ≡ false = λ x g. ne_eqb b x (λ i. omega arith) in
    rw (le-ltb b 48 (omega arith), lt-ltb 57 b (omega arith), n 76 (omega arith), n 77 (omega arith), n 78 (omega arith), n 80 (omega arith), n 81 (omega arith), n 82 (omega arith), n 83 (omega arith), n 84 (omega arith), n 85 (omega arith), n 86 (omega arith))
beyond false b h = rw (le-ltb b 65 (omega arith), lt-ltb 90 b h)

right-least : (figures : Bool) (b : ℕ) → right_in figures b ≡ true → b < 91
right-least figures b e = go (leb b 90) refl
  where
    go : (t : Bool) → leb b 90 ≡ t → b < 91
    go true q = let h = leb-true b 90 q in omega arith
    go false q = absurd (false≢true (sym (beyond figures b (leb-false b 90 q)) ∙ e))

-- in one place the characters count differently, less than 26 each
told : (figures even : Bool) → Tells (right_in figures) (value_in even) 26
unfolding figure capital among spelled even_value odd_value odd_values
told true true = tells _ _ 26 91 (right-least true) refl
told true false = tells _ _ 26 91 (right-least true) refl
told false true = tells _ _ 26 91 (right-least false) refl
told false false = tells _ _ 26 91 (right-least false) refl

pub letter-small : (k b : ℕ) → place_right k b ≡ true → even_value b < 26
unfolding place_right
letter-small k b e = (told (holds_figure k) true).small b e

pub values-tell : (k : ℕ) → Tells (place_right k) (value_at k) 26
unfolding place_right value_at by_place
values-tell k = told (holds_figure k) (eqb (k % 2) 0)

-- before place 7 there are letters only
pub letter-place : (k b : ℕ) → k < 7 → place_right k b ≡ true → 65 ≤ b
unfolding place_right capital
letter-place k b h e = (between 65 90 b (rw (figure-place k, lt-ltb k 7 h, ne_eqb k 9 (λ i. omega arith), ne_eqb k 12 (λ i. omega arith)) at e)).0
