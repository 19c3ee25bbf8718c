-- What reading digits tells: a number exactly of digits alone, and else the offset of the first character that is none.
use Prim.Native.Nat.{ℕ, zero, suc, ◌+◌, ◌-◌, ◌*◌, ◌/◌, ◌%◌, ◌<◌, ◌≤◌}
use mathlib.Core.Path.{◌≡◌, refl, ap, ◌∙◌}
use mathlib.Core.Bool.{Bool, true, false, cond}
use mathlib.Core.List.{List, [], ◌∷◌, ◌++◌}
use native.Mathlib.Omega.{arith}
use borrow.Author.Tests.{ltb-true, ltb-false}
use lib.Dec.{ltb}
use lib.ListN.{length, get_or, get_or-append}
use lib.Seq.{get_or-append_seam}
use Rattle.text.specs.Answers.{Digits, Number, NonDigit}
use Rattle.text.specs.Numbers.{digit, number_from, number_of, digits_of}
use Rattle.text.proofs.Bytes.{within}
use Rattle.text.proofs.Numerals.{length_digits}

-- The first n characters are digits.
abbrev pub DigitsTo : List ℕ → ℕ → Type 0
DigitsTo l n = (j : ℕ) → j < n → digit (get_or l j 0) ≡ true

-- What is told of a list behind i characters: all are digits, or the first that is none is the m-th behind them, counted from 0.
pub data Tells (i : ℕ) (l : List ℕ) : Digits → Type 0 where
  number : {v : ℕ} → DigitsTo l (length l) → Tells i l (Number v)
  non-digit : {k : ℕ} (m : ℕ) → k ≡ i + m → m < length l → digit (get_or l m 0) ≡ false → DigitsTo l m → Tells i l (NonDigit k)

-- A digit before digits.
one_more : (b : ℕ) (bs : List ℕ) (n : ℕ) → digit b ≡ true → DigitsTo bs n → DigitsTo (b ∷ bs) (suc n)
one_more b bs n e h zero p = e
one_more b bs n e h (suc j) p = h j (omega arith)

told-behind : (b : ℕ) (bs : List ℕ) (i : ℕ) {d : Digits} → digit b ≡ true → Tells (i + 1) bs d → Tells i (b ∷ bs) d
told-behind b bs i e (number h) = number (one_more b bs (length bs) e h)
told-behind b bs i e (non-digit {k} m p q w h) = non-digit {k = k} (suc m) (omega arith) (omega arith) w (one_more b bs m e h)

from_told : (l : List ℕ) (i a : ℕ) → Tells i l (number_from i a l)
unfolding number_from
from_told [] i a = number (λ j p. absurd (omega arith))
from_told (b ∷ bs) i a = go (digit b) refl (from_told bs (i + 1) (a * 10 + (b - 48)))
  where
    go : (t : Bool) → digit b ≡ t → Tells (i + 1) bs (number_from (i + 1) (a * 10 + (b - 48)) bs) → Tells i (b ∷ bs) (cond t (number_from (i + 1) (a * 10 + (b - 48)) bs) (NonDigit i))
    go true e h = told-behind b bs i e h
    go false e h = non-digit {k = i} 0 (omega arith) (omega arith) e (λ j p. absurd (omega arith))

-- What is told of a whole list.
pub digits-told : (l : List ℕ) → Tells 0 l (number_of l)
digits-told l = from_told l 0 0

-- A number is written in digits only.
pub written-digits : (w n : ℕ) → DigitsTo (digits_of w n) w
unfolding digits_of
written-digits zero n j h = absurd (omega arith)
written-digits (suc w) n j h = go (ltb j w) refl (written-digits w (n / 10) j)
  where
    front : List ℕ
    front = digits_of w (n / 10)

    go : (t : Bool) → ltb j w ≡ t → (j < w → digit (get_or front j 0) ≡ true) → digit (get_or (front ++ ((48 + n % 10) ∷ [])) j 0) ≡ true
    go true e d =
        let l = length_digits w (n / 10) in
        let i : j < w = ltb-true _ _ e in
        ap digit (get_or-append front ((48 + n % 10) ∷ []) 0 j (omega arith)) ∙ d i
    go false e d =
        let i : w ≤ j = ltb-false _ _ e in
        let q : j ≡ length front = omega (arith, length_digits w (n / 10)) in
        rw (q, get_or-append_seam front (48 + n % 10) [] 0) (within 48 57 (48 + n % 10) (omega arith) (omega arith))
