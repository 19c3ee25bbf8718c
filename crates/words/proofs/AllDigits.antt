-- Laws of lists of digits alone: what they say, and that no other list says an amount.
use Prim.Native.Nat.{ℕ, suc, ◌+◌, ◌-◌, ◌*◌, ◌≤◌}
use mathlib.Core.Path.{◌≡◌, refl, ap}
use mathlib.Core.List.{List, [], ◌∷◌}
use native.Mathlib.Omega.{arith}
use lib.ListN.{length}
use Rattle.text.specs.Answers.{Digits, Number, NonDigit, TooLong}
use Rattle.words.specs.Answers as Said
use Rattle.text.specs.Numbers.{number_from, number_of}
use Rattle.words.specs.Words.{fifteen_of, AtMost}
use Rattle.words.specs.Words.AtMost.{none, also}
use Rattle.text.proofs.Bytes.{between, within}
use Rattle.text.proofs.Numerals.{number-parts}

-- Every character of a list is a digit.
pub data AllDigits : List ℕ → Type 0 where
  no_more : AllDigits []
  one_more : {b : ℕ} {bs : List ℕ} → 48 ≤ b → b ≤ 57 → AllDigits bs → AllDigits (b ∷ bs)

-- What each digit says.
abbrev pub values : List ℕ → List ℕ
values [] = []
values (b ∷ bs) = (b - 48) ∷ values bs

-- What digits of base f say after a.
abbrev pub horner : ℕ → ℕ → List ℕ → ℕ
horner f a [] = a
horner f a (d ∷ ds) = horner f (a * f + d) ds

-- Digits say their number.
pub digits-say : (l : List ℕ) (i a : ℕ) → AllDigits l → number_from i a l ≡ Number (horner 10 a (values l))
unfolding number_from
digits-say [] i a p = refl
digits-say (b ∷ bs) i a (one_more h j p) = rw (within 48 57 b h j) (digits-say bs (i + 1) (a * 10 + (b - 48)) p)

-- A list that says a number has digits alone.
pub say-digits : (l : List ℕ) (i a v : ℕ) → number_from i a l ≡ Number v → AllDigits l
say-digits [] i a v e = no_more
say-digits (b ∷ bs) i a v e =
    let p = number-parts b bs i a v e in
    let d = between 48 57 b p.0 in
    one_more d.0 d.1 (say-digits bs (i + 1) (a * 10 + (b - 48)) v p.1)

-- A list with another character says no amount.
pub say-none : (l : List ℕ) → (AllDigits l → ⊥) → fifteen_of (number_of l) ≡ Said.NonDigit
say-none l f = go (number_of l) refl
  where
    go : (d : Digits) → number_of l ≡ d → fifteen_of d ≡ Said.NonDigit
    go (Number v) e = absurd (f (say-digits l 0 0 v e))
    go (NonDigit i) e = refl
    go TooLong e = refl

-- A digit says at most 9.
pub values-at-most : (l : List ℕ) → AllDigits l → AtMost 9 (values l)
values-at-most [] p = none
values-at-most (b ∷ bs) (one_more h j p) = also {b = b - 48} (omega arith) (values-at-most bs p)

-- As many values as digits.
pub values_length : (l : List ℕ) → length (values l) ≡ length l
values_length [] = refl
values_length (b ∷ bs) = ap suc (values_length bs)
