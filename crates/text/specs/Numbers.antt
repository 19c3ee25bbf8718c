-- Believed. Numbers in decimal digits: what a field of digits says, and how a number is written.
use Rattle.std.specs.Prelude.{ℕ, zero, suc, ◌+◌, ◌-◌, ◌*◌, ◌/◌, ◌%◌, List, [], ◌∷◌, ◌++◌, Bool, cond, ltb, length}
use Rattle.text.specs.Among.{from_to}
use Rattle.text.specs.Answers.{Digits, Number, NonDigit, TooLong}

-- A digit is a byte from 48 to 57.
abbrev pub digit : ℕ → Bool
digit b = from_to 48 57 b

-- The number that the digits say after i digits that say a, or the offset of the first byte that is no digit.
unfoldable pub number_from : ℕ → ℕ → List ℕ → Digits
number_from i a [] = Number a
number_from i a (b ∷ bs) = cond (digit b) (number_from (i + 1) (a * 10 + (b - 48)) bs) (NonDigit i)

-- The number that a list of digits says, or the offset of its first byte that is no digit.
abbrev pub number_of : List ℕ → Digits
number_of l = number_from 0 0 l

-- The number that was read, and 0 where none was.
abbrev pub amount_of : Digits → ℕ
amount_of (Number n) = n
amount_of (NonDigit i) = 0
amount_of TooLong = 0

-- A field has at most fifteen digits: a longer part is none.
unfoldable pub read_number : List ℕ → Digits
read_number l = cond (ltb 15 (length l)) TooLong (number_of l)

-- The number n in w digits, with zeros in front.
unfoldable pub digits_of : ℕ → ℕ → List ℕ
digits_of zero n = []
digits_of (suc w) n = digits_of w (n / 10) ++ ((48 + n % 10) ∷ [])
