-- Serves inner functions. Several bytes taken as one number, the first one lowest, and what fifteen characters say.
use Rattle.std.specs.Prelude.{ℕ, ◌+◌, ◌*◌, ◌^◌, ◌≤◌, ◌≡◌, List, [], ◌∷◌, length, take, drop}
use Rattle.text.specs.Answers.{Digits, Number, NonDigit, TooLong}
use Rattle.words.specs.Answers.{Fifteen}
use Rattle.words.specs.Answers as Said

-- A list of fields of k bits as one number.
unfoldable pub word_by : ℕ → List ℕ → ℕ
word_by k [] = 0
word_by k (b ∷ bs) = word_by k bs * 2 ^ k + b

-- A list of bytes as one number.
abbrev pub word : List ℕ → ℕ
word l = word_by 8 l

-- The amount that was read, or that there was none.
abbrev pub fifteen_of : Digits → Fifteen
fifteen_of (Number n) = Said.Amount n
fifteen_of (NonDigit i) = Said.NonDigit
fifteen_of TooLong = Said.NonDigit

-- Every number of a list is at most m.
pub data AtMost (m : ℕ) : List ℕ → Type 0 where
  none : AtMost m []
  also : {b : ℕ} {bs : List ℕ} → b ≤ m → AtMost m bs → AtMost m (b ∷ bs)

-- A word of eight bytes, each with its top bit clear.
pub record Spelt (w : ℕ) : Type 0 where
  pub chars : List ℕ
  pub eight : length chars ≡ 8
  pub fine : AtMost 127 chars
  pub whole : w ≡ word chars

-- Fifteen such bytes, by the word of the first eight and that of the last eight.
pub record Halves (front back : ℕ) : Type 0 where
  pub chars : List ℕ
  pub fifteen : length chars ≡ 15
  pub fine : AtMost 127 chars
  pub first : front ≡ word (take 8 chars)
  pub last : back ≡ word (drop 7 chars)
