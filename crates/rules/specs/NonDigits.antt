-- For theorems. Which character of a record refusal 7 names.
use Rattle.std.specs.Prelude.{ℕ, ◌<◌, ◌≡◌, true, false, List, get_or}
use Rattle.text.specs.Numbers.{digit}
use Rattle.layout.specs.declared.Field.{Field}
use Rattle.layout.specs.Fields.{in_columns}

-- "the first non-digit's own position": of the characters of r that stand in these fields, the one at index i is no digit, and every one before it is
pub record FirstNonDigit (fl : List Field) (r : List ℕ) (i : ℕ) : Type 0 where
  pub inside : in_columns i fl ≡ true
  pub wrong : digit (get_or r i 0) ≡ false
  pub before : (j : ℕ) → j < i → in_columns j fl ≡ true → digit (get_or r j 0) ≡ true

-- "A numeric field holds digits only": every character of r that stands in these fields is a digit
abbrev pub DigitsOnly : List Field → List ℕ → Type 0
DigitsOnly fl r = (j : ℕ) → in_columns j fl ≡ true → digit (get_or r j 0) ≡ true
