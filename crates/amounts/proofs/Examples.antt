-- Document 01's ten starred facts, as one table with a single statement.
use Prim.Native.Nat.{ℕ}
use mathlib.Core.Path.{◌≡◌, refl}
use mathlib.Core.Bool.{Bool, true, false, cond}
use mathlib.Core.List.{List, [], ◌∷◌}
use lib.Dec.{eqb}
use Rattle.text.specs.Answers.{Digits, Number, NonDigit, TooLong}
use Rattle.text.specs.Numbers.{number_from, read_number}
use Rattle.text.proofs.Tests.{alike, every}
use Rattle.layout.specs.Sections.{section_at}
use Rattle.amounts.specs.Amounts.{sign_of, apart, credit_right, line_right}

-- a fact: sums give a sign and a balance; a field is a number; a field is no number; a line of a section is right, or wrong
pub data Fact : Type 0 where
  sums : (debit credit sign balance : ℕ) → Fact
  field : (text : List ℕ) (amount : ℕ) → Fact
  no_field : (text : List ℕ) → Fact
  line : (section debit credit : ℕ) (allowed : Bool) → Fact

abbrev is_number : Digits → ℕ → Bool
is_number (Number n) v = eqb n v
is_number (NonDigit i) v = false
is_number TooLong v = false

abbrev no_number : Digits → Bool
no_number (Number n) = false
no_number (NonDigit i) = true
no_number TooLong = true

-- what the definitions say of a fact
abbrev holds : Fact → Bool
holds (sums d c s b) = cond (eqb (sign_of d c) s) (eqb (apart d c) b) false
holds (field t v) = is_number (read_number t) v
holds (no_field t) = no_number (read_number t)
holds (line s d c a) = alike (line_right s d c) a

-- the sections by the order of the table: Regioni is the third, section 17 the fifth; P is 80 and N is 78
pub facts : List Fact
facts =
    sums 5 5 80 0
    ∷ sums 10000 2500 80 7500
    ∷ sums 2500 10000 78 7500
    ∷ sums 0 1 78 1
    ∷ sums 999999999999999 0 80 999999999999999
    ∷ field (48 ∷ 48 ∷ 48 ∷ 48 ∷ 48 ∷ 48 ∷ 48 ∷ 48 ∷ 48 ∷ 48 ∷ 48 ∷ 55 ∷ 53 ∷ 48 ∷ 48 ∷ []) 7500
    ∷ no_field (48 ∷ 48 ∷ 48 ∷ 48 ∷ 48 ∷ 48 ∷ 48 ∷ 48 ∷ 48 ∷ 48 ∷ 48 ∷ 55 ∷ 53 ∷ 48 ∷ 32 ∷ [])
    ∷ line 2 0 0 false
    ∷ line 2 5 5 true
    ∷ line 4 100 1 false
    ∷ []

pub starred-facts : every holds facts ≡ true
unfolding facts sign_of apart line_right credit_right read_number number_from section_at
starred-facts = refl
