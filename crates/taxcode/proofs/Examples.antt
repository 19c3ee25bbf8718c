-- Which codes can exist: a table of facts with a single statement.
use Prim.Native.Nat.{ℕ, ◌-◌}
use Prim.Native.String.{String}
use mathlib.Core.Path.{◌≡◌, refl}
use mathlib.Core.Bool.{Bool, true, false, cond}
use mathlib.Core.List.{List, [], ◌∷◌}
use lib.ListN.{set}
use Rattle.text.specs.Among.{among}
use Rattle.text.proofs.Tests.{alike, every, all_below}
use Rattle.taxcode.specs.Places.{spelled, every_from, sum_from, by_place}
use Rattle.taxcode.specs.Persons.{capital, figure, holds_figure, place_right, even_value, odd_values, odd_value, value_at, last_letter, person_right}
use Rattle.taxcode.specs.Firms.{doubled, count_at, digit_or_space, firm_right}
use Rattle.taxcode.specs.TaxCodes.{code_right}

-- sixteen characters are a code, or they are none; of RSSMRA85T10A562S a place may hold these characters and no others, and each makes a code with its last letter; of 03417520545 a place may hold each digit, with its last digit
pub data Fact : Type 0 where
  passes : String → Fact
  fails : String → Fact
  letters : (place : ℕ) (characters last : String) → Fact
  digits : (place : ℕ) (last : String) → Fact

abbrev capitals : String
capitals = "ABCDEFGHIJKLMNOPQRSTUVWXYZ"

abbrev figures : String
figures = "0123456789LMNPQRSTUV"

-- "RSSMRA85T10A562S passes; ending in T it doesn't". Letters for digits, one and all seven. Lower case, a blank, a digit in a letter's place and O in a digit's, of which the last letter is the one that the sum gives. A VAT number with its check digit
-- and with the next; zeros; digits too few, moved to the right, with something behind them, and a letter among them. Blanks, and codes that are too short.
-- Then every character in every place. The last characters there are those of another program's tables (`cases/codes.py` has them, and `cases/outside.py` compares them with it)
pub facts : List Fact
facts =
    passes "RSSMRA85T10A562S" ∷ fails "RSSMRA85T10A562T"
    ∷ passes "RSSMRA85T10A56NH" ∷ passes "RSSMRAURTMLARSNL"
    ∷ fails "rssmra85t10a562s" ∷ fails "RSSMRA85t10A562S" ∷ fails "RSSMRA85T10A562s"
    ∷ fails " SSMRA85T10A562S" ∷ fails "RSSMRA8 T10A562S" ∷ fails "RSSMRA85T10A562 "
    ∷ fails "0SSMRA85T10A562L" ∷ fails "RSSMR085T10A562S" ∷ fails "RSSMRA85710A562V" ∷ fails "RSSMRA85T100562S" ∷ fails "RSSMRA85T1OA562C"
    ∷ passes "03417520545     " ∷ fails "03417520546     " ∷ passes "00000000000     "
    ∷ fails "0341752054      " ∷ fails "     03417520545" ∷ fails "03417520545    0" ∷ fails "0341752054A     "
    ∷ fails "                " ∷ fails "RSSMRA85T10A562" ∷ fails "03417520545" ∷ fails ""
    ∷ letters 1 capitals "LKPRTXZBDFMOCEVNQSWYAUGJIH"
    ∷ letters 2 capitals "ABCDEFGHIJKLMNOPQRSTUVWXYZ"
    ∷ letters 3 capitals "HGLNPTVXZBIKYARJMOSUWQCFED"
    ∷ letters 4 capitals "GHIJKLMNOPQRSTUVWXYZABCDEF"
    ∷ letters 5 capitals "LKPRTXZBDFMOCEVNQSWYAUGJIH"
    ∷ letters 6 capitals "STUVWXYZABCDEFGHIJKLMNOPQR"
    ∷ letters 7 figures "AZEGIMOQSUDRTCFHLNPJ"
    ∷ letters 8 figures "NOPQRSTUVWYZACDEFGHI"
    ∷ letters 9 capitals "FEJLNRTVXZGIWYPHKMQSUOADCB"
    ∷ letters 10 figures "RSTUVWXYZACDEGHIJKLM"
    ∷ letters 11 figures "SRWYAEGIKMVJLUXZDFHB"
    ∷ letters 12 capitals "STUVWXYZABCDEFGHIJKLMNOPQR"
    ∷ letters 13 figures "GFKMOSUWYAJXZILNRTVP"
    ∷ letters 14 figures "MNOPQRSTUVXYZBCDEFGH"
    ∷ letters 15 figures "ONSUWACEGIRFHQTVZBDX"
    ∷ digits 1 "5432109876"
    ∷ digits 2 "1975308642"
    ∷ digits 3 "9876543210"
    ∷ digits 4 "7531964208"
    ∷ digits 5 "2109876543"
    ∷ digits 6 "6420853197"
    ∷ digits 7 "7654321098"
    ∷ digits 8 "5319742086"
    ∷ digits 9 "0987654321"
    ∷ digits 10 "3197520864"
    ∷ []

-- each character at a place of a code, counted from 1, with its own last character at another
abbrev each : List ℕ → ℕ → ℕ → List ℕ → List ℕ → Bool
each code place last [] [] = true
each code place last [] (l ∷ ls) = false
each code place last (c ∷ cs) [] = false
each code place last (c ∷ cs) (l ∷ ls) = cond (code_right (set (set code (place - 1) c) (last - 1) l)) (each code place last cs ls) false

-- what the definition says of a fact
abbrev holds : Fact → Bool
holds (passes t) = code_right (spelled t)
holds (fails t) = cond (code_right (spelled t)) false true
holds (letters k cs ls) =
    cond (each (spelled "RSSMRA85T10A562S") k 16 (spelled cs) (spelled ls)) (all_below (λ b. alike (place_right k b) (among b (spelled cs))) 256) false
holds (digits k ls) = each (spelled "03417520545     ") k 11 (spelled "0123456789") (spelled ls)

pub code-facts : every holds facts ≡ true
unfolding facts code_right person_right firm_right every_from sum_from place_right holds_figure figure capital among spelled value_at by_place even_value odd_value odd_values last_letter digit_or_space count_at doubled
code-facts = refl
