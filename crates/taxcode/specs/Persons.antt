-- Believed. A tax code of sixteen characters: the decree of 23 December 1976, in the words of ask 2 of document 02.
use Rattle.std.specs.Prelude.{ℕ, ◌+◌, ◌-◌, ◌%◌, Bool, true, false, cond, List, [], ◌∷◌, eqb, length, get_or, take}
use Rattle.text.specs.Among.{among, from_to}
use Rattle.text.specs.Numbers.{digit}
use Rattle.taxcode.specs.Places.{spelled, every_from, sum_from, by_place}

-- "In even places a digit counts itself and a letter its place from A as 0"
unfoldable pub even_value : ℕ → ℕ
even_value b = cond (digit b) (b - 48) (b - 65)

-- "in odd places A to Z count 1 0 5 7 9 13 15 17 19 21 2 4 18 20 11 3 6 8 12 14 16 10 22 25 24 23"
unfoldable pub odd_values : List ℕ
odd_values =
    1 ∷ 0 ∷ 5 ∷ 7 ∷ 9 ∷ 13 ∷ 15 ∷ 17 ∷ 19 ∷ 21 ∷ 2 ∷ 4 ∷ 18 ∷ 20 ∷ 11 ∷ 3 ∷ 6 ∷ 8 ∷ 12 ∷ 14 ∷ 16 ∷ 10 ∷ 22 ∷ 25 ∷ 24 ∷ 23 ∷ []

-- "and 0 to 9 count as A to J"
unfoldable pub odd_value : ℕ → ℕ
odd_value b = get_or odd_values (even_value b) 0

-- what the character b in place k counts
unfoldable pub value_at : ℕ → ℕ → ℕ
value_at k b = by_place k (even_value b) (odd_value b)

-- "the values of the first fifteen, summed modulo 26, give the last letter (A is 0)"
unfoldable pub last_letter : List ℕ → ℕ
last_letter bs = 65 + sum_from value_at 1 bs % 26

-- "capital letters": A to Z
unfoldable pub capital : ℕ → Bool
capital b = from_to 65 90 b

-- "digits, or L M N P Q R S T U V for 0 to 9"
unfoldable pub figure : ℕ → Bool
figure b = cond (digit b) true (among b (spelled "LMNPQRSTUV"))

-- "Places 7, 8, 10, 11 and 13 to 15"
unfoldable pub holds_figure : ℕ → Bool
holds_figure k = among k (7 ∷ 8 ∷ 10 ∷ 11 ∷ 13 ∷ 14 ∷ 15 ∷ [])

-- these places "hold digits, or L M N P Q R S T U V for 0 to 9; the others capital letters"
unfoldable pub place_right : ℕ → ℕ → Bool
place_right k b = cond (holds_figure k) (figure b) (capital b)

-- "Sixteen characters": the first fifteen each as their place asks, and the last the letter that they give
unfoldable pub person_right : List ℕ → Bool
person_right code =
    cond (eqb (length code) 16)
    (cond (every_from place_right 1 (take 15 code)) (eqb (get_or code 15 0) (last_letter (take 15 code))) false)
    false
