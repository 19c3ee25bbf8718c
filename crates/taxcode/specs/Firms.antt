-- Believed. A tax code of eleven digits, which is a VAT number, in the words of ask 2 of document 02.
use Rattle.std.specs.Prelude.{ℕ, ◌-◌, ◌*◌, ◌%◌, Bool, false, cond, List, eqb, ltb, leb, length, take}
use Rattle.text.specs.Numbers.{digit}
use Rattle.taxcode.specs.Places.{every_from, sum_from, by_place}

-- "doubled, less 9 if above 9"
unfoldable pub doubled : ℕ → ℕ
doubled d = cond (ltb 9 (2 * d)) (2 * d - 9) (2 * d)

-- "with even places doubled": what the digit b in place k counts
unfoldable pub count_at : ℕ → ℕ → ℕ
count_at k b = by_place k (doubled (b - 48)) (b - 48)

-- "Eleven digits (a VAT number) and five spaces"
unfoldable pub digit_or_space : ℕ → ℕ → Bool
digit_or_space k b = cond (leb k 11) (digit b) (eqb b 32)

-- "all eleven sum to a multiple of ten"
unfoldable pub firm_right : List ℕ → Bool
firm_right code =
    cond (eqb (length code) 16)
    (cond (every_from digit_or_space 1 code) (eqb (sum_from count_at 1 (take 11 code) % 10) 0) false)
    false
