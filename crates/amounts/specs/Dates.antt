-- Believed. The rule on dates, as ask 4 of document 02 amends it.
use Rattle.std.specs.Prelude.{ℕ, ◌/◌, ◌%◌, Bool, cond, List, [], ◌∷◌, eqb, get_or}
use Rattle.text.specs.Among.{from_to}

-- "years are 2000 to 2099, with a leap year each fourth": of two digits, so 2000 is 0
unfoldable pub leap : ℕ → Bool
leap year = eqb (year % 4) 0

-- the days of the twelve months, from January on, in a leap year or another
unfoldable pub months : Bool → List ℕ
months leap_year = 31 ∷ cond leap_year 29 28 ∷ 31 ∷ 30 ∷ 31 ∷ 30 ∷ 31 ∷ 31 ∷ 30 ∷ 31 ∷ 30 ∷ 31 ∷ []

-- the days of a month, which counts from 1; none where there is no such month
unfoldable pub days_in : ℕ → ℕ → ℕ
days_in month year = get_or (0 ∷ months (leap year)) month 0

-- "A date is valid only if the day exists in that month"
unfoldable pub day_exists : ℕ → ℕ → ℕ → Bool
day_exists day month year = from_to 1 (days_in month year) day

-- "creation date at 14-19, day, month, two-digit year", as one number
unfoldable pub date_right : ℕ → Bool
date_right v = day_exists (v / 10000) (v / 100 % 100) (v % 100)
