-- What the rule on dates comes to: a table of facts, and how many dates a year and the century have.
use Prim.Native.Nat.{ℕ, zero, suc, ◌+◌, ◌*◌, ◌/◌, ◌%◌, ◌<◌}
use native.Mathlib.Omega.{arith}
use mathlib.Core.Path.{◌≡◌, refl, ◌∙◌, ap}
use mathlib.Core.Bool.{Bool, true, false, cond}
use mathlib.Core.List.{List, [], ◌∷◌}
use lib.Dec.{eqb}
use lib.ListN.{get_or}
use Rattle.text.specs.Among.{from_to}
use Rattle.text.proofs.Tests.{every}
use Rattle.amounts.specs.Dates.{leap, months, days_in, day_exists, date_right}

-- six digits are a date, or they are none
pub data Fact : Type 0 where
  date : ℕ → Fact
  no-date : ℕ → Fact

-- of each month of 2015 and of 2016 the last day and the one behind it, "290216 passes, 290215 and 310416 don't" among them; the thirty-first of February; no day and no month; the leap day of 2000
pub facts : List Fact
facts =
    date 310115 ∷ no-date 320115 ∷ date 310116 ∷ no-date 320116
    ∷ date 280215 ∷ no-date 290215 ∷ date 290216 ∷ no-date 300216
    ∷ date 310315 ∷ no-date 320315 ∷ date 310316 ∷ no-date 320316
    ∷ date 300415 ∷ no-date 310415 ∷ date 300416 ∷ no-date 310416
    ∷ date 310515 ∷ no-date 320515 ∷ date 310516 ∷ no-date 320516
    ∷ date 300615 ∷ no-date 310615 ∷ date 300616 ∷ no-date 310616
    ∷ date 310715 ∷ no-date 320715 ∷ date 310716 ∷ no-date 320716
    ∷ date 310815 ∷ no-date 320815 ∷ date 310816 ∷ no-date 320816
    ∷ date 300915 ∷ no-date 310915 ∷ date 300916 ∷ no-date 310916
    ∷ date 311015 ∷ no-date 321015 ∷ date 311016 ∷ no-date 321016
    ∷ date 301115 ∷ no-date 311115 ∷ date 301116 ∷ no-date 311116
    ∷ date 311215 ∷ no-date 321215 ∷ date 311216 ∷ no-date 321216
    ∷ no-date 310215 ∷ no-date 0 ∷ date 290200
    ∷ []

abbrev holds : Fact → Bool
holds (date v) = date_right v
holds (no-date v) = cond (date_right v) false true

pub calendar-facts : every holds facts ≡ true
unfolding facts date_right day_exists days_in months leap
calendar-facts = refl

-- the sum of f over the numbers below n, and how many of these pass a test
abbrev total : (ℕ → ℕ) → ℕ → ℕ
total f zero = 0
total f (suc n) = f n + total f n

abbrev passing : (ℕ → Bool) → ℕ → ℕ
passing p n = total (λ i. cond (p i) 1 0) n

total-same : (f g : ℕ → ℕ) (n : ℕ) → ((i : ℕ) → i < n → f i ≡ g i) → total f n ≡ total g n
total-same f g zero h = refl
total-same f g (suc n) h = rw (h n (omega arith), total-same f g n (λ i l. h i (omega arith)))

-- day, month and year as six digits
abbrev digits : ℕ → ℕ → ℕ → ℕ
digits day month year = day * 10000 + month * 100 + year

-- how many of the ten thousand numbers of six digits that end in a year are dates
abbrev dates_of : ℕ → ℕ
dates_of year = total (λ month. passing (λ day. date_right (digits day month year)) 100) 100

-- the days of a month of a leap year, or of another year
abbrev length_of : Bool → ℕ → ℕ
length_of leap_year month = get_or (0 ∷ months leap_year) month 0

-- how many pairs of a month and a day such a year has
abbrev days_of : Bool → ℕ
days_of b = total (λ month. passing (λ day. from_to 1 (length_of b month) day) 100) 100

days-of : (b : Bool) → days_of b ≡ cond b 366 365
unfolding months
days-of true = refl
days-of false = refl

-- a number of six digits is a date where its day is one of its month's
parts : (day month year : ℕ) → month < 100 → year < 100 → date_right (digits day month year) ≡ from_to 1 (length_of (leap year) month) day
unfolding date_right day_exists days_in
parts day month year m y =
    let d : digits day month year / 10000 ≡ day = omega arith in
    let e : digits day month year / 100 % 100 ≡ month = omega arith in
    let f : digits day month year % 100 ≡ year = omega arith in
    rw (d, e, f)

-- a year has 366 dates if it divides by four, and 365 if not
pub year-has : (year : ℕ) → year < 100 → dates_of year ≡ cond (eqb (year % 4) 0) 366 365
unfolding leap
year-has year y =
    total-same _ _ 100 (λ month m. total-same _ _ 100 (λ day d. ap (λ (p : Bool). cond p 1 0) (parts day month year m y)))
    ∙ days-of (leap year)

-- the century has as many dates as days
pub century-has : total dates_of 100 ≡ 36525
century-has = total-same dates_of (λ year. cond (eqb (year % 4) 0) 366 365) 100 year-has ∙ refl
