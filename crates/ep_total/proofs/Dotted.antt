-- Laws of the dots: a number below 1000 has none, any other one before its last three digits; and how long a text with dots is.
use Prim.Native.Nat.{ℕ, zero, suc, ◌+◌, ◌/◌, ◌%◌, ◌≤◌, ◌<◌}
use mathlib.Core.Path.{◌≡◌, refl, ap}
use mathlib.Core.List.{List, ◌∷◌, ◌++◌}
use native.Mathlib.Omega.{arith}
use native.Mathlib.Decide.{dec_le}
use borrow.Author.Tests.{lt-ltb, le-ltb, le-leb, lt-leb}
use lib.ListN.{length, length-append}
use Rattle.text.specs.Numbers.{digits_of}
use Rattle.text.proofs.Numerals.{length_digits}
use Rattle.printing.specs.Decimal.{decimal}
use Rattle.printing.proofs.Widths.{width-upto, width_some, length-decimal}
use Rattle.ep_total.specs.Total.{dot, dotted_within, dotted, euro_text}

-- The dots do not depend on the bound that their count is given.
any-bound : (j k n : ℕ) → n ≤ j → n ≤ k → dotted_within j n ≡ dotted_within k n
unfolding dotted_within
any-bound zero zero n h l = refl
any-bound zero (suc k) n h l = rw (lt-ltb n 1000 (omega arith))
any-bound (suc j) zero n h l = rw (lt-ltb n 1000 (omega arith))
any-bound (suc j) (suc k) n h l = rw (any-bound j k (n / 1000) (omega arith) (omega arith))

-- A number below 1000 has no dot.
pub dotted-small : (n : ℕ) → n < 1000 → dotted n ≡ decimal n
unfolding dotted dotted_within
dotted-small zero h = refl
dotted-small (suc n) h = rw (lt-ltb (suc n) 1000 h)

-- Any other number has its thousands, a dot, and three digits.
pub dotted-more : (n : ℕ) → 1000 ≤ n → dotted n ≡ dotted (n / 1000) ++ (dot ∷ digits_of 3 (n % 1000))
unfolding dotted dotted_within
dotted-more zero h = absurd (omega arith)
dotted-more (suc n) h =
    rw (le-ltb (suc n) 1000 h)
    (ap (λ (t : List ℕ). t ++ (dot ∷ digits_of 3 (suc n % 1000))) (any-bound n (suc n / 1000) (suc n / 1000) (omega arith) (omega arith)))

-- A number below a million has one dot at most.
pub one-dot : (n : ℕ) → 1000 ≤ n → n < 1000000 → decimal (n / 1000) ++ (dot ∷ digits_of 3 (n % 1000)) ≡ dotted n
one-dot n h l = rw (dotted-more n h, dotted-small (n / 1000) (omega arith))

-- Three digits more, and the dot.
pub length_more : (n : ℕ) → 1000 ≤ n → length (dotted n) ≡ length (dotted (n / 1000)) + 4
length_more n h = rw (dotted-more n h, length-append) (omega (arith, length_digits 3 (n % 1000)))

-- A number below 1000 has at most three characters, one below a million seven, one below a thousand millions eleven.
short-small : (n : ℕ) → n < 1000 → length (dotted n) ≤ 3
short-small n h = rw (dotted-small n h, length-decimal n) (width-upto 2 n h)

short-thousands : (n : ℕ) → n < 1000000 → length (dotted n) ≤ 7
short-thousands n h = go (dec_le 1000 n)
  where
    go : Dec (1000 ≤ n) → length (dotted n) ≤ 7
    go (yes l) = omega (arith, length_more n l, short-small (n / 1000) (omega arith))
    go (no d) = omega (arith, short-small n (omega arith))

pub short-dotted : (n : ℕ) → n < 1000000000 → length (dotted n) ≤ 11
short-dotted n h = go (dec_le 1000 n)
  where
    go : Dec (1000 ≤ n) → length (dotted n) ≤ 11
    go (yes l) = omega (arith, length_more n l, short-thousands (n / 1000) (omega arith))
    go (no d) = omega (arith, short-small n (omega arith))

-- A text with dots has at least one character.
some-dotted : (n : ℕ) → 1 ≤ length (dotted n)
some-dotted n = go (dec_le 1000 n)
  where
    go : Dec (1000 ≤ n) → 1 ≤ length (dotted n)
    go (yes l) = omega (arith, length_more n l)
    go (no d) = rw (dotted-small n (omega arith), length-decimal n) (width_some n)

-- A number of a thousand millions or more has at least thirteen.
pub long-dotted : (n : ℕ) → 1000000000 ≤ n → 13 ≤ length (dotted n)
long-dotted n h =
    let a = length_more n (omega arith) in
    let b = length_more (n / 1000) (omega arith) in
    let c = length_more (n / 1000 / 1000) (omega arith) in
    omega (arith, some-dotted (n / 1000 / 1000 / 1000))

-- "999.999.999,99 keeps them": euros below a thousand millions have their dots.
pub euros-dotted : (e : ℕ) → e < 1000000000 → euro_text e ≡ dotted e
unfolding euro_text
euros-dotted e h = rw (le-leb (length (dotted e) + 3) 15 (omega (arith, short-dotted e h)))

-- "1000000000,00 doesn't": from there on they have none.
pub euros-plain : (e : ℕ) → 1000000000 ≤ e → euro_text e ≡ decimal e
unfolding euro_text
euros-plain e h = rw (lt-leb (length (dotted e) + 3) 15 (omega (arith, long-dotted e h)))
