-- Laws of the number of digits: between which powers of ten a number lies, that one of 64 bits has at most twenty digits, and that
-- the decimal digits of a number say that number, with no zero in front.
use Prim.Native.Nat.{ℕ, zero, suc, ◌+◌, ◌*◌, ◌/◌, ◌^◌, ◌≤◌, ◌<◌}
use mathlib.Core.Path.{◌≡◌, refl, ap}
use mathlib.Core.Bool.{Bool, true, false, cond}
use native.Mathlib.Numerals.{add-one}
use native.Mathlib.Omega.{arith}
use native.Mathlib.Decide.{dec_le}
use native.Mathlib.Nat.{lt_of_lt_of_le, pow-suc, pow-le-pow_right}
use borrow.Author.Tests.{lt-ltb, ltb-true, ltb-false}
use lib.Dec.{ltb, lit≤, lit<}
use lib.ListN.{length}
use Rattle.text.specs.Answers.{Number}
use Rattle.text.specs.Numbers.{number_of, digits_of}
use Rattle.text.proofs.Numerals.{number_digits, length_digits}
use Rattle.printing.specs.Decimal.{width_within, width_of, decimal}

-- A number below ten has one digit.
pub width_one : (n : ℕ) → n ≤ 9 → width_of n ≡ 1
unfolding width_of width_within
width_one zero h = refl
width_one (suc n) h = rw (lt-ltb (suc n) 10 (omega arith))

-- A number below 10 ^ (w + 1) is counted at most w + 1 digits.
width-below : (k w n : ℕ) → n < 10 ^ suc w → width_within k n ≤ suc w
unfolding width_within
width-below zero w n h = omega arith
width-below (suc k) w n h = go (ltb n 10) refl w h (λ v l. width-below k v (n / 10) l)
  where
    go : (t : Bool) → ltb n 10 ≡ t → (v : ℕ) → n < 10 ^ suc v → ((u : ℕ) → n / 10 < 10 ^ suc u → width_within k (n / 10) ≤ suc u) → cond t 1 (width_within k (n / 10) + 1) ≤ suc v
    go true e v l ih = omega arith
    go false e zero l ih = absurd (omega (arith, ltb-false n 10 e))
    go false e (suc v) l ih = omega (arith, ih v (omega (arith, rw pow-suc at l)))

-- A number has at least one digit.
pub width_some : (n : ℕ) → 1 ≤ width_of n
unfolding width_of width_within
width_some zero = omega arith
width_some (suc n) = go (ltb (suc n) 10)
  where
    go : (t : Bool) → 1 ≤ cond t 1 (width_within n (suc n / 10) + 1)
    go true = omega arith
    go false = omega arith

-- A number below 10 ^ (w + 1) has at most w + 1 digits.
pub width-upto : (w n : ℕ) → n < 10 ^ suc w → width_of n ≤ suc w
unfolding width_of
width-upto w n h = width-below n w n h

-- A number of 64 bits has at most twenty digits.
pub width-twenty : (n : ℕ) → n < 2 ^ 64 → width_of n ≤ 20
width-twenty n h = width-upto 19 n (lt_of_lt_of_le h (lit≤ tt))

-- A number is below the power of ten of its digits.
spelled-within : (k n : ℕ) → n ≤ k → n < 10 ^ width_within k n
unfolding width_within
spelled-within zero n h = omega arith
spelled-within (suc k) n h = go (ltb n 10) refl (spelled-within k (n / 10) (omega arith))
  where
    go : (t : Bool) → ltb n 10 ≡ t → n / 10 < 10 ^ width_within k (n / 10) → n < 10 ^ cond t 1 (width_within k (n / 10) + 1)
    go true e ih = ltb-true n 10 e
    go false e ih = rw (add-one, pow-suc) (omega arith)

-- A number is said by as many digits as it has.
pub width-enough : (n : ℕ) → n < 10 ^ width_of n
unfolding width_of
width-enough n = spelled-within n n (omega arith)

-- A number of 10 ^ w or more has more than w digits.
pub width_above : (w n : ℕ) → 10 ^ w ≤ n → w < width_of n
width_above w n h = go (dec_le (width_of n) w)
  where
    go : Dec (width_of n ≤ w) → w < width_of n
    go (yes e) =
        let p : 10 ^ width_of n ≤ 10 ^ w = pow-le-pow_right {n = 10} (lit< tt) {i = width_of n} {j = w} e in
        absurd (omega (arith, width-enough n))
    go (no d) = omega arith

-- A number between two powers of ten has as many digits as the larger has zeros.
pub width-between : (w n : ℕ) → 10 ^ w ≤ n → n < 10 ^ suc w → width_of n ≡ suc w
width-between w n h l = omega (arith, width_above w n h, width-upto w n l)

-- The decimal text of a number has as many bytes as the number has digits.
pub length-decimal : (n : ℕ) → length (decimal n) ≡ width_of n
unfolding decimal
length-decimal n = length_digits (width_of n) n

-- A number between two powers of ten is printed in as many digits as the larger has zeros.
pub decimal-between : (w n : ℕ) → 10 ^ w ≤ n → n < 10 ^ suc w → decimal n ≡ digits_of (suc w) n
unfolding decimal
decimal-between w n h l = ap (λ (k : ℕ). digits_of k n) (width-between w n h l)

-- The decimal text of a number says the number.
pub decimal-says : (n : ℕ) → number_of (decimal n) ≡ Number n
unfolding decimal
decimal-says n = number_digits (width_of n) n (width-enough n)

-- With one digit fewer a number above zero would not be said.
least-within : (k n : ℕ) → 0 < n → 10 ^ width_within k n ≤ n * 10
unfolding width_within
least-within zero n h = omega arith
least-within (suc k) n h = go (ltb n 10) refl (λ l. least-within k (n / 10) l)
  where
    go : (t : Bool) → ltb n 10 ≡ t → (0 < n / 10 → 10 ^ width_within k (n / 10) ≤ n / 10 * 10) → 10 ^ cond t 1 (width_within k (n / 10) + 1) ≤ n * 10
    go true e ih = omega arith
    go false e ih = rw (add-one, pow-suc) (omega (arith, ih (omega (arith, ltb-false n 10 e))))

-- The decimal text of a number above zero has no zero in front: one digit fewer would not do.
pub width-least : (n : ℕ) → 0 < n → 10 ^ width_of n ≤ n * 10
unfolding width_of
width-least n h = least-within n n h
