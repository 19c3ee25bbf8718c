-- Laws of the number that a word says: by its length, and by how far its digits have been read.
use Prim.Native.Nat.{ℕ, ◌+◌, ◌-◌, ◌*◌, ◌^◌, ◌<◌, ◌≤◌}
use mathlib.Core.Path.{◌≡◌, refl, ap, ◌∙◌}
use mathlib.Core.Bool.{Bool, true, false, cond}
use mathlib.Core.List.{List, [], ◌∷◌}
use mathlib.Core.Logic.{◌⊎◌, inl, inr}
use native.Mathlib.Omega.{arith}
use borrow.Author.Tests.{lt-ltb, le-ltb, eq-eqb, ne_eqb}
use lib.ListN.{length, drop, get_or}
use Rattle.text.specs.Answers as Read
use Rattle.text.specs.Numbers.{digit, number_from, number_of}
use Rattle.text.proofs.Numerals.{number-low, number-high, number-on, number-end}
use Rattle.args.specs.Answers.{Number, NoNumber}
use Rattle.args.specs.Decimal.{fitting, decimal_of}

-- the tests on the length
pub word-empty : (l : List ℕ) → length l ≡ 0 → decimal_of l ≡ NoNumber
unfolding decimal_of
word-empty l e = rw (eq-eqb (length l) 0 e)

pub word-long : (l : List ℕ) → (length l ≡ 0 → ⊥) → 20 < length l → decimal_of l ≡ NoNumber
unfolding decimal_of
word-long l e h = rw (ne_eqb (length l) 0 e, lt-ltb 20 (length l) h)

pub word_read : (l : List ℕ) → (length l ≡ 0 → ⊥) → length l ≤ 20 → decimal_of l ≡ fitting (number_of l)
unfolding decimal_of
word_read l e h = rw (ne_eqb (length l) 0 e, le-ltb 20 (length l) h)

-- a number that 64 bits do not hold does not become smaller by further digits
too_large : (l : List ℕ) (i a : ℕ) → 2 ^ 64 ≤ a → fitting (number_from i a l) ≡ NoNumber
unfolding number_from
too_large [] i a h = rw (le-ltb a (2 ^ 64) h)
too_large (b ∷ bs) i a h = go (digit b) (too_large bs (i + 1) (a * 10 + (b - 48)) (omega arith))
  where
    go : (t : Bool) → fitting (number_from (i + 1) (a * 10 + (b - 48)) bs) ≡ NoNumber → fitting (cond t (number_from (i + 1) (a * 10 + (b - 48)) bs) (Read.NonDigit i)) ≡ NoNumber
    go true e = e
    go false e = refl

-- a turn over the bytes of a word: a byte that is no digit, a digit that makes the number too large, any other digit
module _ (l : List ℕ) (i : ℕ) (h : i < length l) (a : ℕ) where
  pub read_low : get_or l i 0 < 48 → fitting (number_from i a (drop i l)) ≡ NoNumber
  read_low t = rw (number-low l i h a t)

  pub read-high : 48 ≤ get_or l i 0 → 57 < get_or l i 0 → fitting (number_from i a (drop i l)) ≡ NoNumber
  read-high t u = rw (number-high l i h a t u)

  pub read-other : (get_or l i 0 < 48) ⊎ (57 < get_or l i 0) → fitting (number_from i a (drop i l)) ≡ NoNumber
  read-other (inl t) = read_low t
  read-other (inr u) = read-high (omega arith) u

  pub read-large : 48 ≤ get_or l i 0 → get_or l i 0 ≤ 57 → 2 ^ 64 ≤ a * 10 + (get_or l i 0 - 48) → fitting (number_from i a (drop i l)) ≡ NoNumber
  read-large t u g = ap fitting (number-on l i h a t u) ∙ too_large (drop (i + 1) l) (i + 1) (a * 10 + (get_or l i 0 - 48)) g

  pub read-on : 48 ≤ get_or l i 0 → get_or l i 0 ≤ 57 → fitting (number_from i a (drop i l)) ≡ fitting (number_from (i + 1) (a * 10 + (get_or l i 0 - 48)) (drop (i + 1) l))
  read-on t u = ap fitting (number-on l i h a t u)

-- no digit is left
pub read-end : (l : List ℕ) (a i : ℕ) → length l ≤ i → a < 2 ^ 64 → fitting (number_from i a (drop i l)) ≡ Number a
read-end l a i h g = rw (number-end l a i h, lt-ltb a (2 ^ 64) g)
