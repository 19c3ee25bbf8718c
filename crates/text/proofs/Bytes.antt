-- The byte at a place of a list, a part of it, and what a test for a range of bytes says of a byte.
use Prim.Native.Nat.{ℕ, ◌+◌, ◌<◌, ◌≤◌}
use mathlib.Core.Path.{◌≡◌, refl}
use mathlib.Core.Bool.{Bool, true, false, cond, false≢true}
use mathlib.Core.List.{List, ◌∷◌}
use native.Mathlib.Omega.{arith}
use native.Mathlib.Numerals.{add-one}
use borrow.Author.Tests.{ltb-false, le-ltb}
use lib.Dec.{ltb}
use lib.ListN.{length, take, drop, get_or, length-drop}
use lib.Seq.{drop-cons, length-take-le}

-- What is left of a list at a place within it is its byte there and what is left after it.
pub drop-one : (l : List ℕ) (i : ℕ) → i < length l → drop i l ≡ get_or l i 0 ∷ drop (i + 1) l
drop-one l i h = rw add-one (drop-cons l i 0 h)

-- A part that lies within a list is as long as it says.
pub part_length : (n i : ℕ) (l : List ℕ) → i + n ≤ length l → length (take n (drop i l)) ≡ n
part_length n i l h = length-take-le n (drop i l) (rw length-drop (omega arith))

module _ (lo hi b : ℕ) where
  -- A byte that passes the test lies within the range.
  pub between : cond (ltb b lo) false (cond (ltb hi b) false true) ≡ true → (lo ≤ b) × (b ≤ hi)
  between e = go (ltb b lo) (ltb hi b) refl refl e
    where
      go : (s t : Bool) → ltb b lo ≡ s → ltb hi b ≡ t → cond s false (cond t false true) ≡ true → (lo ≤ b) × (b ≤ hi)
      go true t p q r = absurd (false≢true r)
      go false true p q r = absurd (false≢true r)
      go false false p q r = (ltb-false b lo p, ltb-false hi b q)

  -- A byte within the range passes the test.
  pub within : lo ≤ b → b ≤ hi → cond (ltb b lo) false (cond (ltb hi b) false true) ≡ true
  within h i = rw (le-ltb b lo h, le-ltb hi b i)
