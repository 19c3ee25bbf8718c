-- A list of numbers gone through one by one: whether a number is among them, and whether each is named once.
use Prim.Native.Nat.{ℕ, ◌+◌, ◌-◌, ◌<◌, ◌≤◌}
use mathlib.Core.Path.{◌≡◌, refl, sym, ◌∙◌}
use mathlib.Core.Bool.{Bool, true, false, cond, ◌||◌}
use mathlib.Core.List.{List, [], ◌∷◌}
use borrow.Author.Tests.{eq-eqb, ne_eqb, eqb-true, eqb-false}
use Rattle.std.specs.List.{list_any}
use borrow.Author.Rules.{part_to_end}
use lib.Dec.{eqb}
use lib.ListN.{length, take, drop, get_or, drop_of_length-le}
use Rattle.text.specs.Among.{among, from_to}
use Rattle.text.proofs.Bytes.{drop-one}
use Rattle.close.specs.Closing.{each_once}
use Rattle.close.specs.Inner.{named_once}

-- Each number is named once where the first is, and each of the others.
pub once-cons : (n d : ℕ) (ds : List ℕ) → each_once n (d ∷ ds) ≡ cond (named_once n d ds) (each_once n ds) false
unfolding each_once named_once
once-cons n d ds = go (from_to 1 n d) (among d ds)
  where
    go : (s t : Bool) → cond s (cond t false (each_once n ds)) false ≡ cond (cond s (cond t false true) false) (each_once n ds) false
    go true true = refl
    go true false = refl
    go false t = refl

-- A test of each number of a list against one says whether that is among them.
pub among-any : (d : ℕ) (l : List ℕ) → list_any (λ y. eqb y d) l ≡ among d l
unfolding among
among-any d [] = refl
among-any d (x ∷ xs) = go (eqb x d) refl (among-any d xs)
  where
    go : (t : Bool) → eqb x d ≡ t → list_any (λ y. eqb y d) xs ≡ among d xs → (t || list_any (λ y. eqb y d) xs) ≡ cond (eqb d x) true (among d xs)
    go true e h = rw (eq-eqb d x (sym (eqb-true x d e)))
    go false e h = rw (ne_eqb d x (λ q. eqb-false x d e (sym q))) h

module _ (l : List ℕ) (i : ℕ) where
  -- The next number was asked about, with the part behind it.
  module _ (n : ℕ) (t : Bool) (h : i < length l) (asked : t ≡ named_once n (get_or l i 0) (take (length l - (i + 1)) (drop (i + 1) l))) where
    -- Each of those left is named once where the next is, and each of those behind it.
    once-next : each_once n (drop i l) ≡ cond t (each_once n (drop (i + 1) l)) false
    once-next = rw (drop-one l i h, asked, part_to_end l (i + 1)) (once-cons n (get_or l i 0) (drop (i + 1) l))

    -- Where the next is not, not each is.
    pub once-fails : t ≡ false → each_once n (drop i l) ≡ false
    once-fails e = once-next ∙ rw e

    -- Where the next is, it is for those behind it to say.
    pub once-on : t ≡ true → each_once n (drop i l) ≡ each_once n (drop (i + 1) l)
    once-on e = once-next ∙ rw e

  -- Each of none is named once.
  pub once-end : (n : ℕ) → length l ≤ i → each_once n (drop i l) ≡ true
  unfolding each_once
  once-end n h = rw (drop_of_length-le l h)
