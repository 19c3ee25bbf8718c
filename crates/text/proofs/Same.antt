-- What it is for bytes to be the same.
use Prim.Native.Nat.{ℕ, suc}
use mathlib.Core.Path.{◌≡◌, refl, ap, ap₂}
use mathlib.Core.Bool.{Bool, true, false, cond, false≢true, ◌&&◌}
use mathlib.Core.List.{List, [], ◌∷◌}
use borrow.Author.Tests.{eq-eqb, eqb-true}
use lib.ListN.{length}
use lib.Dec.{eqb}
use lib.Pointwise.{pointwise}
use Rattle.text.specs.Same.{same_bytes}

-- Bytes are the same where each pair of them is.
pub same-pairs : (l k : List ℕ) → same_bytes l k ≡ pointwise eqb l k
unfolding same_bytes
same-pairs [] [] = refl
same-pairs [] (b ∷ bs) = refl
same-pairs (a ∷ l) [] = refl
same-pairs (a ∷ l) (b ∷ bs) = go (eqb a b) (same-pairs l bs)
  where
    go : (t : Bool) → same_bytes l bs ≡ pointwise eqb l bs → cond t (same_bytes l bs) false ≡ (t && pointwise eqb l bs)
    go true e = e
    go false e = refl

-- Lists of which one is longer are not the same.
pub same-lengths : (l k : List ℕ) → (length l ≡ length k → ⊥) → same_bytes l k ≡ false
unfolding same_bytes
same-lengths [] [] n = absurd (n refl)
same-lengths [] (b ∷ bs) n = refl
same-lengths (a ∷ l) [] n = refl
same-lengths (a ∷ l) (b ∷ bs) n = go (eqb a b) (same-lengths l bs (λ e. n (ap suc e)))
  where
    go : (t : Bool) → same_bytes l bs ≡ false → cond t (same_bytes l bs) false ≡ false
    go true e = e
    go false e = refl

-- Bytes that are found the same are equal.
pub same_bytes_lem : (l k : List ℕ) → same_bytes l k ≡ true → l ≡ k
unfolding same_bytes
same_bytes_lem [] [] e = refl
same_bytes_lem [] (b ∷ bs) e = absurd (false≢true e)
same_bytes_lem (a ∷ l) [] e = absurd (false≢true e)
same_bytes_lem (a ∷ l) (b ∷ bs) e = go (eqb a b) refl e (same_bytes_lem l bs)
  where
    go : (t : Bool) → eqb a b ≡ t → cond t (same_bytes l bs) false ≡ true → (same_bytes l bs ≡ true → l ≡ bs) → a ∷ l ≡ b ∷ bs
    go true p q ih = ap₂ ◌∷◌ (eqb-true a b p) (ih q)
    go false p q ih = absurd (false≢true q)

-- Bytes are the same as themselves.
pub same-itself : (l : List ℕ) → same_bytes l l ≡ true
unfolding same_bytes
same-itself [] = refl
same-itself (b ∷ l) = rw (eq-eqb b b refl) (same-itself l)
