-- What it is for bytes to be the same, and for a name to be right, by the tests that the library makes of all of them.
use Prim.Native.Nat.{ℕ}
use mathlib.Core.Path.{◌≡◌, refl, ap₂}
use mathlib.Core.Bool.{Bool, true, false, cond, not, ◌&&◌, false≢true}
use mathlib.Core.List.{List, [], ◌∷◌}
use borrow.Author.Tests.{eq-eqb, eqb-true}
use lib.Dec.{eqb}
use lib.Pointwise.{pointwise}
use Rattle.std.specs.List.{list_all}
use Rattle.amounts.specs.Names.{name_right, same_bytes}

-- the test of one byte of a name
abbrev pub byte_right : ℕ → Bool
byte_right b = cond (eqb b 47) false (not (eqb b 58))

pub name-all : (l : List ℕ) → list_all byte_right l ≡ name_right l
unfolding name_right
name-all [] = refl
name-all (b ∷ l) = rw (name-all l) (go (eqb b 47) (eqb b 58) (name_right l))
  where
    go : (s t r : Bool) → (cond s false (not t) && r) ≡ cond s false (cond t false r)
    go true t r = refl
    go false true r = refl
    go false false r = refl

pub same-pointwise : (l k : List ℕ) → pointwise eqb l k ≡ same_bytes l k
unfolding same_bytes
same-pointwise [] [] = refl
same-pointwise [] (b ∷ k) = refl
same-pointwise (a ∷ l) [] = refl
same-pointwise (a ∷ l) (b ∷ k) = rw (same-pointwise l k) (go (eqb a b) (same_bytes l k))
  where
    go : (t r : Bool) → (t && r) ≡ cond t r false
    go true r = refl
    go false r = refl

-- Bytes that are found the same are equal.
pub same_bytes_lem : (l k : List ℕ) → same_bytes l k ≡ true → l ≡ k
unfolding same_bytes
same_bytes_lem [] [] e = refl
same_bytes_lem [] (b ∷ bs) e = absurd (false≢true e)
same_bytes_lem (a ∷ l) [] e = absurd (false≢true e)
same_bytes_lem (a ∷ l) (b ∷ bs) e = go (eqb a b) refl e (same_bytes_lem l bs)
  where
    go : (t : Bool) → eqb a b ≡ t → cond t (same_bytes l bs) false ≡ true → (same_bytes l bs ≡ true → l ≡ bs) → a ∷ l ≡ b ∷ bs
    go true p q ih = ap₂ ◌∷◌ (eqb-true a b p) (ih q)
    go false p q ih = absurd (false≢true q)

-- Bytes are the same as themselves.
pub same-itself : (l : List ℕ) → same_bytes l l ≡ true
unfolding same_bytes
same-itself [] = refl
same-itself (b ∷ l) = rw (eq-eqb b b refl) (same-itself l)
