-- What tests say: one that does not hold, two that are joined, two that agree, one that chooses, one over a list, one over all numbers below a bound.
use Prim.Native.Nat.{ℕ, zero, suc, ◌<◌}
use mathlib.Core.Path.{◌≡◌, refl}
use mathlib.Core.Bool.{Bool, true, false, cond, false≢true}
use mathlib.Core.List.{List, [], ◌∷◌}
use native.Mathlib.Omega.{arith}
use borrow.Author.Tests.{eqb-true, eqb-false}
use lib.Dec.{eqb}

-- A test that does not hold is false.
pub untrue : (b : Bool) → (b ≡ true → ⊥) → b ≡ false
untrue true h = absurd (h refl)
untrue false h = refl

-- Two tests that are joined hold both.
pub both_true : (a b : Bool) → cond a b false ≡ true → (a ≡ true) × (b ≡ true)
both_true true b e = (refl, e)
both_true false b e = absurd (false≢true e)

-- Two tests agree.
abbrev pub alike : Bool → Bool → Bool
alike true b = b
alike false b = cond b false true

pub alike_same : (a b : Bool) → alike a b ≡ true → a ≡ b
alike_same true true e = refl
alike_same true false e = absurd (false≢true e)
alike_same false true e = absurd (false≢true e)
alike_same false false e = refl

-- A fact of both things that a test chooses between is one of the thing chosen.
pub either_way : {A : Type 0} (P : A → Type 0) (b : Bool) (x y : A) → P x → P y → P (cond b x y)
either_way P true x y f g = f
either_way P false x y f g = g

-- Every one of a list passes a test.
abbrev pub every : {A : Type 0} → (A → Bool) → List A → Bool
every p [] = true
every p (x ∷ xs) = cond (p x) (every p xs) false

-- Every number below a bound passes a test, and so each of them does.
abbrev pub all_below : (ℕ → Bool) → ℕ → Bool
all_below f zero = true
all_below f (suc n) = cond (f n) (all_below f n) false

pub each_below : (f : ℕ → Bool) (n : ℕ) → all_below f n ≡ true → (b : ℕ) → b < n → f b ≡ true
each_below f zero e b h = absurd (omega arith)
each_below f (suc n) e b h = go (f n) refl e (eqb b n) refl (λ r l. each_below f n r b l)
  where
    go : (t : Bool) → f n ≡ t → cond t (all_below f n) false ≡ true → (s : Bool) → eqb b n ≡ s → (all_below f n ≡ true → b < n → f b ≡ true) → f b ≡ true
    go false p e s q below = absurd (false≢true e)
    go true p e true q below = rw (eqb-true b n q) p
    go true p e false q below = let d = eqb-false b n q in below e (omega arith)
