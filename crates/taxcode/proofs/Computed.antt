-- By a test that is computed for every number below a bound it is shown of the characters that may stand in a place that they count differently.
use Prim.Native.Nat.{ℕ, ◌<◌}
use mathlib.Core.Path.{◌≡◌}
use mathlib.Core.Bool.{Bool, true, false, cond}
use lib.Dec.{eqb, ltb}
use borrow.Author.Tests.{eqb-true, ltb-true, eq-eqb}
use Rattle.text.proofs.Tests.{both_true, all_below, each_below}

-- the characters that pass r count less than m, each another number
pub record Tells (r : ℕ → Bool) (v : ℕ → ℕ) (m : ℕ) : Type 0 where
  pub small : (a : ℕ) → r a ≡ true → v a < m
  pub apart : (a b : ℕ) → r a ≡ true → r b ≡ true → v a ≡ v b → a ≡ b

module _ (r : ℕ → Bool) (v : ℕ → ℕ) (m n : ℕ) where
  abbrev other : ℕ → ℕ → Bool
  other a b = cond (r b) (cond (eqb (v a) (v b)) (eqb a b) true) true

  abbrev counts : ℕ → Bool
  counts a = cond (r a) (cond (ltb (v a) m) (all_below (other a) n) false) true

  pub tells : ((a : ℕ) → r a ≡ true → a < n) → all_below counts n ≡ true → Tells r v m
  tells below t = record { small = λ a p. ltb-true (v a) m (each a p).0; apart = λ a b p q e. eqb-true a b (same a b q e (each_below (other a) n (each a p).1 b (below b q))) }
    where
      each : (a : ℕ) → r a ≡ true → (ltb (v a) m ≡ true) × (all_below (other a) n ≡ true)
      each a p = both_true _ _ (rw p at (each_below counts n t a (below a p)))

      same : (a b : ℕ) → r b ≡ true → v a ≡ v b → other a b ≡ true → eqb a b ≡ true
      same a b q e h = rw (q, eq-eqb (v a) (v b) e) at h
