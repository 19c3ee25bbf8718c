-- The n-th record of a list that passes a test, by counting along the list: it is named exactly where it stands.
use Prim.Native.Nat.{ℕ, zero, suc, ◌+◌, ◌<◌}
use mathlib.Core.Path.{◌≡◌, refl, ap}
use mathlib.Core.Bool.{Bool, true, false, cond}
use mathlib.Core.List.{List, [], ◌∷◌}
use native.Mathlib.Omega.{arith}
use borrow.Author.Tests.{eqb-true, eq-eqb, ne_eqb}
use lib.Dec.{eqb}
use lib.ListN.{length, take, get_or}
use Rattle.judge.specs.Plain.{sum_over}

-- what a record counts: 1 where it passes, and 0 where it does not
abbrev pub one_if : Bool → ℕ
one_if b = cond b 1 0

-- where c that pass came before, record j of a list, counted from 0, is the n-th that passes
pub record NthIn (P : List ℕ → Bool) (n c : ℕ) (rs : List (List ℕ)) (j : ℕ) : Type 0 where
  pub within : j < length rs
  pub passes : P (get_or rs j []) ≡ true
  pub before : c + sum_over (λ r. one_if (P r)) (take j rs) + 1 ≡ n

module _ (P : List ℕ → Bool) (n : ℕ) where
  -- the number of the n-th that passes, behind k records of which c passed; 0 where there is none
  abbrev pub count_to : ℕ → ℕ → List (List ℕ) → ℕ
  count_to c k [] = 0
  count_to c k (r ∷ rs) = cond (cond (P r) (eqb (c + 1) n) false) (k + 1) (count_to (c + one_if (P r)) (k + 1) rs)

  -- one record more in front
  nth_on : (c : ℕ) (r : List ℕ) (rs : List (List ℕ)) (j : ℕ) → NthIn P n (c + one_if (P r)) rs j → NthIn P n c (r ∷ rs) (suc j)
  unfolding sum_over
  nth_on c r rs j h = record { within = omega (arith, h.within); passes = h.passes; before = omega (arith, h.before) }

  -- what is counted to is such a record
  pub counted-is-nth : (c k : ℕ) (rs : List (List ℕ)) → (count_to c k rs ≡ 0 → ⊥) → (j : ℕ) × (count_to c k rs ≡ k + 1 + j) × NthIn P n c rs j
  unfolding sum_over
  counted-is-nth c k [] h = absurd (h refl)
  counted-is-nth c k (r ∷ rs) h = go (P r) (eqb (c + 1) n) refl refl h (counted-is-nth (c + one_if (P r)) (k + 1) rs)
    where
      rest : ℕ
      rest = count_to (c + one_if (P r)) (k + 1) rs

      go : (a b : Bool) → P r ≡ a → eqb (c + 1) n ≡ b → (cond (cond a b false) (k + 1) rest ≡ 0 → ⊥) →
          ((rest ≡ 0 → ⊥) → (j : ℕ) × (rest ≡ k + 1 + 1 + j) × NthIn P n (c + one_if (P r)) rs j) →
          (j : ℕ) × (cond (cond a b false) (k + 1) rest ≡ k + 1 + j) × NthIn P n c (r ∷ rs) j
      go true true p q f g = (0, omega arith, record { within = omega arith; passes = p; before = omega (arith, eqb-true (c + 1) n q) })
      go true false p q f g = let x = g f in (suc x.0, omega (arith, x.1), nth_on c r rs x.0 x.2)
      go false b p q f g = let x = g f in (suc x.0, omega (arith, x.1), nth_on c r rs x.0 x.2)

  -- and such a record is counted to
  pub nth-is-counted : (c k : ℕ) (rs : List (List ℕ)) (j : ℕ) → NthIn P n c rs j → count_to c k rs ≡ k + 1 + j
  unfolding sum_over
  nth-is-counted c k [] j h = absurd (omega (arith, h.within))
  nth-is-counted c k (r ∷ rs) zero h = rw (h.passes, eq-eqb (c + 1) n (omega (arith, h.before))) (omega arith)
  nth-is-counted c k (r ∷ rs) (suc j) h =
      go (P r) refl (nth-is-counted (c + one_if (P r)) (k + 1) rs j (record { within = omega (arith, h.within); passes = h.passes; before = omega (arith, h.before) }))
    where
      rest : ℕ
      rest = count_to (c + one_if (P r)) (k + 1) rs

      go : (a : Bool) → P r ≡ a → rest ≡ k + 1 + 1 + j → cond (cond a (eqb (c + 1) n) false) (k + 1) rest ≡ k + 1 + suc j
      go true p e = rw (ne_eqb (c + 1) n (λ x. omega (arith, h.before, ap one_if p))) (omega arith)
      go false p e = omega arith

  -- where none passes, none is counted to
  pub none-counted : ((r : List ℕ) → P r ≡ false) → (c k : ℕ) (rs : List (List ℕ)) → count_to c k rs ≡ 0
  none-counted h c k [] = refl
  none-counted h c k (r ∷ rs) = rw (h r) (none-counted h (c + 0) (k + 1) rs)
