-- A number of each record, added up over all records, is that over those that stay and, delega by delega, over those that go.
use Prim.Native.Nat.{ℕ, ◌+◌, ◌≤◌}
use mathlib.Core.Path.{◌≡◌, refl, sym, ap, ap₂, ◌∙◌}
use mathlib.Core.Bool.{Bool, true, false, cond}
use mathlib.Core.List.{List, [], ◌∷◌}
use native.Mathlib.Omega.{arith}
use borrow.Author.Tests.{eqb-true}
use lib.Dec.{eqb}
use Rattle.text.specs.Among.{among}
use Rattle.layout.specs.Kinds.{kind_in, numbered}
use Rattle.layout.specs.Fields.{delega_number, value_of}
use Rattle.judge.specs.Plain.{sum_over}
use Rattle.delega.specs.PlainDelega.{of_delega}
use Rattle.close.specs.Closing.{stays, kept_of, each_once}
use Rattle.close.proofs.Counted.{once-parts}
use Rattle.dropping.specs.Effect.{Stayed, EachStayed, sum_for}

-- Sums over the numbers of a list are equal where each number's is.
pub sum_same : (n : ℕ) (numbers : List ℕ) → each_once n numbers ≡ true → (f g : ℕ → ℕ) → ((d : ℕ) → 1 ≤ d → d ≤ n → f d ≡ g d) → sum_for f numbers ≡ sum_for g numbers
unfolding sum_for
sum_same n [] e f g h = refl
sum_same n (d ∷ ds) e f g h = let p = once-parts n d ds e in ap₂ ◌+◌ (h d p.0.0 p.0.1) (sum_same n ds p.2 f g h)

-- A sum of zeros is zero.
sum-none : (numbers : List ℕ) (f : ℕ → ℕ) → ((d : ℕ) → f d ≡ 0) → sum_for f numbers ≡ 0
unfolding sum_for
sum-none [] f h = refl
sum-none (d ∷ ds) f h = omega (arith, h d, sum-none ds f h)

-- Sums over records are equal where each record's is.
pub over-same : (rs : List (List ℕ)) (f g : List ℕ → ℕ) → ((r : List ℕ) → f r ≡ g r) → sum_over f rs ≡ sum_over g rs
unfolding sum_over
over-same [] f g h = refl
over-same (r ∷ rs) f g h = ap₂ ◌+◌ (h r) (over-same rs f g h)

-- A sum over records of two numbers each is the sum of both.
over-both : (rs : List (List ℕ)) (f g : List ℕ → ℕ) → sum_over (λ r. f r + g r) rs ≡ sum_over f rs + sum_over g rs
unfolding sum_over
over-both [] f g = refl
over-both (r ∷ rs) f g = omega (arith, over-both rs f g)

over_none : (rs : List (List ℕ)) → sum_over (λ r. 0) rs ≡ 0
unfolding sum_over
over_none [] = refl
over_none (r ∷ rs) = omega (arith, over_none rs)

-- Of sums over records and numbers either may come first.
over-for : (numbers : List ℕ) (rs : List (List ℕ)) (h : ℕ → List ℕ → ℕ) → sum_over (λ r. sum_for (λ d. h d r) numbers) rs ≡ sum_for (λ d. sum_over (h d) rs) numbers
unfolding sum_for
over-for [] rs h = over_none rs
over-for (d ∷ ds) rs h = over-both rs (h d) (λ r. sum_for (λ d. h d r) ds) ∙ ap (λ (m : ℕ). sum_over (h d) rs + m) (over-for ds rs h)

module _ (numbers : List ℕ) (g : List ℕ → ℕ) where
  -- what a record counts where it goes
  abbrev gone : List ℕ → ℕ
  gone r = cond (stays numbers r) 0 (g r)

  -- Every record stays or goes.
  pub stays-or-goes : (rs : List (List ℕ)) → sum_over g rs ≡ sum_over g (kept_of numbers rs) + sum_over (λ r. cond (stays numbers r) 0 (g r)) rs
  unfolding sum_over kept_of
  stays-or-goes [] = refl
  stays-or-goes (r ∷ rs) = go (stays numbers r) (stays-or-goes rs)
    where
      go : (b : Bool) → sum_over g rs ≡ sum_over g (kept_of numbers rs) + sum_over gone rs → g r + sum_over g rs ≡ sum_over g (cond b (r ∷ kept_of numbers rs) (kept_of numbers rs)) + (cond b 0 (g r) + sum_over gone rs)
      go true h = omega arith
      go false h = omega arith

-- A record whose number is among those of a list counts under one of them.
by_number : (n : ℕ) (numbers : List ℕ) → each_once n numbers ≡ true → (r : List ℕ) (m : ℕ) → cond (among (value_of r delega_number) numbers) m 0 ≡ sum_for (λ d. of_delega d r m) numbers
unfolding among sum_for
by_number n [] e r m = refl
by_number n (d ∷ ds) e r m = let p = once-parts n d ds e in go (eqb (value_of r delega_number) d) refl p.1 (by_number n ds p.2 r m)
  where
    go : (b : Bool) → eqb (value_of r delega_number) d ≡ b → among d ds ≡ false → cond (among (value_of r delega_number) ds) m 0 ≡ sum_for (λ d. of_delega d r m) ds →
        cond (cond b true (among (value_of r delega_number) ds)) m 0 ≡ cond b m 0 + sum_for (λ d. of_delega d r m) ds
    go true q a h =
        let z : cond (among (value_of r delega_number) ds) m 0 ≡ 0 = ap (λ (v : ℕ). cond (among v ds) m 0) (eqb-true (value_of r delega_number) d q) ∙ ap (λ (t : Bool). cond t m 0) a in
        let y : m ≡ m + sum_for (λ d. of_delega d r m) ds = omega arith in
        y
    go false q a h = omega arith

-- What goes, delega by delega, where a record that carries no number counts nothing.
module _ (n : ℕ) (numbers : List ℕ) (e : each_once n numbers ≡ true) (g : List ℕ → ℕ) (z : (r : List ℕ) → numbered (kind_in r) ≡ false → g r ≡ 0) where
  -- One record.
  one-gone : (r : List ℕ) → cond (stays numbers r) 0 (g r) ≡ sum_for (λ d. of_delega d r (g r)) numbers
  unfolding stays
  one-gone r = go (numbered (kind_in r)) refl
    where
      turn : (b : Bool) (m : ℕ) → cond (cond b false true) 0 m ≡ cond b m 0
      turn true m = refl
      turn false m = refl

      none : (d : ℕ) (m : ℕ) → m ≡ 0 → of_delega d r m ≡ 0
      none d m h = flat (eqb (value_of r delega_number) d)
        where
          flat : (b : Bool) → cond b m 0 ≡ 0
          flat true = h
          flat false = refl

      go : (b : Bool) → numbered (kind_in r) ≡ b → cond (cond b (cond (among (value_of r delega_number) numbers) false true) true) 0 (g r) ≡ sum_for (λ d. of_delega d r (g r)) numbers
      go true h = turn (among (value_of r delega_number) numbers) (g r) ∙ by_number n numbers e r (g r)
      go false h = sym (sum-none numbers (λ d. of_delega d r (g r)) (λ d. none d (g r) (z r h)))

  pub goes-by-delega : (rs : List (List ℕ)) → sum_over (λ r. cond (stays numbers r) 0 (g r)) rs ≡ sum_for (λ d. sum_over (λ r. of_delega d r (g r)) rs) numbers
  goes-by-delega rs = over-same rs _ _ one-gone ∙ over-for numbers rs (λ d r. of_delega d r (g r))

-- What is read alike of records that stayed adds up to the same.
pub stayed-sum : (numbers : List ℕ) (g : List ℕ → ℕ) → ((r q : List ℕ) → Stayed numbers r q → g q ≡ g r) → (rs qs : List (List ℕ)) → EachStayed numbers rs qs → sum_over g qs ≡ sum_over g rs
unfolding sum_over
stayed-sum numbers g h [] [] s = refl
stayed-sum numbers g h [] (q ∷ qs) s = absurd s
stayed-sum numbers g h (r ∷ rs) [] s = absurd s
stayed-sum numbers g h (r ∷ rs) (q ∷ qs) s = ap₂ ◌+◌ (h r q s.0) (stayed-sum numbers g h rs qs s.1)
