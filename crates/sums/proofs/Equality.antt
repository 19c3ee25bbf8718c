-- Two records of sums are the same exactly where every sum is.
use Prim.Native.Nat.{ℕ}
use mathlib.Core.Path.{◌≡◌, refl, sym, ap, ap₂, ◌∙◌}
use mathlib.Core.Bool.{Bool, true, false, false≢true}
use mathlib.Core.List.{List, [], ◌∷◌}
use mathlib.Core.Logic.{◌↔◌}
use borrow.Author.Tests.{eqb-true}
use lib.Dec.{eqb}
use Rattle.amounts.specs.declared.Sums.{Sums}
use Rattle.sums.specs.declared.KeptSums.{KeptSums}
use Rattle.sums.specs.LineSums.{same_sums, kept_of, stands_for}
use Rattle.sums.proofs.Comparing.{same_self}

-- Where they are the same, they are equal.
pub same-equal : (l m : List Sums) → same_sums l m ≡ true → l ≡ m
unfolding same_sums
same-equal [] [] e = refl
same-equal [] (y ∷ m) e = absurd (false≢true e)
same-equal (x ∷ l) [] e = absurd (false≢true e)
same-equal (x ∷ l) (y ∷ m) e = go (eqb x.debit y.debit) (eqb x.credit y.credit) refl refl (same-equal l m)
  where
    go : (a b : Bool) → eqb x.debit y.debit ≡ a → eqb x.credit y.credit ≡ b → (same_sums l m ≡ true → l ≡ m) → x ∷ l ≡ y ∷ m
    go true true p q f =
        let s : same_sums (x ∷ l) (y ∷ m) ≡ same_sums l m = cc in
        ap₂ ◌∷◌ (ap₂ (λ d c. record { debit = d; credit = c }) (eqb-true x.debit y.debit p) (eqb-true x.credit y.credit q)) (f (sym s ∙ e))
    go true false p q f = let s : same_sums (x ∷ l) (y ∷ m) ≡ false = cc in absurd (false≢true (sym s ∙ e))
    go false b p q f = let s : same_sums (x ∷ l) (y ∷ m) ≡ false = cc in absurd (false≢true (sym s ∙ e))

-- A record stands for a flow exactly where it is the flow's own.
pub stands-exactly : (k : KeptSums) (f : List ℕ) → (stands_for k f ≡ true) ↔ (k ≡ kept_of f)
unfolding stands_for
stands-exactly k f = (λ e. ap (λ (l : List Sums). record { sums = l }) (same-equal k.sums (kept_of f).sums e), λ e. rw e (same_self (kept_of f).sums))
