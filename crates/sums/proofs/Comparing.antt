-- Sums section by section: they are the same as themselves, and what a comparison has left to say.
use mathlib.Core.Path.{◌≡◌, refl, sym, ap, ap₂, ◌∙◌}
use mathlib.Core.Logic.{◌⊎◌, inl, inr}
use mathlib.Core.Bool.{true, false, cond}
use mathlib.Core.List.{List, [], ◌∷◌}
use native.Mathlib.Omega.{arith}
use borrow.Author.Tests.{eq-eqb, ne_eqb}
use lib.Dec.{eqb}
use lib.ListN.{length}
use Rattle.amounts.specs.declared.Sums.{Sums}
use Rattle.sums.specs.LineSums.{same_sums}

-- Sums are the same as themselves.
pub same_self : (l : List Sums) → same_sums l l ≡ true
unfolding same_sums
same_self [] = refl
same_self (x ∷ l) = rw (eq-eqb x.debit x.debit refl, eq-eqb x.credit x.credit refl) (same_self l)

-- The comparison has come to sections: what is left says what all say.
pub record Comparing (l m r t : List Sums) : Type 0 where
  pub rest : same_sums l m ≡ same_sums r t
  pub long : length r ≡ length t

pub comparing-start : (l m r t : List Sums) → length l ≡ 5 → length m ≡ 5 → r ≡ l → t ≡ m → Comparing l m r t
comparing-start l m r t h k e f = record { rest = ap₂ same_sums (sym e) (sym f); long = ap length e ∙ h ∙ sym (ap length f ∙ k) }

module _ (l m r t : List Sums) (w : Comparing l m r t) where
  module _ (x y : Sums) (xs ys : List Sums) (e : (r ≡ x ∷ xs) × (t ≡ y ∷ ys)) where
    opened : same_sums l m ≡ cond (eqb x.debit y.debit) (cond (eqb x.credit y.credit) (same_sums xs ys) false) false
    unfolding same_sums
    opened = w.rest ∙ ap₂ same_sums e.0 e.1

    pub debit-differs : (x.debit ≡ y.debit → ⊥) → false ≡ same_sums l m
    debit-differs h = sym (opened ∙ rw (ne_eqb _ _ h))

    module _ (same : x.debit ≡ y.debit) where
      pub credit-differs : (x.credit ≡ y.credit → ⊥) → false ≡ same_sums l m
      credit-differs h = sym (opened ∙ rw (eq-eqb _ _ same, ne_eqb _ _ h))

      pub comparing-on : x.credit ≡ y.credit → Comparing l m xs ys
      comparing-on h = record { rest = opened ∙ rw (eq-eqb _ _ same, eq-eqb _ _ h); long = omega (arith, w.long, ap length e.0, ap length e.1) }

  pub comparing-end : (r ≡ []) ⊎ (t ≡ []) → true ≡ same_sums l m
  unfolding same_sums
  comparing-end h = sym (w.rest ∙ none_left r t w.long h)
    where
      none_left : (r t : List Sums) → length r ≡ length t → (r ≡ []) ⊎ (t ≡ []) → same_sums r t ≡ true
      none_left [] [] n e = refl
      none_left [] (y ∷ t) n e = absurd (omega arith)
      none_left (x ∷ r) [] n e = absurd (omega arith)
      none_left (x ∷ r) (y ∷ t) n (inl e) = cc
      none_left (x ∷ r) (y ∷ t) n (inr e) = cc
