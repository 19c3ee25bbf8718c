-- The numeric fields of a record stand one behind the other, within the record; and what it means for an index to lie in one of them.
use Prim.Native.Nat.{ℕ, zero, suc, ◌≤◌, ◌<◌}
use mathlib.Core.Path.{◌≡◌, refl}
use mathlib.Core.Bool.{Bool, true, false, cond, false≢true}
use mathlib.Core.List.{List, [], ◌∷◌}
use mathlib.Core.Logic.{◌⊎◌, inl, inr, ⊎_elim}
use native.Mathlib.Omega.{arith}
use borrow.Author.Tests.{leb-true, ltb-true, le-leb, lt-ltb}
use lib.Dec.{leb, ltb}
use lib.ListN.{take}
use Rattle.layout.specs.declared.Field.{Field}
use Rattle.layout.specs.declared.Kind.{Kind}
use Rattle.layout.specs.declared.Kind.TheVariants.{Head, Taxpayer, Domicile, Line, Balance, Payment, Receipt, Addressee, Tail, Unknown}
use Rattle.layout.specs.Sections.{section_at}
use Rattle.layout.specs.Kinds.{kind_in}
use Rattle.layout.specs.Fields.{fields_of, amount_at, delega_number, in_columns}
use Rattle.layout.proofs.InTable.{section_of, section-within}
use Rattle.layout.proofs.Table.{row-rule}

-- fields one behind the other, from an index on, up to the end of a record
abbrev pub InOrder : ℕ → List Field → Type 0
InOrder n [] = Unit {0}
InOrder n (f ∷ fl) = (n ≤ f.start) × (f.start ≤ f.end) × (f.end ≤ 120) × InOrder f.end fl

-- so stand the first m of such fields
pub order-front : (m n : ℕ) (fl : List Field) → InOrder n fl → InOrder n (take m fl)
order-front zero n fl o = tt
order-front (suc m) n [] o = tt
order-front (suc m) n (f ∷ fl) o = (o.0, o.1, o.2, order-front m f.end fl o.3)

-- so stand the numeric fields of a kind: those of a section by the rule of the table
kind-in-order : (k : Kind) → section_of k < 5 → InOrder 0 (fields_of k)
kind-in-order Head w = omega arith
kind-in-order Taxpayer w = omega arith
kind-in-order Domicile w = omega arith
kind-in-order (Line s) w = omega (arith, row-rule s w)
kind-in-order (Balance s) w = go (section_at s).totals refl
  where
    go : (t : Bool) → (section_at s).totals ≡ t → InOrder 0 (delega_number ∷ cond t (amount_at (section_at s).total_debit ∷ amount_at (section_at s).total_credit ∷ amount_at (section_at s).balance ∷ []) (amount_at (section_at s).balance ∷ []))
    go true e = omega (arith, rw e at (row-rule s w))
    go false e = omega (arith, row-rule s w)
kind-in-order Payment w = omega arith
kind-in-order Receipt w = omega arith
kind-in-order Addressee w = omega arith
kind-in-order Tail w = omega arith
kind-in-order Unknown w = tt

-- and those of a record
pub fields-in-order : (r : List ℕ) → InOrder 0 (fields_of (kind_in r))
fields-in-order r = kind-in-order (kind_in r) (section-within r)

module _ (i : ℕ) (f : Field) (fl : List Field) where
  -- an index in fields lies in the first, or in one of the others
  pub in-first : in_columns i (f ∷ fl) ≡ true → ((f.start ≤ i) × (i < f.end)) ⊎ (in_columns i fl ≡ true)
  unfolding in_columns
  in-first e = go (leb f.start i) (ltb i f.end) refl refl e
    where
      go : (t u : Bool) → leb f.start i ≡ t → ltb i f.end ≡ u → cond (cond t u false) true (in_columns i fl) ≡ true → ((f.start ≤ i) × (i < f.end)) ⊎ (in_columns i fl ≡ true)
      go true true p q e = inl (leb-true _ _ p, ltb-true _ _ q)
      go true false p q e = inr e
      go false u p q e = inr e

  pub first-in : f.start ≤ i → i < f.end → in_columns i (f ∷ fl) ≡ true
  unfolding in_columns
  first-in h g = rw (le-leb _ _ h, lt-ltb _ _ g)

  pub others-in : in_columns i fl ≡ true → in_columns i (f ∷ fl) ≡ true
  unfolding in_columns
  others-in e = rw e (go (cond (leb f.start i) (ltb i f.end) false))
    where
      go : (t : Bool) → cond t true true ≡ true
      go true = refl
      go false = refl

-- fields from an index on have no index before it
pub none_before : (n : ℕ) (fl : List Field) → InOrder n fl → (i : ℕ) → in_columns i fl ≡ true → n ≤ i
unfolding in_columns
none_before n [] o i e = absurd (false≢true e)
none_before n (f ∷ fl) o i e = ⊎_elim (λ h. omega (arith, h.0, o.0)) (λ h. omega (arith, none_before f.end fl o.3 i h, o.0, o.1)) (in-first i f fl e)
