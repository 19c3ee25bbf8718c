-- The fields that rebalancing writes in a record: at most four, each within the record, one behind the other; and how the code hands them out.
use Prim.Native.Nat.{ℕ, zero, suc, ◌<◌, ◌≤◌}
use mathlib.Core.Path.{◌≡◌, refl, ap, ◌∙◌}
use mathlib.Core.Bool.{Bool, true, false, cond}
use mathlib.Core.List.{List, [], ◌∷◌}
use native.Mathlib.Omega.{arith}
use lib.Dec.{lit≤}
use lib.ListN.{length, take, get_or}
use lib.Seq.{take_at}
use Rattle.layout.specs.declared.Field.{Field}
use Rattle.layout.specs.declared.Fields.{Fields}
use Rattle.layout.specs.declared.Kind.{Kind}
use Rattle.layout.specs.declared.Kind.TheVariants.{Head, Taxpayer, Domicile, Line, Balance, Payment, Receipt, Addressee, Tail, Unknown}
use Rattle.layout.specs.Sections.{section_at}
use Rattle.layout.specs.Kinds.{kind_in}
use Rattle.layout.specs.Fields.{nowhere, listed, amount_at}
use Rattle.layout.proofs.InTable.{section_of, section-within}
use Rattle.layout.proofs.Table.{row-rule}
use Rattle.rebalance.specs.Places.{sign_and_balance}
use Rattle.changes.specs.Changes.{written_fields}
use Rattle.changes.specs.Listed.{OneOf, first, later}

-- The fields of a balance record.
abbrev of_balance : Bool → ℕ → List Field
of_balance t s = cond t (amount_at (section_at s).total_debit ∷ amount_at (section_at s).total_credit ∷ sign_and_balance s) (sign_and_balance s)

-- There are at most four.
pub written-four : (k : Kind) → length (written_fields k) ≤ 4
written-four Head = lit≤ tt
written-four Taxpayer = lit≤ tt
written-four Domicile = lit≤ tt
written-four (Line s) = lit≤ tt
written-four (Balance s) = go (section_at s).totals
  where
    go : (t : Bool) → length (of_balance t s) ≤ 4
    go true = lit≤ tt
    go false = lit≤ tt
written-four Payment = lit≤ tt
written-four Receipt = lit≤ tt
written-four Addressee = lit≤ tt
written-four Tail = lit≤ tt
written-four Unknown = lit≤ tt

-- Fields that are not empty stand one behind the other, from an index on, up to the end of a record.
abbrev pub Apart : ℕ → List Field → Type 0
Apart n [] = Unit {0}
Apart n (f ∷ fl) = (n ≤ f.start) × (f.start < f.end) × (f.end ≤ 120) × Apart f.end fl

-- So do these, those of a section by the rule of the table.
kind-apart : (k : Kind) → section_of k < 5 → Apart 0 (written_fields k)
kind-apart Head w = tt
kind-apart Taxpayer w = tt
kind-apart Domicile w = tt
kind-apart (Line s) w = tt
kind-apart (Balance s) w = go (section_at s).totals refl
  where
    go : (t : Bool) → (section_at s).totals ≡ t → Apart 0 (of_balance t s)
    go true e = omega (arith, rw e at (row-rule s w))
    go false e = omega (arith, row-rule s w)
kind-apart Payment w = omega arith
kind-apart Receipt w = tt
kind-apart Addressee w = tt
kind-apart Tail w = omega arith
kind-apart Unknown w = tt

-- So they do in every record.
pub written_apart : (r : List ℕ) → Apart 0 (written_fields (kind_in r))
written_apart r = kind-apart (kind_in r) (section-within r)

-- A field that stands so lies within the record.
pub apart-at : (n : ℕ) (fl : List Field) → Apart n fl → (j : ℕ) → j < length fl → ((get_or fl j nowhere).start ≤ (get_or fl j nowhere).end) × ((get_or fl j nowhere).end ≤ 120)
apart-at n [] o j h = absurd (omega arith)
apart-at n (f ∷ fl) o zero h = (omega (arith, o.1), o.2)
apart-at n (f ∷ fl) o (suc j) h = apart-at f.end fl o.3 j (omega arith)

-- A field of a list that stands so from an index on starts there or behind it, and ends within the record.
pub apart-one : (n : ℕ) (fl : List Field) → Apart n fl → (g : Field) → OneOf g fl → (n ≤ g.start) × (g.start < g.end) × (g.end ≤ 120)
apart-one n [] a g x'' = elim x'' [ ]
apart-one n (f ∷ fl) a g (first e) = rw e (a.0, a.1, a.2)
apart-one n (f ∷ fl) a g (later o) = let h = apart-one f.end fl a.3 g o in (omega (arith, a.0, a.1, h.0), h.1, h.2)

-- The code hands these fields out, with how many they are.
pub handed-out : (k : Kind) (fs : Fields) → fs ≡ listed (written_fields k) → take fs.count fs.fields ≡ written_fields k
handed-out k fs e = ap (λ (x : Fields). take x.count x.fields) e ∙ take_at (written_fields k) _ _ refl
