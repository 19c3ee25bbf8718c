-- The fields of a record that are not stored: the first of its numeric fields, at most four of them, each within the record.
use Prim.Native.Nat.{ℕ, ◌≤◌, ◌<◌}
use mathlib.Core.Path.{◌≡◌, refl, sym, ap, ◌∙◌}
use mathlib.Core.List.{List, [], ◌∷◌}
use native.Mathlib.Omega.{arith}
use lib.Dec.{lit≤}
use lib.ListN.{length, take, get_or}
use lib.Seq.{take-append-le, get_or-take}
use Rattle.layout.specs.declared.Field.{Field}
use Rattle.layout.specs.declared.Kind.{Kind}
use Rattle.layout.specs.declared.Kind.TheVariants.{Head, Taxpayer, Domicile, Line, Balance, Payment, Receipt, Addressee, Tail, Unknown}
use Rattle.layout.specs.Kinds.{kind_in}
use Rattle.layout.specs.Fields.{Within, nowhere, listed, delega_number, fields_of, value_of}
use Rattle.layout.proofs.Within.{fields_within}
use Rattle.layout.proofs.InOrder.{InOrder, order-front, fields-in-order}
use Rattle.rules.specs.Checks.{number_fault}
use Rattle.rebalance.specs.Rebalance.{kept_fields}

-- There are no more than numeric fields.
kept-short : (k : Kind) → length (kept_fields k) ≤ length (fields_of k)
kept-short Head = lit≤ tt
kept-short Taxpayer = lit≤ tt
kept-short Domicile = lit≤ tt
kept-short (Line s) = lit≤ tt
kept-short (Balance s) = omega arith
kept-short Payment = lit≤ tt
kept-short Receipt = lit≤ tt
kept-short Addressee = lit≤ tt
kept-short Tail = lit≤ tt
kept-short Unknown = lit≤ tt

-- They are the first of the numeric fields.
kept-front : (k : Kind) → take (length (kept_fields k)) (fields_of k) ≡ kept_fields k
kept-front Head = refl
kept-front Taxpayer = refl
kept-front Domicile = refl
kept-front (Line s) = refl
kept-front (Balance s) = refl
kept-front Payment = refl
kept-front Receipt = refl
kept-front Addressee = refl
kept-front Tail = refl
kept-front Unknown = refl

-- They are the first that the code hands out.
pub kept-listed : (k : Kind) → take (length (kept_fields k)) (listed (fields_of k)).fields ≡ kept_fields k
kept-listed k = take-append-le (length (kept_fields k)) (fields_of k) _ (kept-short k) ∙ kept-front k

-- They stand in order, as the numeric fields of a record do.
pub kept-in-order : (r : List ℕ) → InOrder 0 (kept_fields (kind_in r))
kept-in-order r = let k = kind_in r in rw (← (kept-front k)) (order-front (length (kept_fields k)) 0 (fields_of k) (fields-in-order r))

-- Each lies within the record.
pub kept-within : (k : Kind) (j : ℕ) → j < length (kept_fields k) → Within (get_or (kept_fields k) j nowhere)
kept-within k j h =
    let e : get_or (kept_fields k) j nowhere ≡ get_or (fields_of k) j nowhere = sym (ap (λ (l : List Field). get_or l j nowhere) (kept-front k)) ∙ get_or-take (length (kept_fields k)) (fields_of k) j nowhere h in
    rw e (fields_within k j (omega (arith, kept-short k)))

-- The first numeric field is the first that the code hands out.
pub first-listed : (fl : List Field) → get_or (listed fl).fields 0 nowhere ≡ get_or fl 0 nowhere
first-listed [] = refl
first-listed (f ∷ fl) = refl

-- It lies within the record, also where there is none.
within_first : (fl : List Field) → ((j : ℕ) → j < length fl → Within (get_or fl j nowhere)) → Within (get_or fl 0 nowhere)
within_first [] w = record { forward = lit≤ tt; inside = lit≤ tt; narrow = lit≤ tt }
within_first (f ∷ fl) w = w 0 (omega arith)

pub first-within : (k : Kind) → Within (get_or (fields_of k) 0 nowhere)
first-within k = within_first (fields_of k) (fields_within k)

-- It is the number of the delega, where check 8 asks for one.
pub first-number : (d : ℕ) (k : Kind) (r : List ℕ) → number_fault d k (value_of r (get_or (fields_of k) 0 nowhere)) ≡ number_fault d k (value_of r delega_number)
unfolding number_fault
first-number d Head r = refl
first-number d Taxpayer r = refl
first-number d Domicile r = refl
first-number d (Line s) r = refl
first-number d (Balance s) r = refl
first-number d Payment r = refl
first-number d Receipt r = refl
first-number d Addressee r = refl
first-number d Tail r = refl
first-number d Unknown r = refl
