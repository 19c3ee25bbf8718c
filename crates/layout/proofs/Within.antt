-- Where the numeric fields of each kind of record lie: at most four, within the record, of at most fifteen digits.
use Prim.Native.Nat.{ℕ, zero, suc, ◌+◌, ◌-◌, ◌≤◌, ◌<◌}
use mathlib.Core.Path.{◌≡◌}
use mathlib.Core.Bool.{Bool, true, false, cond}
use mathlib.Core.List.{List, [], ◌∷◌}
use native.Mathlib.Omega.{arith}
use lib.Dec.{lit≤}
use lib.ListN.{length, get_or, replicate, get_or-append}
use Rattle.layout.specs.declared.Field.{Field}
use Rattle.layout.specs.declared.Kind.{Kind}
use Rattle.layout.specs.declared.Kind.TheVariants.{Head, Taxpayer, Domicile, Line, Balance, Payment, Receipt, Addressee, Tail, Unknown}
use Rattle.layout.specs.Sections.{section_at}
use Rattle.layout.specs.Fields.{Within, fields_of, listed, nowhere, amount_at, delega_number}
use Rattle.layout.proofs.Table.{near-rule}

abbrev AllWithin : List Field → Type 0
AllWithin [] = Unit {0}
AllWithin (f ∷ fl) = Within f × AllWithin fl

within-each : (fl : List Field) → AllWithin fl → (j : ℕ) → j < length fl → Within (get_or fl j nowhere)
within-each [] w j h = absurd (omega arith)
within-each (f ∷ fl) w zero h = w.0
within-each (f ∷ fl) w (suc j) h = within-each fl w.1 j (omega arith)

-- an amount that ends within a record is a field of it
pub within-amount : (s : ℕ) → s + 15 ≤ 120 → Within (amount_at s)
within-amount s h = record { forward = omega arith; inside = h; narrow = omega arith }

within-number : Within delega_number
within-number = record { forward = lit≤ tt; inside = lit≤ tt; narrow = lit≤ tt }

all-within : (k : Kind) → AllWithin (fields_of k)
all-within Head = (record { forward = lit≤ tt; inside = lit≤ tt; narrow = lit≤ tt }, tt)
all-within Taxpayer = (within-number, tt)
all-within Domicile = (within-number, tt)
all-within (Line s) = let n = near-rule s in (within-number, (within-amount _ n.0, (within-amount _ n.1.0, tt)))
all-within (Balance s) = go (section_at s).totals
  where
    go : (t : Bool) → AllWithin (delega_number ∷ cond t (amount_at (section_at s).total_debit ∷ amount_at (section_at s).total_credit ∷ amount_at (section_at s).balance ∷ []) (amount_at (section_at s).balance ∷ []))
    go true = let n = near-rule s in (within-number, (within-amount _ n.1.1.0, (within-amount _ n.1.1.1.0, (within-amount _ n.1.1.1.1.1.0, tt))))
    go false = let n = near-rule s in (within-number, (within-amount _ n.1.1.1.1.1.0, tt))
all-within Payment = (within-number, (record { forward = lit≤ tt; inside = lit≤ tt; narrow = lit≤ tt }, tt))
all-within Receipt = (within-number, tt)
all-within Addressee = (within-number, tt)
all-within Tail = (
  record { forward = lit≤ tt; inside = lit≤ tt; narrow = lit≤ tt },
  (record { forward = lit≤ tt; inside = lit≤ tt; narrow = lit≤ tt }, (record { forward = lit≤ tt; inside = lit≤ tt; narrow = lit≤ tt }, tt)),
)
all-within Unknown = tt

-- each field of a kind of record lies within the record
pub fields_within : (k : Kind) (j : ℕ) → j < length (fields_of k) → Within (get_or (fields_of k) j nowhere)
fields_within k j h = within-each (fields_of k) (all-within k) j h

-- a kind of record has at most four fields
pub fields-four : (k : Kind) → length (fields_of k) ≤ 4
fields-four Head = lit≤ tt
fields-four Taxpayer = lit≤ tt
fields-four Domicile = lit≤ tt
fields-four (Line s) = lit≤ tt
fields-four (Balance s) = go (section_at s).totals
  where
    go : (t : Bool) → length (delega_number ∷ cond t (amount_at (section_at s).total_debit ∷ amount_at (section_at s).total_credit ∷ amount_at (section_at s).balance ∷ []) (amount_at (section_at s).balance ∷ [])) ≤ 4
    go true = lit≤ tt
    go false = lit≤ tt
fields-four Payment = lit≤ tt
fields-four Receipt = lit≤ tt
fields-four Addressee = lit≤ tt
fields-four Tail = lit≤ tt
fields-four Unknown = lit≤ tt

-- the list that the code hands out has the fields at their places
pub listed_at : (fl : List Field) (j : ℕ) → j < length fl → get_or (listed fl).fields j nowhere ≡ get_or fl j nowhere
listed_at fl j h = get_or-append fl (replicate (4 - length fl) nowhere) nowhere j h
