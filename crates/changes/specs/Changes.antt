-- Believed. The fields of a flow that rebalancing changes: "each field changed, with record and start, in the order of the flow".
use Rattle.std.specs.Prelude.{ℕ, ◌+◌, Bool, cond, List, [], ◌∷◌, ◌++◌}
use Rattle.layout.specs.declared.Field.{Field}
use Rattle.layout.specs.declared.Kind.{Kind}
use Rattle.layout.specs.declared.Kind.TheVariants.{Head, Taxpayer, Domicile, Line, Balance, Payment, Receipt, Addressee, Tail, Unknown}
use Rattle.layout.specs.Kinds.{kind_in}
use Rattle.layout.specs.Fields.{final_balance, tail_deleghe, tail_sum, tail_records, bytes_of}
use Rattle.amounts.specs.Names.{same_bytes}
use Rattle.judge.specs.Flow.{records_of}
use Rattle.rebalance.specs.Rebalance.{refreshed}
use Rattle.rebalance.specs.Places.{balance_columns}

-- "every total, sign, balance, final balance and tail value": the fields that are written in a record of a kind, "in the order of the flow", which in the tail is not that of the refusals
abbrev pub written_fields : Kind → List Field
written_fields Head = []
written_fields Taxpayer = []
written_fields Domicile = []
written_fields (Line s) = []
written_fields (Balance s) = balance_columns s
written_fields Payment = final_balance ∷ []
written_fields Receipt = []
written_fields Addressee = []
written_fields Tail = tail_deleghe ∷ tail_sum ∷ tail_records ∷ []
written_fields Unknown = []

-- "with record and start": a field of the flow
pub record Place : Type 0 where
  pub «record» : ℕ
  pub start : ℕ

-- the same, of a record and a start that are given: "a record counted from 1", "Positions count from 1"
abbrev pub place : ℕ → ℕ → Place
place k p = record { «record» = k; start = p }

-- its bytes don't differ: a field of a record as it was and as it is
unfoldable pub stays : Field → List ℕ → List ℕ → Bool
stays f old new = same_bytes (bytes_of old f) (bytes_of new f)

-- "a field is listed exactly when its bytes differ": of these fields, in the k-th record as it was and as it is
unfoldable pub changed_in : ℕ → List Field → List ℕ → List ℕ → List Place
changed_in k [] old new = []
changed_in k (f ∷ fs) old new =
    cond (stays f old new) (changed_in k fs old new) (place k (f.start + 1) ∷ changed_in k fs old new)

-- "in the order of the flow": of records as they were and as they are, behind k others
unfoldable pub changed_from : ℕ → List (List ℕ) → List (List ℕ) → List Place
changed_from k [] news = []
changed_from k (r ∷ rs) [] = []
changed_from k (r ∷ rs) (s ∷ ss) = changed_in (k + 1) (written_fields (kind_in r)) r s ++ changed_from (k + 1) rs ss

-- "lists each field changed": of a flow as it is and as rebalancing leaves it
unfoldable pub changes_of : List ℕ → List Place
changes_of f = changed_from 0 (records_of f) (records_of (refreshed f))

-- "with record and start": the numbers of the list, two for each field
unfoldable pub place_numbers : List Place → List ℕ
place_numbers [] = []
place_numbers (p ∷ ps) = p.«record» ∷ p.start ∷ place_numbers ps
