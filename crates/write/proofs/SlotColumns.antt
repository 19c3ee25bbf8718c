-- The columns that each slot stores.
use mathlib.Core.Path.{refl}
use mathlib.Core.List.{List, [], ◌∷◌}
use Rattle.layout.specs.declared.Field.{Field}
use Rattle.layout.specs.declared.Kind.{Kind}
use Rattle.layout.specs.Sections.{section_at}
use Rattle.layout.specs.Fields.{final_balance, tail_deleghe, tail_sum, tail_records}
use Rattle.rules.specs.declared.State.{State}
use Rattle.rules.specs.Stored.{section_sums, stored_of}
use Rattle.rebalance.proofs.Outside.{Covers, balance-covers}
use Rattle.sheet.specs.Contents as In
use Rattle.sheet.specs.Contents.{Slot}
use Rattle.rebalance.specs.Places.{balance_columns}

-- The columns that a slot stores.
abbrev pub slot_stored : {k : Kind} → Slot k → List Field
slot_stored In.head = []
slot_stored In.taxpayer = []
slot_stored In.domicile = []
slot_stored (In.line x h) = []
slot_stored (In.balance x h) = balance_columns x
slot_stored In.payment = final_balance ∷ []
slot_stored In.tail = tail_deleghe ∷ tail_records ∷ tail_sum ∷ []

-- They are the columns of what it stores, after whatever state.
pub slot-covers : {k : Kind} (s : Slot k) (st : State) → Covers (slot_stored s) (stored_of st k)
slot-covers In.head st = tt
slot-covers In.taxpayer st = tt
slot-covers In.domicile st = tt
slot-covers (In.line x h) st = tt
slot-covers (In.balance x h) st = balance-covers x (section_sums st x) (section_at x).totals
slot-covers In.payment st = (refl, refl, tt)
slot-covers In.tail st = (refl, refl, (refl, refl, (refl, refl, tt)))
