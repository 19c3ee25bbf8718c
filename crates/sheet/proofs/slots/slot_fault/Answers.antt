-- `sheet::slots::slot_fault` meets its contract.
-- Whether the record has the type of its slot's kind.
use Prim.Native.Nat.{ℕ}
use mathlib.Core.Path.{◌≡◌, ap, ◌∙◌}
use mathlib.Core.List.{List}
use lib.ListN.{take, drop}
use Rattle.amounts.specs.Names.{same_bytes}
use Rattle.sheet.specs.Slots.{type_text, slot_fault}
use Rattle.sheet.proofs.slots.slot_fault.Goals as goal
use Rattle.sheet.proofs.slots.slot_fault.Goals.{After-same_bytes}

typed : (c : After-same_bytes) → c.same_bytes.result ≡ same_bytes (take 2 (drop 1 c.args.rec.now)) (type_text c.args.slot)
typed c = c.same_bytes.ensures ∙ ap (λ (l : List ℕ). same_bytes (take 2 (drop 1 c.args.rec.now)) l) c.type_text.ensures

pub returns-then-subtype_fits : goal.returns-then-subtype_fits
unfolding slot_fault
returns-then-subtype_fits c = rw (← (typed (goal.at.returns-then-subtype_fits c).After-same_bytes), c.if-same_bytes.true, ← c.subtype_fits.ensures, c.if-subtype_fits.true)

pub returns-then-same_bytes : goal.returns-then-same_bytes
unfolding slot_fault
returns-then-same_bytes c = rw (← (typed (goal.at.returns-then-same_bytes c).After-same_bytes), c.if-same_bytes.true, ← c.subtype_fits.ensures, c.if-subtype_fits.false)

pub returns : goal.returns
unfolding slot_fault
returns c = rw (← (typed (goal.at.returns c).After-same_bytes), c.if-same_bytes.false)
