-- The fault of a record to be written is the judge's own, of the record as it would be written: every filled field is taken as right.
use Rattle.std.specs.Prelude.{Err}
use Prim.Native.Nat.{ℕ}
use mathlib.Core.Path.{◌≡◌, refl}
use mathlib.Core.List.{List}
use lib.ListN.{length}
use Rattle.text.specs.Answers.{Characters, Allowed, BadAt}
use Rattle.text.specs.Characters.{first_bad}
use Rattle.refusal.specs.Outcomes.{Outcome, Pass}
use Rattle.amounts.specs.Outcomes.{first}
use Rattle.rules.specs.declared.State.{State}
use Rattle.rules.specs.Checks.{char_fault}
use Rattle.rebalance.specs.Rebalance.{kept_fault}
use Rattle.rebalance.proofs.AsJudged.{kept-then-stored}
use Rattle.sheet.specs.Slots.{slot_fault}
use Rattle.sheet.specs.Sheet.{Entry}
use Rattle.sheet.specs.Filled.{filled}
use Rattle.write.specs.Writing.{entry_fault}
use Rattle.write.specs.WhenRefused.{EntrySays, BadCharacter, OutOfSlot, AsWritten}

-- What is said of a record to be written: 3 by its characters, then 4 by its slot, then what the judge says of it as it would be written.
pub entry-says : (name : List ℕ) (st : State) (e : Entry) → length (filled name e) ≡ 120 → EntrySays name st e (entry_fault name st e)
unfolding entry_fault
entry-says name st e l = go (first_bad r) (slot_fault e.slot r) refl refl
  where
    r : List ℕ
    r = filled name e

    go : (c : Characters) (o : Outcome) → first_bad r ≡ c → slot_fault e.slot r ≡ o → EntrySays name st e (first (char_fault c) (first o (kept_fault name st r)))
    go (BadAt i) o p q = BadCharacter p
    go Allowed (Err why) p q = OutOfSlot p q
    go Allowed Pass p q = AsWritten p q (kept-then-stored name st r l p)
