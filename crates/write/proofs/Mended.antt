-- Records to be written that have no fault are mended by rebalancing, where what it writes fits.
use Prim.Native.Nat.{ℕ}
use mathlib.Core.Path.{◌≡◌, ap, ◌∙◌}
use mathlib.Core.Bool.{true}
use mathlib.Core.List.{List, [], ◌∷◌, ◌++◌}
use lib.ListN.{length}
use Rattle.text.specs.Characters.{first_bad}
use Rattle.layout.specs.declared.Kind.TheVariants.{Tail}
use Rattle.layout.specs.Kinds.{kind_in}
use Rattle.refusal.specs.Outcomes.{Pass}
use Rattle.amounts.proofs.Outcomes.{first-pass}
use Rattle.order.specs.Stages.{after_tail}
use Rattle.rules.specs.declared.State.{State}
use Rattle.rules.specs.Stored.{stored_of}
use Rattle.rules.specs.Checks.{char_fault}
use Rattle.rules.specs.Step.{next_deleghe, next}
use Rattle.judge.specs.Plain.{state_after}
use Rattle.rebalance.specs.Rebalance.{kept_fault, fits_all, all_fit, Mendable}
use Rattle.text.proofs.Tests.{both_true}
use Rattle.sheet.specs.Slots.{slot_fault}
use Rattle.sheet.specs.Sheet.{Entry}
use Rattle.sheet.specs.Filled.{filled, filled_all}
use Rattle.sheet.specs.Contents.{All, Entered, Numbering}
use Rattle.sheet.proofs.SlotPassed.{slot-kind}
use Rattle.sheet.proofs.FilledRecords.{length-filled}
use Rattle.write.specs.Writing.{entry_fault}
use Rattle.write.specs.WhenRefused.{NoEntryFault}

-- The name in the head.
module _ (name : List ℕ) where
  -- A record without a fault passes the check on its slot, and those that rebalancing leaves alone.
  pub passes_kept : (st : State) (e : Entry) → entry_fault name st e ≡ Pass → (slot_fault e.slot (filled name e) ≡ Pass) × (kept_fault name st (filled name e) ≡ Pass)
  unfolding entry_fault
  passes_kept st e p = first-pass (slot_fault e.slot (filled name e)) _ (first-pass (char_fault (first_bad (filled name e))) _ p).1

  -- It is of its slot's kind.
  pub passes-kind : (st : State) (e : Entry) → Entered e → entry_fault name st e ≡ Pass → kind_in (filled name e) ≡ e.slot
  passes-kind st e i p = slot-kind i.in-slot (filled name e) (passes_kept st e p).0

  -- Records without a fault that end with the tail lead to the phase after it.
  pub ends-after-tail : (st : State) (front : List Entry) (e : Entry) → e.slot ≡ Tail → All Entered (front ++ (e ∷ [])) → NoEntryFault name st (front ++ (e ∷ [])) → (state_after st (filled_all name (front ++ (e ∷ [])))).stage.phase ≡ after_tail
  unfolding state_after filled_all next
  ends-after-tail st [] e s i h = rw (passes-kind st e i.0 h.0 ∙ s)
  ends-after-tail st (x ∷ xs) e s i h = ends-after-tail (next st (filled name x)) xs e s i.1 h.1

  -- The deleghe that have begun are those that the numbers say.
  pub deleghe-after : (st : State) (es : List Entry) (n : ℕ) → All Entered es → NoEntryFault name st es → Numbering st.deleghe es n → (state_after st (filled_all name es)).deleghe ≡ n
  unfolding state_after filled_all next
  deleghe-after st [] n i h m = m
  deleghe-after st (e ∷ es) n i h m =
      let d : (next st (filled name e)).deleghe ≡ next_deleghe st.deleghe e.slot = ap (next_deleghe st.deleghe) (passes-kind st e i.0 h.0) in
      deleghe-after (next st (filled name e)) es n i.1 h.1 (rw d m.1)

  -- They are mended where what rebalancing writes fits and they end with the tail.
  pub mendable-filled : length name ≡ 20 → (st : State) (es : List Entry) → All Entered es → NoEntryFault name st es → all_fit st (filled_all name es) ≡ true → (state_after st (filled_all name es)).stage.phase ≡ after_tail → Mendable name st (filled_all name es)
  unfolding state_after filled_all all_fit
  mendable-filled l st [] i h f t = t
  mendable-filled l st (e ∷ es) i h f t =
      let r = filled name e in
      let a = both_true (fits_all (stored_of st (kind_in r))) (all_fit (next st r) (filled_all name es)) f in
      (length-filled name l e i.0, (passes_kept st e h.0).1, a.0, mendable-filled l (next st r) es i.1 h.1 a.1 t)
