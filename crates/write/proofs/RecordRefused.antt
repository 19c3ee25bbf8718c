-- A sheet that is refused for a record to be written: which record it is, and what fails there.
use Prim.Native.Nat.{ℕ, suc, ◌+◌, ◌-◌, ◌<◌}
use mathlib.Core.Path.{◌≡◌, ap, ◌∙◌}
use mathlib.Core.List.{List, [], ◌∷◌}
use native.Mathlib.Omega.{arith}
use lib.ListN.{length, length-append}
use lib.Seq.{get_or-append_seam}
use Rattle.text.specs.Characters.{first_bad}
use Rattle.layout.specs.declared.Kind.{Kind}
use Rattle.layout.specs.declared.Kind.TheVariants.{Unknown}
use Rattle.layout.specs.Kinds.{kind_in}
use Rattle.refusal.specs.Outcomes.{Fails}
use Rattle.amounts.specs.Names.{same_bytes}
use Rattle.rules.specs.declared.State.{State}
use Rattle.rules.specs.State.{start_state}
use Rattle.rules.specs.Checks.{char_fault}
use Rattle.refusal.specs.declared.Refusal.{Refusal}
use Rattle.refusal.specs.Refusals.{refusal}
use Rattle.judge.specs.Plain.{state_after}
use Rattle.judge.proofs.ChecksInOrder.{Only, passed, failed, only-cond, char-only, never, other-fault}
use Rattle.rebalance.specs.Rebalance.{kept_fault}
use Rattle.sheet.specs.Slots.{type_text, subtype_text, slot_fault}
use Rattle.sheet.specs.Sheet.{Entry, entry}
use Rattle.sheet.specs.Filled.{filled, filled_all}
use Rattle.sheet.specs.Contents.{IsSheet, Entered}
use Rattle.sheet.proofs.SlotPassed.{slot-kind}
use Rattle.write.specs.Writing.{refusal_written, name_in, entry_fault, writing_of}
use Rattle.write.specs.WhenRefused.{entries_in, FirstEntryFault, Tried, WhyRefused, NotASheet, ShortRoom, ManyRecords, FaultyRecord, NoFit}
use Rattle.write.specs.Effect.{entry_at}
use Rattle.write.proofs.Refusals.{refused-exactly}
use Rattle.write.proofs.WrittenFlow.{entries-in}
use Rattle.write.proofs.CarriesSheet.{all-at}

-- The slot has 4.
slot-only : (k : Kind) (r : List ℕ) → Only 4 (slot_fault k r)
unfolding slot_fault
slot-only k r = only-cond (same_bytes _ (type_text k)) (only-cond (same_bytes _ (subtype_text k)) passed failed) failed

-- A fault above 4 of a record to be written is that of the checks that rebalancing leaves alone, and the record is of its slot's kind.
pub above-four : (name : List ℕ) (st : State) (e : Entry) {n p : ℕ} → Entered e → 4 < n → entry_fault name st e ≡ Fails n p → (kind_in (filled name e) ≡ e.slot) × (kept_fault name st (filled name e) ≡ Fails n p)
unfolding entry_fault
above-four name st e a h f =
    let r = filled name e in
    let c = other-fault (char_fault (first_bad r)) (never (char-only (first_bad r)) (λ z. omega arith)) f in
    let d = other-fault (slot_fault e.slot r) (never (slot-only e.slot r) (λ z. omega arith)) c.1 in
    (slot-kind a.in-slot r d.0, d.1)

-- The k-th record to be written fails with number n at position p, after some state.
pub record FailsAt (sheet : List ℕ) (n k p : ℕ) : Type 0 where
  pub a-sheet : IsSheet sheet
  pub entered : Entered (entry_at (entries_in sheet) (k - 1))
  pub after : State
  pub fails : entry_fault (name_in sheet) after (entry_at (entries_in sheet) (k - 1)) ≡ Fails n p

-- A number that is none of the whole sheet's.
abbrev OfRecord : ℕ → Type 0
OfRecord n = (n ≡ 0 → ⊥) × (n ≡ 1 → ⊥) × (n ≡ 23 → ⊥) × (n ≡ 24 → ⊥) × (n ≡ 25 → ⊥)

-- A sheet that is refused with such a number is refused for a record.
pub record-refused : (sheet room : List ℕ) (n k p : ℕ) → OfRecord n → refusal_written (writing_of sheet room) ≡ refusal n k p → FailsAt sheet n k p
record-refused sheet room n k p o w = why ((refused-exactly sheet room (refusal n k p)).0 (w, o.0))
  where
    here : Entry
    here = entry_at (entries_in sheet) (k - 1)

    named : Tried sheet room → FirstEntryFault (name_in sheet) start_state (entries_in sheet) n k p → FailsAt sheet n k p
    named t f =
        let c = f.counted in
        let j : k - 1 ≡ length f.before = omega arith in
        let m : length (entries_in sheet) ≡ length f.before + suc (length f.behind) = ap length f.split ∙ length-append f.before (f.here ∷ f.behind) in
        let h : here ≡ f.here = ap (entry_at (entries_in sheet)) j ∙ (ap (λ (es : List Entry). entry_at es (length f.before)) f.split ∙ get_or-append_seam f.before f.here f.behind _) in
        let st = state_after start_state (filled_all (name_in sheet) f.before) in
        record {
          a-sheet = t.a-sheet;
          entered = all-at Entered (entry Unknown 0 []) (entries_in sheet) (entries-in sheet t.a-sheet).each (k - 1) (omega arith);
          after = st;
          fails = ap (entry_fault (name_in sheet) st) h ∙ f.fails;
        }

    number : {m : ℕ} → refusal n k p ≡ refusal m 0 0 → n ≡ m
    number q = ap (λ (y : Refusal). y.number) q

    why : WhyRefused sheet room (refusal n k p) → FailsAt sheet n k p
    why (NotASheet h q) = absurd (o.3 (number q))
    why (ShortRoom i h q) = absurd (o.4 (number q))
    why (ManyRecords i h m q) = absurd (o.1 (number q))
    why (FaultyRecord t f) = named t f
    why (NoFit t h g q) = absurd (o.2 (number q))
