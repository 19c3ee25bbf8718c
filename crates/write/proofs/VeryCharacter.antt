-- Refusal 7 of a sheet names the very character that was keyed: of the record that it tells, the first in a numeric field that the writer does not fill.
use Prim.Native.Nat.{ℕ, ◌+◌, ◌-◌, ◌<◌, ◌≤◌}
use mathlib.Core.Path.{◌≡◌, refl, sym, ap, ◌∙◌}
use mathlib.Core.Bool.{true, false, false≢true}
use mathlib.Core.List.{List, [], ◌∷◌}
use mathlib.Core.Logic.{inr, ⊎_elim}
use native.Mathlib.Omega.{arith}
use lib.Dec.{lit≤}
use lib.ListN.{length, get_or}
use Rattle.text.specs.Numbers.{digit}
use Rattle.text.proofs.NonDigits.{written-digits}
use Rattle.layout.specs.declared.Field.{Field}
use Rattle.layout.specs.declared.Kind.{Kind}
use Rattle.layout.specs.Kinds.{kind_in, numbered}
use Rattle.layout.specs.Fields.{delega_number, fields_of, in_columns}
use Rattle.layout.proofs.InOrder.{InOrder, in-first, others-in, none_before, fields-in-order}
use Rattle.refusal.specs.Outcomes.{Fails}
use Rattle.rules.specs.declared.State.{State}
use Rattle.rules.specs.NonDigits.{FirstNonDigit}
use Rattle.rules.proofs.NonDigits.{field-digits}
use Rattle.refusal.specs.Refusals.{refusal}
use Rattle.judge.specs.Plain.{Debit, Credit, column_of}
use Rattle.rebalance.specs.Rebalance.{kept_fields}
use Rattle.rebalance.proofs.Outside.{off-all}
use Rattle.lenient.proofs.VeryCharacter.{kept-seven-at}
use Rattle.sheet.specs.Sheet.{Entry}
use Rattle.sheet.specs.Filled.{filled}
use Rattle.sheet.specs.Contents as In
use Rattle.sheet.specs.Contents.{Slot, Entered}
use Rattle.sheet.proofs.FilledRecords.{length-filled}
use Rattle.write.specs.Writing.{refusal_written, name_in, entry_fault, writing_of}
use Rattle.write.specs.WhenRefused.{entries_in}
use Rattle.write.specs.Effect.{keyed_fields, filled_columns, entry_at}
use Rattle.write.proofs.RecordRefused.{above-four, record-refused}
use Rattle.write.proofs.WrittenFlow.{name-length}
use Rattle.write.proofs.NeverEight.{number-digits-filled}
use Rattle.write.proofs.CarriesSheet.{filled-byte}

-- Where a field holds digits only, the first non-digit is in the others.
past-field : (f : Field) (fl : List Field) (r : List ℕ) {i : ℕ} → ((j : ℕ) → f.start ≤ j → j < f.end → digit (get_or r j 0) ≡ true) → FirstNonDigit (f ∷ fl) r i → FirstNonDigit fl r i
past-field f fl r {i} d h =
    record {
      inside = ⊎_elim (λ g. absurd (false≢true (sym h.wrong ∙ d i g.0 g.1))) (λ g. g) (in-first i f fl h.inside);
      wrong = h.wrong;
      before = λ j p g. h.before j p (others-in j f fl g);
    }

-- Bytes that are the same in the fields have the same first non-digit.
same_first : (fl : List Field) (r q : List ℕ) {i : ℕ} → ((j : ℕ) → in_columns j fl ≡ true → get_or r j 0 ≡ get_or q j 0) → FirstNonDigit fl r i → FirstNonDigit fl q i
same_first fl r q {i} s h =
    record { inside = h.inside; wrong = ap digit (sym (s i h.inside)) ∙ h.wrong; before = λ j p g. ap digit (sym (s j g)) ∙ h.before j p g }

-- The number of a delega, of digits only.
abbrev Numbered : List ℕ → Type 0
Numbered r = (j : ℕ) → 3 ≤ j → j < 10 → digit (get_or r j 0) ≡ true

-- A record of a slot that has the digits of its number and, outside what is filled, the bytes that are keyed: its first non-digit is one of those.
module _ (r q : List ℕ) {i : ℕ} where
  none-keyed : FirstNonDigit [] r i → FirstNonDigit [] q i
  unfolding in_columns
  none-keyed h = absurd (false≢true h.inside)

  number-alone : Numbered r → FirstNonDigit (delega_number ∷ []) r i → FirstNonDigit [] q i
  number-alone d h = none-keyed (past-field delega_number [] r d h)

  keyed-first : {k : Kind} → Slot k → InOrder 0 (fields_of k) → (numbered k ≡ true → Numbered r) → ((j : ℕ) → in_columns j (filled_columns k) ≡ false → get_or r j 0 ≡ get_or q j 0) → FirstNonDigit (kept_fields k) r i → FirstNonDigit (keyed_fields k) q i
  unfolding numbered in_columns
  keyed-first In.head o d s h = same_first _ r q (λ j g. s j refl) h
  keyed-first In.taxpayer o d s h = number-alone (d refl) h
  keyed-first In.domicile o d s h = number-alone (d refl) h
  keyed-first (In.line x b) o d s h =
      let fl = column_of Debit x ∷ column_of Credit x ∷ [] in
      same_first fl r q (λ j g. s j (off-all j delega_number [] (inr (none_before 10 fl o.3 j g)) refl)) (past-field delega_number fl r (d refl) h)
  keyed-first (In.balance x b) o d s h = number-alone (d refl) h
  keyed-first In.payment o d s h = number-alone (d refl) h
  keyed-first In.tail o d s h = none-keyed h

-- A name of 20 characters, and a record to be written that is refused with 7.
module _ (name : List ℕ) (n : length name ≡ 20) (st : State) (e : Entry) (a : Entered e) {p : ℕ} (f : entry_fault name st e ≡ Fails 7 p) where
  abbrev r : List ℕ
  r = filled name e

  l : length r ≡ 120
  l = length-filled name n e a

  of-slot : kind_in r ≡ e.slot
  of-slot = (above-four name st e a (omega arith) f).0

  order : InOrder 0 (fields_of e.slot)
  order = rw of-slot at (fields-in-order r)

  number-of-digits : numbered e.slot ≡ true → Numbered r
  number-of-digits h j = field-digits r l delega_number [] 0 (lit≤ tt, lit≤ tt, lit≤ tt, tt) 7 (lit≤ tt) (rw (number-digits-filled name n e a h) (written-digits 7 e.delega)) j

  entry-names-character : (i : ℕ) × (p ≡ i + 1) × FirstNonDigit (keyed_fields e.slot) e.bytes i
  entry-names-character =
      let t = kept-seven-at name st r l (above-four name st e a (omega arith) f).1 in
      (t.0, t.1, keyed-first r e.bytes a.in-slot order number-of-digits (filled-byte name n e a) (rw of-slot at t.2))

-- "7 names the first non-digit's own position .. in the sheets": of any sheet that is refused with 7, as it was keyed in the record told
pub sheet-names-character : (sheet room : List ℕ) (k p : ℕ) → refusal_written (writing_of sheet room) ≡ refusal 7 k p →
    (i : ℕ) × (p ≡ i + 1) × FirstNonDigit (keyed_fields (entry_at (entries_in sheet) (k - 1)).slot) (entry_at (entries_in sheet) (k - 1)).bytes i
sheet-names-character sheet room k p w =
    let f = record-refused sheet room 7 k p (omega arith) w in
    entry-names-character (name_in sheet) (name-length sheet f.a-sheet) f.after _ f.entered f.fails
