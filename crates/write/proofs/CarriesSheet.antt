-- The flow carries the sheet's records in order: each is of its slot's kind, and outside the filled columns every byte is the one that is keyed.
use Prim.Native.Nat.{ℕ, zero, suc, ◌<◌}
use mathlib.Core.Path.{◌≡◌, refl, sym, ap, ◌∙◌}
use mathlib.Core.Bool.{Bool, true, false, cond, false≢true}
use mathlib.Core.List.{List, [], ◌∷◌}
use native.Mathlib.Omega.{arith}
use lib.ListN.{length, get_or, replicate, get_or-replicate}
use Rattle.text.specs.Placing.{put_at}
use Rattle.text.proofs.Numerals.{length_digits}
use Rattle.text.proofs.Puts.{length-put}
use Rattle.layout.specs.declared.Kind.{Kind}
use Rattle.layout.specs.declared.Kind.TheVariants.{Balance, Tail}
use Rattle.layout.specs.Sections.{section_at}
use Rattle.layout.specs.Kinds.{kind_in, numbered}
use Rattle.layout.specs.Fields.{delega_number, tail_deleghe, tail_sum, tail_records, support_name, in_columns}
use Rattle.rules.specs.declared.State.{State}
use Rattle.rules.specs.State.{start_state}
use Rattle.rules.specs.Stored.{stored_of}
use Rattle.rules.specs.Step.{next}
use Rattle.judge.specs.Flow.{records_of}
use Rattle.rebalance.specs.Rebalance.{put_all, rebalanced, clear}
use Rattle.rebalance.proofs.Written.{byte_of, put_all-clear}
use Rattle.rebalance.proofs.Emit.{emit-kind, emit-outside}
use Rattle.rebalance.proofs.Rebalanced.{length-rebalanced}
use Rattle.sheet.specs.Slots.{type_text, subtype_text, made_balance}
use Rattle.sheet.specs.Sheet.{Entry, entry}
use Rattle.rebalance.specs.Numbering.{with_number}
use Rattle.rebalance.proofs.Numbered.{length-number, number-byte}
use Rattle.sheet.specs.Filled.{is_tail, with_name, filled, filled_all}
use Rattle.sheet.specs.Contents as In
use Rattle.sheet.specs.Contents.{Slot, All, Entered}
use Rattle.sheet.proofs.FilledRecords.{slot-laid, length-name, length-filled}
use Rattle.write.specs.Answers.{Written}
use Rattle.write.specs.Writing.{name_in, writing_of, flow_of}
use Rattle.write.specs.WhenRefused.{entries_in, NoEntryFault, MayBeWritten}
use Rattle.write.specs.Effect.{filled_columns, entry_at, Carries, made_columns}
use Rattle.write.proofs.Refusals.{written-exactly}
use Rattle.write.proofs.Mended.{passes-kind}
use Rattle.write.proofs.WrittenFlow.{length-filled-all, entries-in, name-length, records-written}
use Rattle.rebalance.proofs.Outside.{Beside, outside, put-off, swapped, covers-clear}
use Rattle.write.proofs.SlotColumns.{slot_stored, slot-covers}

-- An index of a slot that is not filled lies outside the number, the name and the stored fields.
record Spared (k : Kind) (i : ℕ) : Type 0 where
  number : numbered k ≡ true → Beside i delega_number
  name : is_tail k ≡ true → Beside i support_name
  stored : (st : State) → clear i 1 (stored_of st k) ≡ true

-- So it is in a slot that has a number.
numbered-spared : {k : Kind} (s : Slot k) (i : ℕ) → is_tail k ≡ false → in_columns i (delega_number ∷ slot_stored s) ≡ false → Spared k i
numbered-spared {k} s i t h =
    let a = outside i delega_number (slot_stored s) h in
    record { number = λ e. a.0; name = λ e. absurd (false≢true (sym t ∙ e)); stored = λ st. covers-clear i (slot_stored s) (stored_of st k) (slot-covers s st) a.1 }

spared : {k : Kind} → Slot k → (i : ℕ) → in_columns i (filled_columns k) ≡ false → Spared k i
unfolding numbered
spared In.head i h = record { number = λ e. absurd (false≢true e); name = λ e. absurd (false≢true e); stored = λ st. covers-clear i [] [] tt h }
spared In.taxpayer i h = numbered-spared In.taxpayer i refl h
spared In.domicile i h = numbered-spared In.domicile i refl h
spared (In.line x g) i h = numbered-spared (In.line x g) i refl h
spared (In.balance x g) i h = numbered-spared (In.balance x g) i refl h
spared In.payment i h = numbered-spared In.payment i refl h
spared In.tail i h =
    let a = outside i support_name (tail_deleghe ∷ tail_sum ∷ tail_records ∷ []) h in
    record { number = λ e. absurd (false≢true e); name = λ e. a.0; stored = λ st. covers-clear i (slot_stored In.tail) (stored_of st Tail) (slot-covers In.tail st) (sym (swapped i tail_deleghe tail_sum tail_records []) ∙ a.1) }

-- A record of 120 bytes, and a byte of it that is not filled.
module _ (k : Kind) (r : List ℕ) (l : length r ≡ 120) (i : ℕ) where
  -- The name leaves it.
  name-byte : (name : List ℕ) → length name ≡ 20 → (is_tail k ≡ true → Beside i support_name) → get_or (with_name k name r) i 0 ≡ get_or r i 0
  unfolding with_name
  name-byte name n o = go (is_tail k) o
    where
      go : (t : Bool) → (t ≡ true → Beside i support_name) → get_or (cond t (put_at 19 name r) r) i 0 ≡ get_or r i 0
      go true o = put-off support_name name r (rw n) (omega arith) i (o refl)
      go false o = refl

-- A name of 20 characters, and records to be written.
module _ (name : List ℕ) (n : length name ≡ 20) where
  -- What is filled leaves every other byte.
  pub filled-byte : (e : Entry) → Entered e → (i : ℕ) → in_columns i (filled_columns e.slot) ≡ false → get_or (filled name e) i 0 ≡ get_or e.bytes i 0
  unfolding filled
  filled-byte e a i h =
      let s = spared a.in-slot i h in
      let xs = stored_of start_state e.slot in
      let p = length-number e.slot e.delega e.bytes a.sized in
      let r = with_name e.slot name (with_number e.slot e.delega e.bytes) in
      let q = length-name e.slot (with_number e.slot e.delega e.bytes) p name n in
      byte_of (put_all xs r) i
      ∙ (ap (λ (b : List ℕ). get_or b 0 0) (put_all-clear xs r (slot-laid start_state a.in-slot) q i 1 (s.stored start_state))
      ∙ (sym (byte_of r i) ∙ (name-byte e.slot (with_number e.slot e.delega e.bytes) p i name n s.name ∙ number-byte e.slot e.delega e.bytes a.sized i s.number)))

  -- Rebalancing leaves every other byte besides.
  records-byte : (st : State) (es : List Entry) → All Entered es → NoEntryFault name st es → (k i : ℕ) → in_columns i (filled_columns (entry_at es k).slot) ≡ false → get_or (get_or (rebalanced st (filled_all name es)) k []) i 0 ≡ get_or (entry_at es k).bytes i 0
  unfolding rebalanced filled_all
  records-byte st [] a p k i h = refl
  records-byte st (e ∷ es) a p zero i h =
      let r = filled name e in
      emit-outside st r (length-filled name n e a.0) i (rw (passes-kind name st e a.0 p.0) ((spared a.0.in-slot i h).stored st)) ∙ filled-byte e a.0 i h
  records-byte st (e ∷ es) a p (suc k) i h = records-byte (next st (filled name e)) es a.1 p.1 k i h

  -- Each record is of its slot's kind.
  records-kind : (st : State) (es : List Entry) → All Entered es → NoEntryFault name st es → (k : ℕ) → k < length es → kind_in (get_or (rebalanced st (filled_all name es)) k []) ≡ (entry_at es k).slot
  unfolding rebalanced filled_all
  records-kind st [] a p k h = absurd (omega arith)
  records-kind st (e ∷ es) a p zero h = emit-kind st (filled name e) (length-filled name n e a.0) ∙ passes-kind name st e a.0 p.0
  records-kind st (e ∷ es) a p (suc k) h = records-kind (next st (filled name e)) es a.1 p.1 k (omega arith)

-- What holds of each of a list holds of the one at a place in it.
pub all-at : {A : Type 0} (P : A → Type 0) (d : A) (xs : List A) → All P xs → (k : ℕ) → k < length xs → P (get_or xs k d)
all-at P d [] a k h = absurd (omega arith)
all-at P d (x ∷ xs) a zero h = a.0
all-at P d (x ∷ xs) a (suc k) h = all-at P d xs a.1 k (omega arith)

-- A made balance record has spaces outside its type and subtype.
made-byte : (x i : ℕ) → i < 120 → in_columns i (made_columns x) ≡ false → get_or (made_balance x) i 0 ≡ 32
unfolding made_balance type_text subtype_text
made-byte x i g h =
    let blank : List ℕ = replicate 120 32 in
    let b : length blank ≡ 120 = refl in
    let t : length (put_at 1 (52 ∷ 48 ∷ []) blank) ≡ 120 = length-put 1 (52 ∷ 48 ∷ []) blank (omega arith) ∙ b in
    let o = outside i (record { start = 1; end = 3 }) _ h in
    let s = outside i (record { start = 10; end = 12 }) _ o.1 in
    put-off (record { start = 10; end = 12 }) _ _ (rw (length_digits 2 (section_at x).balance_subtype)) (omega arith) i s.0
    ∙ (put-off (record { start = 1; end = 3 }) (52 ∷ 48 ∷ []) blank refl (omega arith) i o.0 ∙ get_or-replicate 120 i 32 0 g)

-- A flow that is written.
module _ (sheet room : List ℕ) (n : ℕ) (e : writing_of sheet room ≡ Written n) where
  may : MayBeWritten sheet room
  may = ((written-exactly sheet room n).0 e).0

  each : All Entered (entries_in sheet)
  each = (entries-in sheet may.tried.a-sheet).each

  -- "carries the sheet's records in order, the filled columns apart"
  pub written-carries : Carries (entries_in sheet) (records_of (flow_of sheet))
  written-carries =
      let a = may.tried.a-sheet in
      let name = name_in sheet in
      record {
        count = ap length (records-written sheet a) ∙ (length-rebalanced start_state (filled_all name (entries_in sheet)) ∙ length-filled-all name (entries_in sheet));
        kinds = λ k h. rw (records-written sheet a) (records-kind name (name-length sheet a) start_state (entries_in sheet) each may.passes k h);
        bytes = λ k i h. rw (records-written sheet a) (records-byte name (name-length sheet a) start_state (entries_in sheet) each may.passes k i h);
      }

  -- "The writer makes the balance records (columns that 01 doesn't name are spaces)"
  pub made-spaces : (k x i : ℕ) → k < length (entries_in sheet) → (entry_at (entries_in sheet) k).slot ≡ Balance x → i < 120 → in_columns i (made_columns x) ≡ false → get_or (get_or (records_of (flow_of sheet)) k []) i 0 ≡ 32
  made-spaces k x i l s g h =
      let o = outside i (record { start = 1; end = 3 }) _ h in
      let p = outside i (record { start = 10; end = 12 }) _ o.1 in
      written-carries.bytes k i (rw s p.1) ∙ (ap (λ (r : List ℕ). get_or r i 0) ((all-at Entered (entry _ 0 []) (entries_in sheet) each k l).made x s) ∙ made-byte x i g h)
