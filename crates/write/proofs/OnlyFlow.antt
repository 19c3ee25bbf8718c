-- The flow that is written is the only accepted one that carries the sheet's records, and where there is such a flow and room for it, it is written.
use Prim.Native.Nat.{ℕ, suc, ◌*◌, ◌<◌}
use mathlib.Core.Path.{◌≡◌, refl, sym, ap, ◌∙◌, ap₂}
use mathlib.Core.Bool.{true, false}
use mathlib.Core.List.{List, [], ◌∷◌}
use mathlib.Core.Logic.{◌↔◌}
use native.Mathlib.Omega.{arith}
use lib.ListN.{length, get_or, take, drop, take-append-drop}
use lib.Seq.{ext_get_or, length-take-le}
use Rattle.text.specs.Numbers.{digits_of}
use Rattle.layout.specs.declared.Kind.TheVariants.{Head}
use Rattle.layout.specs.Kinds.{kind_in, numbered}
use Rattle.layout.specs.Fields.{in_columns}
use Rattle.refusal.specs.Outcomes.{Pass}
use Rattle.rules.specs.declared.State.{State}
use Rattle.rules.specs.State.{start_state}
use Rattle.rules.specs.Stored.{stored_of}
use Rattle.rules.specs.Checks.{fault}
use Rattle.rules.specs.Step.{next_deleghe, next}
use Rattle.judge.specs.Flow.{records_of, head_name_of}
use Rattle.judge.specs.Plain.{NoFault, Sound}
use Rattle.judge.proofs.Accepted.{accepted-means-no-fault}
use Rattle.rebalance.specs.Rebalance.{emit, rebalanced, fits_all, all_fit, flat, Sized}
use Rattle.rebalance.proofs.Emit.{KeptEach, kept-each, emit-length, emit-kind, emit-passes-kept, next-emit, emit-over, fault-kept, fault-fits, emit-own}
use Rattle.rebalance.proofs.Flat.{name-in-front}
use Rattle.rebalance.proofs.Judged.{sized-records, flat-records}
use Rattle.sheet.specs.Sheet.{Entry, entry}
use Rattle.sheet.specs.Filled.{filled, filled_all}
use Rattle.sheet.specs.Contents.{All, Entered, IsSheet, Numbering, count_in}
use Rattle.sheet.proofs.SlotExactly.{slot-exactly}
use Rattle.write.specs.Answers.{Written}
use Rattle.write.specs.Writing.{name_in, entry_fault, writing_of, flow_of}
use Rattle.write.specs.WhenRefused.{entries_in, NoEntryFault, MayBeWritten}
use Rattle.write.specs.Effect.{filled_columns, entry_at, Carries, Demanded}
use Rattle.write.proofs.Refusals.{written-exactly}
use Rattle.write.proofs.WrittenFlow.{entries-in, name-length, length-written, written-length, written-accepted}
use Rattle.write.proofs.CarriesSheet.{written-carries}
use Rattle.rebalance.proofs.Numbered.{number-held}
use Rattle.write.proofs.FilledAlike.{filled-alike, held-filled, name-held}

-- A record that passes every check after a state, and one to be written that it carries.
module _ (name : List ℕ) (n : length name ≡ 20) (st : State) (e : Entry) (a : Entered e) (r : List ℕ) (l : length r ≡ 120) (p : fault name st r ≡ Pass) (k : kind_in r ≡ e.slot)
    (same : (i : ℕ) → in_columns i (filled_columns e.slot) ≡ false → get_or r i 0 ≡ get_or e.bytes i 0) (right : numbered e.slot ≡ true → e.delega ≡ next_deleghe st.deleghe e.slot) where
  each : KeptEach name st r
  each = kept-each name st r (fault-kept st r l name p)

  -- With what is filled the one is the other, rebalanced before any line.
  carried-filled : filled name e ≡ emit start_state r
  carried-filled =
      filled-alike name n e.delega a.in-slot (record { one = a.sized; other = l; same = λ i h. sym (same i h) })
      ∙ held-filled name n e.delega e.slot r l k
      (λ h. number-held e.slot st.deleghe r l (rw (← k) each.digits) (rw (← k) each.number) h ∙ ap (digits_of 7) (sym (right h)))
      (name-held a.in-slot name st r (rw (← k) each.own))

  -- It has no fault.
  carried-passes : entry_fault name st e ≡ Pass
  unfolding entry_fault
  carried-passes =
      let q = emit start_state r in
      let m = emit-passes-kept start_state r l name st (fault-kept st r l name p) in
      let s = (slot-exactly q (emit-length start_state r l) a.in-slot).1 (emit-kind start_state r l ∙ k) in
      rw (carried-filled, (kept-each name st q m).characters, s) m

  -- What is written into it fits.
  carried-fits : fits_all (stored_of st (kind_in (filled name e))) ≡ true
  carried-fits = rw (carried-filled, emit-kind start_state r l) (fault-fits st r l name p)

  -- It leads to the same state.
  carried-next : next st (filled name e) ≡ next st r
  carried-next = ap (next st) carried-filled ∙ next-emit start_state r l st

  -- Rebalanced it is the record.
  carried-emit : emit st (filled name e) ≡ r
  carried-emit = ap (emit st) carried-filled ∙ (emit-over start_state r l st ∙ emit-own st r l name p)

-- What is shown of all records: none has a fault, what is written fits, and rebalanced they are those of the flow.
record Settled (name : List ℕ) (st : State) (es : List Entry) (rs : List (List ℕ)) : Type 0 where
  passes : NoEntryFault name st es
  fits : all_fit st (filled_all name es) ≡ true
  records : rebalanced st (filled_all name es) ≡ rs

settled : (name : List ℕ) → length name ≡ 20 → (st : State) (es : List Entry) (rs : List (List ℕ)) (m : ℕ) → All Entered es → Numbering st.deleghe es m → Sized rs → NoFault name st rs → Carries es rs → Settled name st es rs
unfolding all_fit filled_all rebalanced next
settled name n st [] [] m a b z f c = record { passes = tt; fits = refl; records = refl }
settled name n st [] (r ∷ rs) m a b z f c = absurd (omega (arith, c.count))
settled name n st (e ∷ es) [] m a b z f c = absurd (omega (arith, c.count))
settled name n st (e ∷ es) (r ∷ rs) m a b z f c =
    let k : kind_in r ≡ e.slot = c.kinds 0 (omega arith) in
    let d : (next st r).deleghe ≡ next_deleghe st.deleghe e.slot = ap (next_deleghe st.deleghe) k in
    let t = settled name n (next st r) es rs m a.1 (rw d b.1) z.1 f.1 (record { count = omega (arith, c.count); kinds = λ j h. c.kinds (suc j) (omega arith); bytes = λ j. c.bytes (suc j) }) in
    let q = carried-next name n st e a.0 r z.0 f.0 k (c.bytes 0) b.0 in
    record {
      passes = (carried-passes name n st e a.0 r z.0 f.0 k (c.bytes 0) b.0, rw q t.passes);
      fits = rw (carried-fits name n st e a.0 r z.0 f.0 k (c.bytes 0) b.0, q) t.fits;
      records = ap₂ ◌∷◌ (carried-emit name n st e a.0 r z.0 f.0 k (c.bytes 0) b.0) (rw q t.records);
    }

-- An accepted flow that carries the records of a sheet, and room for it.
module _ (sheet room flow : List ℕ) (w : Demanded sheet room flow) where
  abbrev i : IsSheet sheet
  i = w.a-sheet

  abbrev c : Carries (entries_in sheet) (records_of flow)
  c = w.carries

  sound : Sound flow
  sound = accepted-means-no-fault flow w.accepted

  -- It begins with the sheet's head.
  first-record : get_or (records_of flow) 0 [] ≡ take 120 sheet
  unfolding in_columns
  first-record =
      let x = entries-in sheet i in
      let e : entry_at (entries_in sheet) 0 ≡ entry Head 0 (take 120 sheet) = ap (λ (es : List Entry). entry_at es 0) x.head_first in
      whole-record (records_of flow) (sized-records flow sound.whole.even) (length-take-le 120 sheet x.long) (omega (arith, c.count, ap length x.head_first))
      (λ j. c.bytes 0 j (rw e refl) ∙ ap (λ (y : Entry). get_or y.bytes j 0) e)
    where
      whole-record : (rs : List (List ℕ)) → Sized rs → length (take 120 sheet) ≡ 120 → 0 < length rs → ((j : ℕ) → get_or (get_or rs 0 []) j 0 ≡ get_or (take 120 sheet) j 0) → get_or rs 0 [] ≡ take 120 sheet
      whole-record [] z l g s = absurd (omega arith)
      whole-record (r ∷ rs) z l g s = ext_get_or 0 r (take 120 sheet) (z.0 ∙ sym l) (λ j k. s j)

  -- It has the sheet's name.
  same_name : head_name_of flow ≡ name_in sheet
  unfolding flat
  same_name =
      let l = length-take-le 120 sheet (entries-in sheet i).long in
      ap head_name_of (sym (flat-records flow sound.whole.even))
      ∙ (front (records_of flow) (sized-records flow sound.whole.even) (omega (arith, c.count, ap length (entries-in sheet i).head_first))
      ∙ (ap head_name_of first-record ∙ (sym (name-in-front (take 120 sheet) (drop 120 sheet) l) ∙ ap head_name_of (take-append-drop 120 sheet))))
    where
      front : (rs : List (List ℕ)) → Sized rs → 0 < length rs → head_name_of (flat rs) ≡ head_name_of (get_or rs 0 [])
      front [] z g = absurd (omega arith)
      front (r ∷ rs) z g = name-in-front r (flat rs) z.0

  all_settled : Settled (name_in sheet) start_state (entries_in sheet) (records_of flow)
  unfolding start_state
  all_settled =
      let x = entries-in sheet i in
      settled (name_in sheet) (name-length sheet i) start_state (entries_in sheet) (records_of flow) (count_in sheet) x.each x.numbers (sized-records flow sound.whole.even) (rw same_name at sound.passes) c

  -- It is the flow to be written.
  only-this : flow_of sheet ≡ flow
  unfolding flow_of
  only-this = ap flat all_settled.records ∙ flat-records flow sound.whole.even

  -- None of the reasons for a refusal holds.
  may-be-written : MayBeWritten sheet room
  may-be-written =
      let n : length (entries_in sheet) * 120 ≡ length flow = sym (length-written sheet i) ∙ ap length only-this in
      let s = sound.whole.short in
      let h = w.in-room in
      record { tried = record { a-sheet = i; long-enough = omega arith; few = omega arith }; passes = all_settled.passes; fits = all_settled.fits }

-- A flow is written exactly where it is accepted, has room and carries the sheet's records; so there is no other.
pub only-flow : (sheet room flow : List ℕ) → Demanded sheet room flow ↔ ((writing_of sheet room ≡ Written (length flow)) × (flow_of sheet ≡ flow))
only-flow sheet room flow = (to, λ h. from h.0 h.1)
  where
    to : Demanded sheet room flow → (writing_of sheet room ≡ Written (length flow)) × (flow_of sheet ≡ flow)
    to w =
        let e = only-this sheet room flow w in
        ((written-exactly sheet room (length flow)).1 (may-be-written sheet room flow w, ap length (sym e) ∙ length-written sheet w.a-sheet), e)

    from : writing_of sheet room ≡ Written (length flow) → flow_of sheet ≡ flow → Demanded sheet room flow
    from e f =
        record {
          a-sheet = ((written-exactly sheet room (length flow)).0 e).0.tried.a-sheet;
          in-room = (written-length sheet room (length flow) e).2;
          accepted = rw (← f) (written-accepted sheet room (length flow) e);
          carries = rw (← f) (written-carries sheet room (length flow) e);
        }
