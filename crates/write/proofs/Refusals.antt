-- When a sheet is refused and with what, and when its flow is written; a refusal leaves the room.
use Rattle.std.specs.Prelude.{Err}
use Prim.Native.Nat.{ℕ, ◌+◌, ◌*◌}
use mathlib.Core.Path.{◌≡◌, refl, sym, ap, ◌∙◌}
use mathlib.Core.Bool.{Bool, true, false, cond, false≢true}
use mathlib.Core.List.{List}
use mathlib.Core.Logic.{◌↔◌}
use native.Mathlib.Omega.{arith}
use borrow.Author.Tests.{ltb-true, ltb-false, lt-ltb, le-ltb}
use lib.Dec.{ltb}
use lib.ListN.{length}
use Rattle.refusal.specs.Outcomes.{Fails}
use Rattle.refusal.proofs.Parts.{refused-parts}
use Rattle.text.specs.Among.{among}
use Rattle.rules.specs.declared.State.{State}
use Rattle.rules.specs.State.{start_state}
use Rattle.refusal.specs.declared.Refusal.{Refusal}
use Rattle.refusal.specs.Refusals.{refusal, no_refusal}
use Rattle.rebalance.specs.Rebalance.{all_fit}
use Rattle.lenient.specs.Answers.{Lenient}
use Rattle.lenient.specs.Answers as Kept
use Rattle.sheet.specs.Sheet.{Entry, Reading, NoSheet, Read, sheet_of}
use Rattle.sheet.specs.Filled.{filled_all}
use Rattle.sheet.specs.Contents.{IsSheet}
use Rattle.sheet.proofs.SaidBySheet.{sheet-said}
use Rattle.sheet.proofs.ReadsContents.{contents-read, no-sheet-exactly}
use Rattle.write.specs.Answers.{Writing, Written, Refused}
use Rattle.write.specs.Writing.{refusal_written, name_in, entry_fault, entries_fault, after_faults, tried_in, answer_to, writing_of, entries_read, room_after}
use Rattle.write.specs.WhenRefused.{entries_in, FirstEntryFault, Tried, WhyRefused, NotASheet, ShortRoom, ManyRecords, FaultyRecord, NoFit, MayBeWritten}
use Rattle.write.proofs.FirstEntry.{each-passes, all_pass, first-told, told-first}
use Rattle.judge.proofs.OwnNumbers.{in-fault}
use Rattle.write.proofs.FaultNumbers.{entry-number}

-- No fault of a record has the number 0.
fault-above : (name : List ℕ) (st : State) (e : Entry) {n p : ℕ} → entry_fault name st e ≡ Fails n p → n ≡ 0 → ⊥
unfolding among
fault-above name st e f z = let h = in-fault (rw f at (entry-number name st e)) in false≢true (rw z at h)

-- The ways in which a sheet is answered.
data Way (sheet room : List ℕ) : Writing → Type 0 where
  refused : {n r p : ℕ} → WhyRefused sheet room (refusal n r p) → (n ≡ 0 → ⊥) → Way sheet room (Refused n r p)
  written : MayBeWritten sheet room → Way sheet room (Written (length (entries_in sheet) * 120))

module _ (sheet room : List ℕ) where
  abbrev name : List ℕ
  name = name_in sheet

  abbrev es : List Entry
  es = entries_in sheet

  -- The records of a sheet are tried.
  tried-way : IsSheet sheet → Way sheet room (tried_in (length room) name es)
  unfolding tried_in start_state
  tried-way i = go (ltb (length room) (length es * 120)) (ltb 546 (length es)) (entries_fault name start_state es) (all_fit start_state (filled_all name es)) refl refl refl refl
    where
      go : (a b : Bool) (l : Lenient) (f : Bool) → ltb (length room) (length es * 120) ≡ a → ltb 546 (length es) ≡ b → entries_fault name start_state es ≡ l → all_fit start_state (filled_all name es) ≡ f →
          Way sheet room (cond a (Refused 25 0 0) (cond b (Refused 1 0 0) (after_faults l (cond f (Written (length es * 120)) (Refused 23 0 0)))))
      go true b l f p q s t = refused (ShortRoom i (ltb-true _ _ p) refl) (λ z. omega arith)
      go false true l f p q s t = refused (ManyRecords i (ltb-false _ _ p) (ltb-true _ _ q) refl) (λ z. omega arith)
      go false false (Err why) f p q s t =
          let h = first-told name start_state es s in
          let e : why.«record» ≡ h.0 = omega (arith, h.1) in
          let w : FirstEntryFault name start_state es why.number why.«record» why.position = rw e h.2 in
          refused (FaultyRecord (record { a-sheet = i; long-enough = ltb-false _ _ p; few = ltb-false _ _ q }) w) (fault-above name _ h.2.here h.2.fails)
      go false false Kept.Passed true p q s t = written (record { tried = record { a-sheet = i; long-enough = ltb-false _ _ p; few = ltb-false _ _ q }; passes = each-passes name start_state es s; fits = t })
      go false false Kept.Passed false p q s t = refused (NoFit (record { a-sheet = i; long-enough = ltb-false _ _ p; few = ltb-false _ _ q }) (each-passes name start_state es s) t refl) (λ z. omega arith)

  -- Every sheet is answered in one of the ways.
  way : Way sheet room (writing_of sheet room)
  unfolding writing_of
  way = go (sheet_of sheet) refl
    where
      go : (r : Reading) → sheet_of sheet ≡ r → Way sheet room (answer_to (length room) name r)
      go NoSheet e = refused (NotASheet ((no-sheet-exactly sheet).0 e) refl) (λ z. omega arith)
      go (Read fs rest) e = let i : fs ≡ es = sym (ap entries_read e) in rw i (tried-way (sheet-said sheet fs rest e).0)

  -- A sheet is answered by trying its records.
  answered-tried : IsSheet sheet → writing_of sheet room ≡ tried_in (length room) name es
  unfolding writing_of
  answered-tried i = let e = ap sheet_of i.text ∙ contents-read i.contents i.keyed in ap (answer_to (length room) name) e ∙ ap (tried_in (length room) name) (sym (ap entries_read e))

  -- Where there is room for at most 546 records, a fault of one decides, and then what fits.
  answered-faults : Tried sheet room → writing_of sheet room ≡ after_faults (entries_fault name start_state es) (cond (all_fit start_state (filled_all name es)) (Written (length es * 120)) (Refused 23 0 0))
  unfolding tried_in
  answered-faults t = answered-tried t.a-sheet ∙ rw (le-ltb _ _ t.long-enough, le-ltb _ _ t.few)

  -- Each of the reasons is told.
  told : (x : Refusal) → WhyRefused sheet room x → refusal_written (writing_of sheet room) ≡ x
  unfolding writing_of tried_in start_state
  told x (NotASheet h e) = rw ((no-sheet-exactly sheet).1 h) (sym e)
  told x (ShortRoom i h e) = ap refusal_written (answered-tried i) ∙ rw (lt-ltb _ _ h) (sym e)
  told x (ManyRecords i h m e) = ap refusal_written (answered-tried i) ∙ rw (le-ltb _ _ h, lt-ltb _ _ m) (sym e)
  told x (FaultyRecord t f) =
      let q : entries_fault name start_state es ≡ Kept.Refused x.number (start_state.seen + (length f.before + 1)) x.position = ap (entries_fault name start_state) f.split ∙ told-first name start_state f.before f.here f.behind f.passes f.fails in
      let c : start_state.seen + (length f.before + 1) ≡ x.«record» = omega (arith, f.counted) in
      ap refusal_written (answered-faults t) ∙ rw q (ap (λ (k : ℕ). refusal x.number k x.position) c)
  told x (NoFit t h f e) = ap refusal_written (answered-faults t) ∙ rw (all_pass name start_state es h, f) (sym e)

  -- A sheet whose flow may be written is answered with its length.
  length-told : MayBeWritten sheet room → writing_of sheet room ≡ Written (length es * 120)
  length-told m = answered-faults m.tried ∙ rw (all_pass name start_state es m.passes, m.fits)

  -- A refusal leaves every byte of the room.
  pub refusal-leaves-room : {n r p : ℕ} → writing_of sheet room ≡ Refused n r p → room_after sheet room ≡ room
  unfolding room_after
  refusal-leaves-room e = rw e

  -- A flow is written exactly where none of the reasons holds, and its length is answered.
  pub written-exactly : (n : ℕ) → (writing_of sheet room ≡ Written n) ↔ (MayBeWritten sheet room × (n ≡ length (entries_in sheet) * 120))
  written-exactly n = (λ e. go way e, λ h. length-told h.0 ∙ ap Written (sym h.1))
    where
      go : {w : Writing} → Way sheet room w → w ≡ Written n → MayBeWritten sheet room × (n ≡ length es * 120)
      go (refused w z) e = let z : ◌≡◌ {A = ℕ} 0 1 = cc in absurd (omega arith)
      go (written m) e = (m, cc)

  -- A sheet is refused with a number, record and position exactly for the reason that has these.
  pub refused-exactly : (x : Refusal) → ((refusal_written (writing_of sheet room) ≡ x) × (x.number ≡ 0 → ⊥)) ↔ WhyRefused sheet room x
  refused-exactly x = (λ h. go way h.0 h.1, λ w. (told x w, above w))
    where
      go : {w : Writing} → Way sheet room w → refusal_written w ≡ x → (x.number ≡ 0 → ⊥) → WhyRefused sheet room x
      go (refused w z) e n = rw (← e) w
      go (written m) e n = absurd (n (sym (ap (λ (y : Refusal). y.number) e)))

      above : WhyRefused sheet room x → x.number ≡ 0 → ⊥
      above (NotASheet h q) z = omega (arith, ap (λ (y : Refusal). y.number) q)
      above (ShortRoom i h q) z = omega (arith, ap (λ (y : Refusal). y.number) q)
      above (ManyRecords i h m q) z = omega (arith, ap (λ (y : Refusal). y.number) q)
      above (FaultyRecord t f) z = fault-above name _ f.here f.fails z
      above (NoFit t h f q) z = omega (arith, ap (λ (y : Refusal). y.number) q)

  -- A refusal has a reason, and its number is not 0.
  pub refused_why : {n r p : ℕ} → writing_of sheet room ≡ Refused n r p → WhyRefused sheet room (refusal n r p) × (n ≡ 0 → ⊥)
  refused_why {n} {r} {p} e = go way e
    where
      go : {w : Writing} → Way sheet room w → w ≡ Refused n r p → WhyRefused sheet room (refusal n r p) × (n ≡ 0 → ⊥)
      go (refused w z) q = let i = refused-parts q in (rw (← i.0, ← i.1, ← i.2) w, λ m. z (i.0 ∙ m))
      go (written m) q = let z : ◌≡◌ {A = ℕ} 0 1 = cc in absurd (omega arith)

  -- A flow is written exactly where the sheet is refused for no reason.
  pub written-unless-refused : (refusal_written (writing_of sheet room) ≡ no_refusal) ↔ ((x : Refusal) → WhyRefused sheet room x → ⊥)
  written-unless-refused = (λ e x w. ((refused-exactly x).1 w).1 (ap (λ (y : Refusal). y.number) (sym (told x w) ∙ e)), λ h. go way h)
    where
      go : {w : Writing} → Way sheet room w → ((x : Refusal) → WhyRefused sheet room x → ⊥) → refusal_written w ≡ no_refusal
      go (refused {n} {r} {p} w z) h = absurd (h (refusal n r p) w)
      go (written m) h = refl
