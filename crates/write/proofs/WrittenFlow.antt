-- The flow written from a sheet is accepted; its length is answered, and it stands at the front of the room, the rest of which stays.
use Prim.Native.Nat.{ℕ, suc, ◌*◌, ◌≤◌}
use mathlib.Core.Path.{◌≡◌, refl, sym, ap, ◌∙◌}
use mathlib.Core.List.{List, [], ◌++◌}
use native.Mathlib.Omega.{arith}
use lib.ListN.{length, take, drop, length-append, length-map, length-drop, take-append-drop}
use lib.Seq.{take_at, drop_at, length-take-le}
use Rattle.text.proofs.Bytes.{part_length}
use Rattle.layout.specs.declared.Kind.TheVariants.{Head, Tail}
use Rattle.layout.specs.Kinds.{numbered}
use Rattle.rules.specs.State.{start_state}
use Rattle.judge.specs.Refusal.{Accepted}
use Rattle.judge.specs.declared.Judgement.{Judgement}
use Rattle.judge.specs.Flow.{accepted_with, records_of, head_name_of, judged}
use Rattle.judge.specs.Plain.{Whole, state_after}
use Rattle.rebalance.specs.Rebalance.{put_all, rebalanced, flat, Sized, Mendable}
use Rattle.rebalance.proofs.Rebalanced.{length-rebalanced, sized-rebalanced}
use Rattle.rebalance.proofs.Flat.{length-flat, records-flat, name-in-front}
use Rattle.rebalance.proofs.Judged.{judged-rebalanced}
use Rattle.sheet.specs.Sheet.{Entry, entry, Read, sheet_of}
use Rattle.rebalance.specs.Numbering.{with_number}
use Rattle.sheet.specs.Filled.{with_name, filled, filled_all}
use Rattle.sheet.specs.Contents.{entries_of, IsSheet}
use Rattle.sheet.proofs.FilledRecords.{sized-filled}
use Rattle.sheet.proofs.ReadsContents.{contents-read}
use Rattle.sheet.proofs.EntriesRead.{Entries, entries-read}
use Rattle.sheet.proofs.SheetLength.{short-sheet}
use Rattle.write.specs.Answers.{Writing, Written}
use Rattle.write.specs.Writing.{name_in, writing_of, entries_read, flow_of, room_after}
use Rattle.write.specs.WhenRefused.{entries_in, Tried, MayBeWritten}
use Rattle.write.proofs.Refusals.{written-exactly}
use Rattle.write.proofs.Mended.{ends-after-tail, mendable-filled}

-- What is filled leaves the number of records.
pub length-filled-all : (name : List ℕ) (es : List Entry) → length (filled_all name es) ≡ length es
unfolding filled_all
length-filled-all name es = length-map es (filled name)

-- In the head nothing is filled.
head-filled : (name r : List ℕ) → filled name (entry Head 0 r) ≡ r
unfolding filled with_name with_number numbered put_all
head-filled name r = refl

-- A sheet.
module _ (sheet : List ℕ) (i : IsSheet sheet) where
  abbrev name : List ℕ
  name = name_in sheet

  -- It is read.
  read : sheet_of sheet ≡ Read (entries_of i.contents) []
  read = ap sheet_of i.text ∙ contents-read i.contents i.keyed

  -- The records to be written are those of its contents.
  pub entries-said : entries_in sheet ≡ entries_of i.contents
  entries-said = ap entries_read read

  -- What is said of them.
  pub entries-in : Entries sheet (entries_in sheet)
  entries-in = as_read (entries_in sheet) entries-said (entries-read sheet (entries_of i.contents) [] read)
    where
      as_read : (es : List Entry) → es ≡ entries_of i.contents → Entries sheet (entries_of i.contents) → Entries sheet es
      as_read es p h = rw p h

  -- The name in its head has 20 characters.
  pub name-length : length (name_in sheet) ≡ 20
  name-length = part_length 20 19 sheet (omega (arith, entries-in.long))

  -- The records with what is filled have 120 bytes each.
  pub sized-records-in : Sized (filled_all (name_in sheet) (entries_in sheet))
  sized-records-in = sized-filled name name-length (entries_in sheet) entries-in.each

  -- They begin with the name in the sheet's head.
  pub name-filled : head_name_of (flat (filled_all (name_in sheet) (entries_in sheet))) ≡ name_in sheet
  unfolding filled_all flat
  name-filled =
      let h = take 120 sheet in
      let l : length h ≡ 120 = length-take-le 120 sheet entries-in.long in
      let e = ap (λ (es : List Entry). head_name_of (flat (filled_all name es))) entries-in.head_first in
      e ∙ (ap (λ (r : List ℕ). head_name_of (r ++ flat (filled_all name entries-in.behind))) (head-filled name h)
      ∙ (name-in-front h _ l ∙ (sym (name-in-front h (drop 120 sheet) l) ∙ ap head_name_of (take-append-drop 120 sheet))))

  -- The records of the flow to be written are these, rebalanced.
  pub records-written : records_of (flow_of sheet) ≡ rebalanced start_state (filled_all (name_in sheet) (entries_in sheet))
  unfolding flow_of
  records-written = records-flat _ (sized-rebalanced start_state _ sized-records-in)

  -- It has 120 bytes for each record.
  pub length-written : length (flow_of sheet) ≡ length (entries_in sheet) * 120
  unfolding flow_of
  length-written =
      length-flat _ (sized-rebalanced start_state _ sized-records-in)
      ∙ ap (λ (n : ℕ). n * 120) (length-rebalanced start_state (filled_all name (entries_in sheet)) ∙ length-filled-all name (entries_in sheet))

-- A sheet whose records are tried has at most 67,213 bytes.
pub tried-short : (sheet room : List ℕ) → Tried sheet room → length sheet ≤ 67213
tried-short sheet room t = short-sheet sheet t.a-sheet (let e = ap length (entries-said sheet t.a-sheet) in omega (arith, e, t.few))

-- A sheet whose flow may be written.
module _ (sheet room : List ℕ) (m : MayBeWritten sheet room) where
  abbrev es : List Entry
  es = entries_in sheet

  abbrev rs : List (List ℕ)
  rs = filled_all (name_in sheet) es

  abbrev a : IsSheet sheet
  a = m.tried.a-sheet

  -- Its records are mended by rebalancing.
  mended : Mendable (name_in sheet) start_state rs
  mended =
      let i = entries-in sheet a in
      let last = entry Tail 0 i.last in
      mendable-filled (name_in sheet) (name-length sheet a) start_state es i.each m.passes m.fits
      (rw i.tail-last (ends-after-tail (name_in sheet) start_state i.front last refl (rw i.tail-last at i.each) (rw i.tail-last at m.passes)))

  -- They are 1 to 546.
  whole : Whole (flat rs)
  whole =
      let i = entries-in sheet a in
      let n : length (flat rs) ≡ length es * 120 = length-flat rs (sized-records-in sheet a) ∙ ap (λ (n : ℕ). n * 120) (length-filled-all (name_in sheet) es) in
      let k : length es ≤ 546 = m.tried.few in
      let f : length es ≡ suc (length i.behind) = ap length i.head_first in
      record { short = omega arith; some = omega arith; even = omega arith }

  -- The flow is accepted, with the counts and sums of its records.
  pub flow-judged : judged (flow_of sheet) ≡ accepted_with (state_after start_state (filled_all (name_in sheet) (entries_in sheet)))
  unfolding flow_of
  flow-judged =
      let r = records-flat rs (sized-records-in sheet a) in
      rw r at (judged-rebalanced (flat rs) whole (rw (name-filled sheet a, r) mended))

-- A flow that is written.
module _ (sheet room : List ℕ) (n : ℕ) (e : writing_of sheet room ≡ Written n) where
  may : MayBeWritten sheet room
  may = ((written-exactly sheet room n).0 e).0

  -- "its length is answered": 120 bytes for each record to be written
  pub written-length : (n ≡ length (flow_of sheet)) × (n ≡ length (entries_in sheet) * 120) × (n ≤ length room)
  written-length =
      let w = ((written-exactly sheet room n).0 e).1 in
      (w ∙ sym (length-written sheet may.tried.a-sheet), w, omega (arith, may.tried.long-enough))

  -- It stands at the front of the room, and "past the length answered it stays".
  pub written-room : (take n (room_after sheet room) ≡ flow_of sheet) × (drop n (room_after sheet room) ≡ drop n room) × (length (room_after sheet room) ≡ length room)
  unfolding room_after
  written-room =
      let l = sym written-length.0 in
      rw e (take_at (flow_of sheet) (drop n room) n l, drop_at (flow_of sheet) (drop n room) n l, rw (length-append, length-drop) (omega (arith, written-length.2)))

  -- It is accepted.
  pub written-accepted : (judged (flow_of sheet)).verdict ≡ Accepted
  written-accepted = ap (λ (j : Judgement). j.verdict) (flow-judged sheet room may)

-- The length answered lies within the room that is left.
pub written-within : (sheet room left : List ℕ) (n : ℕ) (w : Writing) → w ≡ writing_of sheet room → left ≡ room_after sheet room → w ≡ Written n → n ≤ length left
written-within sheet room left n w p q e =
    let i : writing_of sheet room ≡ Written n = sym p ∙ e in
    rw (q, (written-room sheet room n i).2) (written-length sheet room n i).2
