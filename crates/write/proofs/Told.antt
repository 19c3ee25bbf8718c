-- What the walk over a sheet tells: that it is none, how many records are to be written, and the flow that they make.
use Rattle.std.specs.Prelude.{Err, Option}
use Prim.Native.Nat.{ℕ, ◌+◌, ◌*◌, ◌/◌, ◌≤◌, ◌<◌}
use mathlib.Core.Path.{◌≡◌, refl, sym, ap, subst, ◌∙◌}
use mathlib.Core.List.{List}
use native.Mathlib.Omega.{arith}
use borrow.Author.Tests.{lt-ltb, le-ltb, eq-eqb}
use lib.ListN.{length, take}
use Rattle.rules.specs.State.{start_state}
use Rattle.order.specs.Stages.{after_tail}
use Rattle.judge.specs.Flow.{records_of, head_name_of}
use Rattle.judge.specs.Plain.{Whole, state_after}
use Rattle.rebalance.specs.Rebalance.{rebalanced, flat}
use Rattle.rebalance.proofs.Flat.{length-flat, records-flat}
use Rattle.lenient.specs.Answers.{Lenient}
use Rattle.lenient.specs.Answers as Kept
use Rattle.lenient.specs.declared.Misfit.{Misfit}
use Rattle.lenient.specs.Lenient.{ended, lenient_from}
use Rattle.sheet.specs.declared.Spot.{Spot}
use Rattle.sheet.specs.Answers.{Walked}
use Rattle.sheet.specs.Answers as Way
use Rattle.sheet.specs.Sheet.{Entry, entry, Reading, NoSheet, Read, sheet_of}
use Rattle.sheet.specs.Filled.{filled_all}
use Rattle.sheet.specs.Walk.{misfit_from, start_spot, Reaches, Follows}
use Rattle.layout.specs.declared.Kind.TheVariants.{Tail}
use Rattle.sheet.specs.Contents.{IsSheet, All, Entered}
use Rattle.sheet.proofs.SaidBySheet.{sheet-said}
use Rattle.sheet.proofs.EntriesRead.{Entries}
use Rattle.write.specs.Answers.{Writing, Refused}
use Rattle.write.specs.Writing.{name_in, entries_fault, tried_in, answer_to, writing_of, entries_read, flow_of, room_with, room_after}
use Rattle.write.specs.Settling.{settled_of}
use Rattle.write.specs.WhenRefused.{entries_in, NoEntryFault}
use Rattle.write.proofs.FirstEntry.{each-passes}
use Rattle.write.proofs.Mended.{ends-after-tail}
use Rattle.write.proofs.WrittenFlow.{length-filled-all, entries-in, sized-records-in, name-filled}
use Rattle.write.proofs.Leniently.{behind_faults, leniently}

module _ (sheet room : List ℕ) where
  -- An answer and the room that it leaves are those of the sheet.
  abbrev pub Answers : Writing → List ℕ → Type 0
  Answers w l = (w ≡ writing_of sheet room) × (l ≡ room_after sheet room)

  -- A refusal leaves the room.
  refuses : (n r p : ℕ) → Refused n r p ≡ writing_of sheet room → Answers (Refused n r p) room
  unfolding room_after
  refuses n r p e = (e, ap (λ (w : Writing). room_with w (flow_of sheet) room) e)

module _ (sheet room f g : List ℕ) (w : Walked) (x : Follows sheet (name_in sheet) start_spot f (sheet_of sheet) w g) where
  -- The bytes are no sheet.
  pub told_none : w ≡ Way.NoSheet → Answers sheet room (Refused 24 0 0) room
  unfolding writing_of
  told_none e = refuses sheet room 24 0 0 (sym (ap (answer_to (length room) (name_in sheet)) (go (sheet_of sheet) (subst (λ (v : Walked). Follows sheet (name_in sheet) start_spot f (sheet_of sheet) v g) e x))))
    where
      go : (R : Reading) → Follows sheet (name_in sheet) start_spot f R Way.NoSheet g → R ≡ NoSheet
      go NoSheet y = refl
      go (Read es r) y = absurd y

-- They are one, of these records.
pub record Told (sheet f g : List ℕ) (b : Spot) : Type 0 where
  pub rest : List ℕ
  pub read : sheet_of sheet ≡ Read (entries_in sheet) rest
  pub reaches : Reaches sheet (name_in sheet) start_spot f (entries_in sheet) rest b g

pub told : (sheet f g : List ℕ) (w : Walked) (b : Spot) → Follows sheet (name_in sheet) start_spot f (sheet_of sheet) w g → w ≡ Way.To b → Told sheet f g b
told sheet f g w b x e = go (sheet_of sheet) refl (subst (λ (v : Walked). Follows sheet (name_in sheet) start_spot f (sheet_of sheet) v g) e x)
  where
    go : (R : Reading) → sheet_of sheet ≡ R → Follows sheet (name_in sheet) start_spot f R (Way.To b) g → Told sheet f g b
    go NoSheet i y = absurd y
    go (Read es r) i y =
        let j : entries_in sheet ≡ es = ap entries_read i in
        record { rest = r; read = rw j i; reaches = subst (λ (l : List Entry). Reaches sheet (name_in sheet) start_spot f l r b g) (sym j) y }

-- Records without a fault end with EF.
last-tail : (sheet name : List ℕ) (l : List Entry) → Entries sheet l → NoEntryFault name start_state l → (state_after start_state (filled_all name l)).stage.phase ≡ after_tail
last-tail sheet name l n h =
    subst (λ (k : List Entry). NoEntryFault name start_state k → All Entered k → (state_after start_state (filled_all name k)).stage.phase ≡ after_tail) (sym n.tail-last) (λ i j. ends-after-tail name start_state n.front (entry Tail 0 n.last) refl j i) h n.each

module _ (sheet room f g : List ℕ) (b : Spot) (t : Told sheet f g b) where
  abbrev name : List ℕ
  name = name_in sheet

  abbrev es : List Entry
  es = entries_in sheet

  abbrev rs : List (List ℕ)
  rs = filled_all name es

  a-sheet : IsSheet sheet
  a-sheet = (sheet-said sheet es t.rest t.read).0

  -- The records are counted.
  counted : b.count ≡ length es
  counted = let e : b.count ≡ 0 + length es = t.reaches.counts in omega arith

  tried : writing_of sheet room ≡ tried_in (length room) name es
  unfolding writing_of
  tried = ap (answer_to (length room) name) t.read

  -- The room is too short for them.
  pub told-short : length room / 120 < b.count → Answers sheet room (Refused 25 0 0) room
  unfolding tried_in
  told-short h = refuses sheet room 25 0 0 (sym (tried ∙ rw (lt-ltb (length room) (length es * 120) (let e = counted in omega arith))))

  -- It is not.
  module _ (enough : b.count ≤ length room / 120) where
    fits : length es * 120 ≤ length room
    fits = let e = counted in omega arith

    -- They are too many.
    pub told-many : 546 < b.count → Answers sheet room (Refused 1 0 0) room
    unfolding tried_in
    told-many h = refuses sheet room 1 0 0 (sym (tried ∙ rw (le-ltb (length room) (length es * 120) fits, lt-ltb 546 (length es) (let e = counted in omega arith))))

    -- They are not.
    module _ (few : b.count ≤ 546) where
      abbrev flow : List ℕ
      flow = take (b.count * 120) g

      -- The flow that was put together is made of them.
      put-together : flow ≡ flat rs
      put-together = t.reaches.written few

      records : records_of flow ≡ rs
      records = ap records_of put-together ∙ records-flat rs (sized-records-in sheet a-sheet)

      pub told-length : length flow ≡ length es * 120
      told-length = ap length put-together ∙ (length-flat rs (sized-records-in sheet a-sheet) ∙ ap (λ (n : ℕ). n * 120) (length-filled-all name es))

      -- There is at least the head.
      some : 0 < length es
      some = let h = (entries-in sheet a-sheet).head_first in rw h (omega arith)

      pub told-whole : Whole flow × (length flow ≤ length room)
      told-whole =
          let n : length flow ≡ length es * 120 = told-length in
          let m : b.count ≡ length es = counted in
          let s : 0 < length es = some in
          let l : length es * 120 ≤ length room = fits in
          (record { short = omega arith; some = omega arith; even = omega arith }, omega arith)

      -- Where no record has a fault, the last of them is EF,
      ends : behind_faults (entries_fault name start_state es) (ended (state_after start_state rs)) ≡ entries_fault name start_state es
      unfolding ended
      ends = go (entries_fault name start_state es) refl
        where
          go : (v : Lenient) → entries_fault name start_state es ≡ v → behind_faults v (ended (state_after start_state rs)) ≡ v
          go Kept.Passed p = rw (eq-eqb _ _ (last-tail sheet name es (entries-in sheet a-sheet) (each-passes name start_state es p)))
          go (Err why) p = refl

      -- so that the lenient judgement gives their first fault.
      judged-leniently : (m : Option Misfit) → m ≡ misfit_from name 0 es start_spot.misfit → lenient_from name m start_state rs ≡ entries_fault name start_state es
      unfolding start_state
      judged-leniently m e = ap (λ (k : Option Misfit). lenient_from name k start_state rs) e ∙ (leniently name start_state es ∙ ends)

      -- What becomes of the flow that was put together is the answer,
      pub told-settled : settled_of flow b.misfit ≡ writing_of sheet room
      unfolding settled_of tried_in
      told-settled =
          rw (ap head_name_of put-together ∙ name-filled sheet a-sheet, records, told-length, judged-leniently b.misfit t.reaches.misfits)
          (sym (tried ∙ rw (le-ltb (length room) (length es * 120) fits, le-ltb 546 (length es) (let e = counted in omega arith))))

      -- and rebalanced it is the flow to be written.
      told-flow : flat (rebalanced start_state (records_of flow)) ≡ flow_of sheet
      unfolding flow_of
      told-flow = ap (λ (l : List (List ℕ)). flat (rebalanced start_state l)) records

      pub told-answers : (v : Writing) (l : List ℕ) → v ≡ settled_of flow b.misfit → l ≡ room_with v (flat (rebalanced start_state (records_of flow))) room → Answers sheet room v l
      unfolding room_after
      told-answers v l p q = (p ∙ told-settled, q ∙ rw (told-flow, p, told-settled))
