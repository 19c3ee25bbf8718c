-- For theorems. When a sheet is refused, with which number, record and position, and when its flow is written.
use Rattle.std.specs.Prelude.{ℕ, ◌+◌, ◌*◌, ◌≤◌, ◌<◌, ◌≡◌, true, false, List, [], ◌∷◌, ◌++◌, length}
use Rattle.text.specs.Answers.{Allowed, BadAt}
use Rattle.text.specs.Characters.{first_bad}
use Rattle.refusal.specs.Outcomes.{Outcome, Pass, Fails}
use Rattle.amounts.specs.Outcomes.{first}
use Rattle.rules.specs.declared.State.{State}
use Rattle.rules.specs.State.{start_state}
use Rattle.rules.specs.Checks.{fault}
use Rattle.rules.specs.Step.{next}
use Rattle.refusal.specs.declared.Refusal.{Refusal}
use Rattle.refusal.specs.Refusals.{refusal}
use Rattle.judge.specs.Plain.{state_after}
use Rattle.layout.specs.Kinds.{kind_in}
use Rattle.rules.specs.Stored.{stored_of, wrong}
use Rattle.rebalance.specs.Rebalance.{emit, all_fit}
use Rattle.sheet.specs.Slots.{slot_fault}
use Rattle.sheet.specs.Sheet.{Entry, sheet_of}
use Rattle.sheet.specs.Filled.{filled, filled_all}
use Rattle.sheet.specs.Contents.{IsSheet}
use Rattle.write.specs.Writing.{name_in, entry_fault, entries_read}

-- The records to be written from a sheet.
abbrev pub entries_in : List ℕ → List Entry
entries_in sheet = entries_read (sheet_of sheet)

-- "01's first fault, in the records to be written, with every filled field taken as right and 4 for a record not of its slot's kind": what is said of one record, after a state. Behind 3 and that 4 it is what the judge says of the
-- record as it will be written, but for what it says of its stored fields, which are then wrong only where a value does not fit.
pub data EntrySays (name : List ℕ) (st : State) (e : Entry) : Outcome → Type 0 where
  BadCharacter : {i : ℕ} → first_bad (filled name e) ≡ BadAt i → EntrySays name st e (Fails 3 (i + 1))
  OutOfSlot : {n p : ℕ} → first_bad (filled name e) ≡ Allowed → slot_fault e.slot (filled name e) ≡ Fails n p → EntrySays name st e (Fails n p)
  AsWritten : {o : Outcome} → first_bad (filled name e) ≡ Allowed → slot_fault e.slot (filled name e) ≡ Pass →
      fault name st (emit st (filled name e)) ≡ first o (wrong (stored_of st (kind_in (filled name e))) (emit st (filled name e))) → EntrySays name st e o

-- No record of a list has a fault, in its slot and with what is filled.
abbrev pub NoEntryFault : List ℕ → State → List Entry → Type 0
NoEntryFault name st [] = Unit {0}
NoEntryFault name st (e ∷ es) = (entry_fault name st e ≡ Pass) × NoEntryFault name (next st (filled name e)) es

-- The first record with a fault, number n at position p, is the k-th of a list.
pub record FirstEntryFault (name : List ℕ) (st : State) (es : List Entry) (n k p : ℕ) : Type 0 where
  pub before : List Entry
  pub here : Entry
  pub behind : List Entry
  pub split : es ≡ before ++ (here ∷ behind)
  pub counted : k ≡ length before + 1
  pub passes : NoEntryFault name st before
  pub fails : entry_fault name (state_after st (filled_all name before)) here ≡ Fails n p

-- The numbers that a record to be written can be refused with.
abbrev pub record_numbers : List ℕ
record_numbers = 3 ∷ 4 ∷ 6 ∷ 7 ∷ 9 ∷ 14 ∷ 16 ∷ 17 ∷ 26 ∷ []

-- The numbers that a sheet can be refused with.
abbrev pub sheet_numbers : List ℕ
sheet_numbers = 24 ∷ 25 ∷ 1 ∷ 23 ∷ record_numbers

-- The records are tried one by one where the bytes are a sheet, the room is long enough and the records are at most 546.
pub record Tried (sheet room : List ℕ) : Type 0 where
  pub a-sheet : IsSheet sheet
  pub long-enough : length (entries_in sheet) * 120 ≤ length room
  pub few : length (entries_in sheet) ≤ 546

-- Why a sheet is refused with this number, record and position, in the order in which it is tried.
pub data WhyRefused (sheet room : List ℕ) (x : Refusal) : Type 0 where
  NotASheet : (IsSheet sheet → ⊥) → x ≡ refusal 24 0 0 → WhyRefused sheet room x
  ShortRoom : IsSheet sheet → length room < length (entries_in sheet) * 120 → x ≡ refusal 25 0 0 → WhyRefused sheet room x
  ManyRecords : IsSheet sheet → length (entries_in sheet) * 120 ≤ length room → 546 < length (entries_in sheet) → x ≡ refusal 1 0 0 → WhyRefused sheet room x
  FaultyRecord : Tried sheet room → FirstEntryFault (name_in sheet) start_state (entries_in sheet) x.number x.«record» x.position → WhyRefused sheet room x
  NoFit : Tried sheet room → NoEntryFault (name_in sheet) start_state (entries_in sheet) → all_fit start_state (filled_all (name_in sheet) (entries_in sheet)) ≡ false → x ≡ refusal 23 0 0 → WhyRefused sheet room x

-- A flow is written where none of these holds.
pub record MayBeWritten (sheet room : List ℕ) : Type 0 where
  pub tried : Tried sheet room
  pub passes : NoEntryFault (name_in sheet) start_state (entries_in sheet)
  pub fits : all_fit start_state (filled_all (name_in sheet) (entries_in sheet)) ≡ true
