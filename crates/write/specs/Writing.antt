-- Believed. The flow written from a working sheet: the records with what is filled, rebalanced; the refusals in their order; the bytes of the room afterwards.
use Rattle.std.specs.Prelude.{ℕ, ◌*◌, cond, List, [], ◌∷◌, ◌++◌, ltb, length, drop, Err}
use Rattle.text.specs.Characters.{first_bad}
use Rattle.layout.specs.Fields.{bytes_of, support_name}
use Rattle.refusal.specs.Outcomes.{Outcome}
use Rattle.amounts.specs.Outcomes.{first}
use Rattle.rules.specs.declared.State.{State}
use Rattle.rules.specs.State.{start_state}
use Rattle.rules.specs.Checks.{char_fault}
use Rattle.rules.specs.Step.{next}
use Rattle.refusal.specs.declared.Refusal.{Refusal}
use Rattle.refusal.specs.Refusals.{no_refusal}
use Rattle.rebalance.specs.Rebalance.{rebalanced, all_fit, flat, kept_fault}
use Rattle.lenient.specs.Answers.{Lenient}
use Rattle.lenient.specs.Answers as Kept
use Rattle.lenient.specs.Lenient.{or_refused}
use Rattle.sheet.specs.Slots.{slot_fault}
use Rattle.sheet.specs.Sheet.{Entry, Reading, NoSheet, Read, sheet_of}
use Rattle.sheet.specs.Filled.{filled, filled_all}
use Rattle.write.specs.Answers.{Writing, Written, Refused}

-- the refusal of an answer; a flow that is written has none
abbrev pub refusal_written : Writing → Refusal
refusal_written (Written n) = no_refusal
refusal_written (Err why) = why

-- the name in the head, with which a sheet begins
abbrev pub name_in : List ℕ → List ℕ
name_in sheet = bytes_of sheet support_name

-- "01's first fault, in the records to be written, with every filled field taken as right and 4 for a record not of its slot's kind": of one record, 3, that 4, and
-- then what rebalancing leaves to be judged, of which the first is 3 again and has passed
unfoldable pub entry_fault : List ℕ → State → Entry → Outcome
entry_fault name st e =
    first (char_fault (first_bad (filled name e))) (first (slot_fault e.slot (filled name e)) (kept_fault name st (filled name e)))

-- of all records, in their order
unfoldable pub entries_fault : List ℕ → State → List Entry → Lenient
entries_fault name st [] = Kept.Passed
entries_fault name st (e ∷ es) = or_refused (entry_fault name st e) st.seen (entries_fault name (next st (filled name e)) es)

-- a fault of a record, else what comes behind the records
abbrev pub after_faults : Lenient → Writing → Writing
after_faults Kept.Passed w = w
after_faults (Err why) w = Refused why.number why.«record» why.position

-- "25 when the lent room is too short for the flow"; 1, more than 546 records; "then 01's first fault ..; then 23"; else "its length is answered"
unfoldable pub tried_in : ℕ → List ℕ → List Entry → Writing
tried_in room name es =
    cond (ltb room (length es * 120)) (Refused 25 0 0)
    (cond (ltb 546 (length es)) (Refused 1 0 0)
    (after_faults (entries_fault name start_state es) (cond (all_fit start_state (filled_all name es)) (Written (length es * 120)) (Refused 23 0 0))))

-- "24 when the sheet ends early, has bytes left or a count that isn't digits"; then the rest
abbrev pub answer_to : ℕ → List ℕ → Reading → Writing
answer_to room name NoSheet = Refused 24 0 0
answer_to room name (Read es rest) = tried_in room name es

-- the answer to a sheet and a room
unfoldable pub writing_of : List ℕ → List ℕ → Writing
writing_of sheet room = answer_to (length room) (name_in sheet) (sheet_of sheet)

-- the records of a sheet that are to be written; none where the bytes are no sheet
abbrev pub entries_read : Reading → List Entry
entries_read NoSheet = []
entries_read (Read es rest) = es

-- the flow to be written: every total, sign, balance, final balance and tail value is worked out from the lines
unfoldable pub flow_of : List ℕ → List ℕ
flow_of sheet = flat (rebalanced start_state (filled_all (name_in sheet) (entries_read (sheet_of sheet))))

-- the room afterwards: the flow, and behind it what was there. "Every refusal leaves lent memory as it came"
abbrev pub room_with : Writing → List ℕ → List ℕ → List ℕ
room_with (Written n) flow room = flow ++ drop n room
room_with (Err why) flow room = room

-- the room after the writing of a sheet's flow
unfoldable pub room_after : List ℕ → List ℕ → List ℕ
room_after sheet room = room_with (writing_of sheet room) (flow_of sheet) room
