-- Believed. What the linkable library returns, and what it leaves in the memory that it is lent.
use Rattle.std.specs.Prelude.{ℕ, cond, List, [], ◌∷◌, eqb, ltb, length, Err}
use Rattle.state.specs.Numbers.{overlay}
use Rattle.refusal.specs.declared.Refusal.{Refusal}
use Rattle.judge.specs.Refusal.{refusal_of}
use Rattle.judge.specs.Flow.{judged}
use Rattle.portion.specs.declared.Portion.{Portion}
use Rattle.portion.specs.Portion.{portioned}
use Rattle.handed.specs.Room.{progress_of}
use Rattle.delega.specs.OneDelega.{delega_of}
use Rattle.answers.specs.Numbers.{summary_numbers, delega_numbers, refusal_numbers, course_code, portion_numbers, handed_back}
use Rattle.find.specs.Answers.{Found}
use Rattle.find.specs.Answers as Line
use Rattle.find.specs.Line.{refusal_found, found_in}
use Rattle.correct.specs.Correction.{refusal_made, correction_of, corrected_bytes}
use Rattle.write.specs.Answers.{Writing}
use Rattle.write.specs.Answers as Flow
use Rattle.write.specs.Writing.{refusal_written, writing_of, room_after}
use Rattle.mend.specs.Answers.{Mending}
use Rattle.mend.specs.Answers as Listing
use Rattle.mend.specs.Mending.{refusal_mended, mending_of, mended_flow, mended_list}
use Rattle.dropping.specs.Answers.{Dropping}
use Rattle.dropping.specs.Answers as Shorter
use Rattle.dropping.specs.Dropping.{refusal_dropped, dropping_of, dropped_flow}

-- A room of fewer than n numbers returns 100, and any other a code.
unfoldable pub code_or : ℕ → List ℕ → ℕ → ℕ
code_or n room code = cond (ltb (length room) n) 100 code

-- Such a room stays as it came, and any other is written to.
unfoldable pub room_or : ℕ → List ℕ → List ℕ → List ℕ
room_or n room xs = cond (ltb (length room) n) room (overlay xs room)

-- A refusal has a number and writes its record and its position; an answer that is none has the number 0 and writes its own numbers.
unfoldable pub answer_numbers : Refusal → List ℕ → List ℕ
answer_numbers x xs = cond (eqb x.number 0) xs (refusal_numbers x.«record» x.position)

-- A line that is found writes the number of its record.
abbrev pub found_numbers : Found → List ℕ
found_numbers (Line.At k) = k ∷ []
found_numbers (Err why) = []

-- `f24_judge` returns 100 for a room of fewer than 14 numbers, and else what the judgement of the flow says.
unfoldable pub judge_code : List ℕ → List ℕ → ℕ
judge_code f room = code_or 14 room (refusal_of (judged f).verdict).number

-- It leaves such a room as it came, and else writes the summary or the refusal.
unfoldable pub judge_room : List ℕ → List ℕ → List ℕ
judge_room f room = room_or 14 room (answer_numbers (refusal_of (judged f).verdict) (summary_numbers (judged f).summary))

-- `f24_delega` returns 100 for a room of fewer than 14 numbers, and else what the answer for delega d says.
unfoldable pub delega_code : List ℕ → ℕ → List ℕ → ℕ
delega_code f d room = code_or 14 room (refusal_of (delega_of f d).verdict).number

-- It leaves such a room as it came, and else writes the delega or the refusal.
unfoldable pub delega_room : List ℕ → ℕ → List ℕ → List ℕ
delega_room f d room = room_or 14 room (answer_numbers (refusal_of (delega_of f d).verdict) (delega_numbers (delega_of f d)))

-- `f24_find` returns 100 for a room of fewer than 2 numbers, and else what the search for the n-th line of a subtype in delega d says.
unfoldable pub find_code : List ℕ → ℕ → ℕ → ℕ → List ℕ → ℕ
find_code f d subtype n room = code_or 2 room (refusal_found (found_in f d subtype n)).number

-- It leaves such a room as it came, and else writes the number of the record or the refusal.
unfoldable pub find_room : List ℕ → ℕ → ℕ → ℕ → List ℕ → List ℕ
find_room f d subtype n room = room_or 2 room (answer_numbers (refusal_found (found_in f d subtype n)) (found_numbers (found_in f d subtype n)))

-- `f24_correct` returns 100 for a room of fewer than 2 numbers, and else what the correction of that line says.
unfoldable pub correct_code : List ℕ → ℕ → ℕ → ℕ → ℕ → ℕ → List ℕ → ℕ
correct_code f d subtype n debit credit room = code_or 2 room (refusal_made (correction_of f d subtype n debit credit)).number

-- It leaves such a room as it came, and else writes nothing or the refusal.
unfoldable pub correct_room : List ℕ → ℕ → ℕ → ℕ → ℕ → ℕ → List ℕ → List ℕ
correct_room f d subtype n debit credit room = room_or 2 room (answer_numbers (refusal_made (correction_of f d subtype n debit credit)) [])

-- It leaves the flow as it came where the room is too short, and else corrects it.
unfoldable pub correct_flow : List ℕ → ℕ → ℕ → ℕ → ℕ → ℕ → List ℕ → List ℕ
correct_flow f d subtype n debit credit room = cond (ltb (length room) 2) f (corrected_bytes f d subtype n debit credit)

-- A flow that is written writes its length.
abbrev pub written_numbers : Writing → List ℕ
written_numbers (Flow.Written n) = n ∷ []
written_numbers (Err why) = []

-- `f24_write` returns 100 for an answer of fewer than 2 numbers, and else what the writing of the sheet's flow into the room says.
unfoldable pub write_code : List ℕ → List ℕ → List ℕ → ℕ
write_code sheet room answer = code_or 2 answer (refusal_written (writing_of sheet room)).number

-- It leaves such an answer as it came, and else writes the flow's length or the refusal.
unfoldable pub write_answer : List ℕ → List ℕ → List ℕ → List ℕ
write_answer sheet room answer = room_or 2 answer (answer_numbers (refusal_written (writing_of sheet room)) (written_numbers (writing_of sheet room)))

-- It leaves the room as it came where the answer is too short, and else writes the flow into it.
unfoldable pub write_room : List ℕ → List ℕ → List ℕ → List ℕ
write_room sheet room answer = cond (ltb (length answer) 2) room (room_after sheet room)

-- A flow that is rebalanced writes the number of fields that are listed.
abbrev pub mended_numbers : Mending → List ℕ
mended_numbers (Listing.Mended n) = n ∷ []
mended_numbers (Err why) = []

-- `f24_rebalance` returns 100 for an answer of fewer than 2 numbers, and else what the rebalancing of the flow with that list says.
unfoldable pub rebalance_code : List ℕ → List ℕ → List ℕ → ℕ
rebalance_code f list answer = code_or 2 answer (refusal_mended (mending_of f list)).number

-- It leaves such an answer as it came, and else writes the number of fields or the refusal.
unfoldable pub rebalance_answer : List ℕ → List ℕ → List ℕ → List ℕ
rebalance_answer f list answer = room_or 2 answer (answer_numbers (refusal_mended (mending_of f list)) (mended_numbers (mending_of f list)))

-- It leaves the flow as it came where the answer is too short, and else rebalances it.
unfoldable pub rebalance_flow : List ℕ → List ℕ → List ℕ → List ℕ
rebalance_flow f list answer = cond (ltb (length answer) 2) f (mended_flow f list)

-- It leaves the list as it came where the answer is too short, and else lists the fields that changed.
unfoldable pub rebalance_list : List ℕ → List ℕ → List ℕ → List ℕ
rebalance_list f list answer = cond (ltb (length answer) 2) list (mended_list f list)

-- A flow from which deleghe are dropped writes its new length.
abbrev pub dropped_numbers : Dropping → List ℕ
dropped_numbers (Shorter.Dropped n) = n ∷ []
dropped_numbers (Err why) = []

-- `f24_drop` returns 100 for an answer of fewer than 2 numbers, and else what the dropping of the deleghe with these numbers says.
unfoldable pub drop_code : List ℕ → List ℕ → List ℕ → ℕ
drop_code f numbers answer = code_or 2 answer (refusal_dropped (dropping_of f numbers)).number

-- It leaves such an answer as it came, and else writes the new length or the refusal.
unfoldable pub drop_answer : List ℕ → List ℕ → List ℕ → List ℕ
drop_answer f numbers answer = room_or 2 answer (answer_numbers (refusal_dropped (dropping_of f numbers)) (dropped_numbers (dropping_of f numbers)))

-- It leaves the flow as it came where the answer is too short, and else drops the deleghe from it.
unfoldable pub drop_flow : List ℕ → List ℕ → List ℕ → List ℕ
drop_flow f numbers answer = cond (ltb (length answer) 2) f (dropped_flow f numbers)

-- What a portion of at most p records answers, from the state in a room.
abbrev pub portion_of : List ℕ → ℕ → List ℕ → Portion
portion_of f p state = portioned f p (progress_of state)

-- `f24_judge_portion` returns 100 for a state of fewer than 53 numbers or an answer of fewer than 15, and else what the portion says.
unfoldable pub portion_code : List ℕ → ℕ → List ℕ → List ℕ → ℕ
portion_code f p state answer = code_or 53 state (code_or 15 answer (course_code (portion_of f p state).answer))

-- It leaves the state as it came where either is too short, and else hands it back.
unfoldable pub portion_state : List ℕ → ℕ → List ℕ → List ℕ → List ℕ
portion_state f p state answer = cond (ltb (length state) 53) state (cond (ltb (length answer) 15) state (handed_back (portion_of f p state) state))

-- It leaves the answer as it came where either is too short, and else writes the portion's numbers.
unfoldable pub portion_room : List ℕ → ℕ → List ℕ → List ℕ → List ℕ
portion_room f p state answer = cond (ltb (length state) 53) answer (room_or 15 answer (portion_numbers (portion_of f p state)))
