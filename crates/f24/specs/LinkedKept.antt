-- Believed. What the calls of the linkable library that take a record return, and what they leave in the memory that they are lent.
use Rattle.std.specs.Prelude.{ℕ, Bool, true, cond, List, [], eqb, ltb, length}
use Rattle.state.specs.Numbers.{overlay, sums_numbers, sums_at}
use Rattle.refusal.specs.declared.Refusal.{Refusal}
use Rattle.judge.specs.Refusal.{refusal_of}
use Rattle.correct.specs.Correction.{refusal_made}
use Rattle.mend.specs.Mending.{refusal_mended}
use Rattle.dropping.specs.Dropping.{refusal_dropped}
use Rattle.sums.specs.declared.KeptSums.{KeptSums}
use Rattle.kept.specs.Answers.{CorrectionKept, MendingKept, DroppingKept}
use Rattle.kept.specs.Keeping.{keeping, correction_kept, corrected_with, mending_kept, mended_with, listed_with, dropping_kept, dropped_with}
use Rattle.f24.specs.Linked.{answer_numbers, mended_numbers, dropped_numbers}

-- A record of fewer than ten numbers and an answer of fewer than two are too short.
unfoldable pub too_short : List ℕ → List ℕ → Bool
too_short kept answer = cond (ltb (length kept) 10) true (ltb (length answer) 2)

-- Then 100 is returned, and else the code.
abbrev pub code_unless : List ℕ → List ℕ → ℕ → ℕ
code_unless kept answer code = cond (too_short kept answer) 100 code

-- Then what is lent stays as it came, and else what is new stands there.
abbrev pub left_unless : List ℕ → List ℕ → List ℕ → List ℕ → List ℕ
left_unless kept answer old new = cond (too_short kept answer) old new

-- The record that a room has is its first ten numbers.
abbrev pub kept_in : List ℕ → KeptSums
kept_in room = record { sums = sums_at room 0 }

-- The record that is handed back stands there; "Every refusal leaves lent memory as it came".
unfoldable pub kept_written : Refusal → KeptSums → List ℕ → List ℕ
kept_written x k room = cond (eqb x.number 0) (overlay (sums_numbers k.sums) room) room

-- `f24_kept` returns what the judgement of the flow says.
unfoldable pub kept_code : List ℕ → List ℕ → List ℕ → ℕ
kept_code f kept answer = code_unless kept answer (refusal_of (keeping f).verdict).number

-- It writes the record of an accepted flow.
unfoldable pub kept_record : List ℕ → List ℕ → List ℕ → List ℕ
kept_record f kept answer = left_unless kept answer kept (kept_written (refusal_of (keeping f).verdict) (keeping f).kept kept)

-- It writes nothing or the refusal.
unfoldable pub kept_answer : List ℕ → List ℕ → List ℕ → List ℕ
kept_answer f kept answer = left_unless kept answer answer (overlay (answer_numbers (refusal_of (keeping f).verdict) []) answer)

-- A correction takes the record in its room.
abbrev pub correcting : List ℕ → ℕ → ℕ → ℕ → ℕ → ℕ → List ℕ → CorrectionKept
correcting f d subtype n debit credit kept = correction_kept (kept_in kept) f d subtype n debit credit

-- `f24_correct_kept` returns what the correction with the record says.
unfoldable pub correct_kept_code : List ℕ → ℕ → ℕ → ℕ → ℕ → ℕ → List ℕ → List ℕ → ℕ
correct_kept_code f d subtype n debit credit kept answer = code_unless kept answer (refusal_made (correcting f d subtype n debit credit kept).answer).number

-- It corrects the flow.
unfoldable pub correct_kept_flow : List ℕ → ℕ → ℕ → ℕ → ℕ → ℕ → List ℕ → List ℕ → List ℕ
correct_kept_flow f d subtype n debit credit kept answer = left_unless kept answer f (corrected_with (kept_in kept) f d subtype n debit credit)

-- It writes the record that is handed back.
unfoldable pub correct_kept_record : List ℕ → ℕ → ℕ → ℕ → ℕ → ℕ → List ℕ → List ℕ → List ℕ
correct_kept_record f d subtype n debit credit kept answer =
    left_unless kept answer kept (kept_written (refusal_made (correcting f d subtype n debit credit kept).answer) (correcting f d subtype n debit credit kept).kept kept)

-- It writes nothing or the refusal.
unfoldable pub correct_kept_answer : List ℕ → ℕ → ℕ → ℕ → ℕ → ℕ → List ℕ → List ℕ → List ℕ
correct_kept_answer f d subtype n debit credit kept answer = left_unless kept answer answer (overlay (answer_numbers (refusal_made (correcting f d subtype n debit credit kept).answer) []) answer)

-- So does a rebalancing.
abbrev pub rebalancing : List ℕ → List ℕ → List ℕ → MendingKept
rebalancing f list kept = mending_kept (kept_in kept) f list

-- `f24_rebalance_kept` returns what the rebalancing with the record says.
unfoldable pub rebalance_kept_code : List ℕ → List ℕ → List ℕ → List ℕ → ℕ
rebalance_kept_code f list kept answer = code_unless kept answer (refusal_mended (rebalancing f list kept).answer).number

-- It rebalances the flow.
unfoldable pub rebalance_kept_flow : List ℕ → List ℕ → List ℕ → List ℕ → List ℕ
rebalance_kept_flow f list kept answer = left_unless kept answer f (mended_with (kept_in kept) f list)

-- It lists the fields that change.
unfoldable pub rebalance_kept_list : List ℕ → List ℕ → List ℕ → List ℕ → List ℕ
rebalance_kept_list f list kept answer = left_unless kept answer list (listed_with (kept_in kept) f list)

-- It writes the record that is handed back.
unfoldable pub rebalance_kept_record : List ℕ → List ℕ → List ℕ → List ℕ → List ℕ
rebalance_kept_record f list kept answer = left_unless kept answer kept (kept_written (refusal_mended (rebalancing f list kept).answer) (rebalancing f list kept).kept kept)

-- It writes how many fields are listed or the refusal.
unfoldable pub rebalance_kept_answer : List ℕ → List ℕ → List ℕ → List ℕ → List ℕ
rebalance_kept_answer f list kept answer = left_unless kept answer answer (overlay (answer_numbers (refusal_mended (rebalancing f list kept).answer) (mended_numbers (rebalancing f list kept).answer)) answer)

-- So does a dropping.
abbrev pub dropping : List ℕ → List ℕ → List ℕ → DroppingKept
dropping f numbers kept = dropping_kept (kept_in kept) f numbers

-- `f24_drop_kept` returns what the dropping with the record says.
unfoldable pub drop_kept_code : List ℕ → List ℕ → List ℕ → List ℕ → ℕ
drop_kept_code f numbers kept answer = code_unless kept answer (refusal_dropped (dropping f numbers kept).answer).number

-- It drops the deleghe from the flow.
unfoldable pub drop_kept_flow : List ℕ → List ℕ → List ℕ → List ℕ → List ℕ
drop_kept_flow f numbers kept answer = left_unless kept answer f (dropped_with (kept_in kept) f numbers)

-- It writes the record that is handed back.
unfoldable pub drop_kept_record : List ℕ → List ℕ → List ℕ → List ℕ → List ℕ
drop_kept_record f numbers kept answer = left_unless kept answer kept (kept_written (refusal_dropped (dropping f numbers kept).answer) (dropping f numbers kept).kept kept)

-- It writes the new length or the refusal.
unfoldable pub drop_kept_answer : List ℕ → List ℕ → List ℕ → List ℕ → List ℕ
drop_kept_answer f numbers kept answer = left_unless kept answer answer (overlay (answer_numbers (refusal_dropped (dropping f numbers kept).answer) (dropped_numbers (dropping f numbers kept).answer)) answer)
