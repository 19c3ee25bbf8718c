-- Believed. Demand 3: the line's amounts replaced, and every total, sign, balance and tail sum worked out afresh from all the lines.
use Rattle.std.specs.Prelude.{ℕ, ◌+◌, ◌-◌, ◌*◌, Bool, true, cond, List, ltb, Err}
use Rattle.text.specs.Numbers.{digits_of}
use Rattle.text.specs.Placing.{put_at}
use Rattle.layout.specs.Sections.{section_at}
use Rattle.layout.specs.Kinds.{of_line, section_kind}
use Rattle.rules.specs.State.{start_state}
use Rattle.amounts.specs.Amounts.{line_right}
use Rattle.refusal.specs.declared.Refusal.{Refusal}
use Rattle.refusal.specs.Refusals.{refusal, no_refusal}
use Rattle.judge.specs.Flow.{records_of}
use Rattle.rebalance.specs.Rebalance.{all_fit, refreshed}
use Rattle.rebalance.specs.Weigh.{any_negative}
use Rattle.find.specs.Answers.{Found}
use Rattle.find.specs.Answers as Answer
use Rattle.find.specs.Line.{found_in}
use Rattle.correct.specs.Answers.{Correction, Made, Refused}

-- the refusal of an answer; a correction that is made has none
abbrev pub refusal_made : Correction → Refusal
refusal_made Made = no_refusal
refusal_made (Err why) = why

-- the section whose lines have a subtype; past the table where there is none
abbrev pub section_of : ℕ → ℕ
section_of subtype = of_line 5 (λ s. s) (section_kind subtype)

-- the flow with the amounts of its k-th record, a line of section s, replaced
unfoldable pub replaced : ℕ → ℕ → ℕ → ℕ → List ℕ → List ℕ
replaced k s debit credit f =
    put_at ((k - 1) * 120 + (section_at s).debit) (digits_of 15 debit) (put_at ((k - 1) * 120 + (section_at s).credit) (digits_of 15 credit) f)

-- 14, then 23, by whether a delega is negative and whether all that is stored has room
abbrev pub outcome_of : Bool → Bool → Correction
outcome_of negative fits = cond negative (Refused 14 0 0) (cond fits Made (Refused 23 0 0))

-- 14 and 23 of a flow whose line has been replaced: "delega negative", then "a new stored total, balance or sum has more digits than its field"
unfoldable pub weighed : List ℕ → Correction
weighed f = outcome_of (any_negative start_state (records_of f)) (all_fit start_state (records_of f))

-- 22, "above 999,999,999,999,999"
abbrev pub too_large : ℕ → ℕ → Bool
too_large debit credit = cond (ltb 999_999_999_999_999 debit) true (ltb 999_999_999_999_999 credit)

-- 22, 9, 14, 23 "in this order", of new amounts for the k-th record, a line of section s
unfoldable pub tried : ℕ → ℕ → ℕ → ℕ → List ℕ → Correction
tried k s debit credit f =
    cond (too_large debit credit) (Refused 22 0 0)
    (cond (line_right s debit credit) (weighed (replaced k s debit credit f)) (Refused 9 0 0))

-- "Every call on a flow judges it first"; "A correction then tries 21, 22, 9, 14, 23 in this order"
abbrev pub after_found : Found → ℕ → ℕ → ℕ → List ℕ → Correction
after_found (Answer.At k) s debit credit f = tried k s debit credit f
after_found (Err why) s debit credit f = Refused why.number why.«record» why.position

-- the answer to a correction
unfoldable pub correction_of : List ℕ → ℕ → ℕ → ℕ → ℕ → ℕ → Correction
correction_of f d subtype n debit credit = after_found (found_in f d subtype n) (section_of subtype) debit credit f

-- the bytes after it: "Every refusal leaves lent memory as it came"
abbrev pub bytes_after : Correction → List ℕ → List ℕ → List ℕ
bytes_after Made new old = new
bytes_after (Err why) new old = old

abbrev pub record_found : Found → ℕ
record_found (Answer.At k) = k
record_found (Err why) = 0

unfoldable pub corrected_bytes : List ℕ → ℕ → ℕ → ℕ → ℕ → ℕ → List ℕ
corrected_bytes f d subtype n debit credit =
    bytes_after (correction_of f d subtype n debit credit) (refreshed (replaced (record_found (found_in f d subtype n)) (section_of subtype) debit credit f)) f
