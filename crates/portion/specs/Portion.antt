-- Believed. A judgement by portions: what a call answers, and what it hands back for the next one.
use Rattle.std.specs.Prelude.{ℕ, ◌+◌, ◌*◌, ◌/◌, ◌%◌, Bool, true, false, cond, List, [], ◌∷◌, eqb, ltb, leb, length, take, drop, get_or, replicate, Err}
use Rattle.refusal.specs.Outcomes.{Outcome, Pass}
use Rattle.rules.specs.declared.State.{State}
use Rattle.rules.specs.State.{start_state}
use Rattle.state.specs.Numbers.{state_numbers, state_of}
use Rattle.judge.specs.Refusal.{Verdict}
use Rattle.judge.specs.Refusal as Judged
use Rattle.judge.specs.declared.Summary.{Summary}
use Rattle.judge.specs.Flow.{no_summary, summary_of, closing, rest_of, head_name_of}
use Rattle.judge.specs.Run.{Run, ran}
use Rattle.portion.specs.declared.Course.{Course}
use Rattle.portion.specs.declared.Course.TheVariants.{Going, Accepted, Refused, Foreign}
use Rattle.portion.specs.declared.Progress.{Progress}
use Rattle.portion.specs.declared.Portion.{Portion}

-- what a judgement starts from: no record has been seen, and no name
unfoldable pub start_progress : Progress
start_progress = record { course = Going; kept = state_numbers start_state; name = replicate 20 0 }

-- how a judgement stands that has ended: docs/PORTIONS.md, "it has ended with acceptance", "with a refusal"
abbrev pub ended_by : Verdict → Course
ended_by Judged.Accepted = Accepted
ended_by (Err why) = Refused why.number why.«record» why.position

-- "how many records have been examined so far: the number of the refusing record, all records for acceptance or refusal 5, and none for 1 or 2"
abbrev pub examined_by : Course → ℕ → ℕ
examined_by Going seen = seen
examined_by Accepted seen = seen
examined_by (Refused n r p) seen = cond (eqb n 5) seen r
examined_by Foreign seen = 0

-- the summary of an accepted flow, else zeros
abbrev pub summary_by : Course → State → Summary
summary_by Going st = no_summary
summary_by Accepted st = summary_of st
summary_by (Refused n r p) st = no_summary
summary_by Foreign st = no_summary

-- what a call answers and hands back: how the state stands is the answer, and the examined count "is a result field"
abbrev pub told : Progress → Portion
told x = record { answer = x.course; examined = examined_by x.course (state_of x.kept).seen; summary = summary_by x.course (state_of x.kept); next = x }

-- docs/PORTIONS.md: "A foreign state comes back as it was, and its answer is no verdict on the flow"; "none with 1, 2 and foreign"
abbrev pub foreign : Progress → Portion
foreign x = record { answer = Foreign; examined = 0; summary = no_summary; next = x }

-- a refusal that a judgement can give after so many records: 1 and 2 have no place, every other is at the next record, 5 behind the last one
unfoldable pub refusable : ℕ → ℕ → ℕ → ℕ → Bool
refusable seen n r p =
    cond (eqb n 0) false
    (cond (ltb n 3) (cond (eqb r 0) (eqb p 0) false)
    (cond (eqb r (seen + 1)) (cond (eqb n 5) (eqb p 0) (cond (leb r 546) (cond (leb n 20) true (eqb n 26)) false)) false))

-- so that a state may stand so after so many records
abbrev pub course_right : ℕ → Course → Bool
course_right seen Going = true
course_right seen Accepted = true
course_right seen (Refused n r p) = refusable seen n r p
course_right seen Foreign = false

-- no number of a list is above m
unfoldable pub at_most : ℕ → List ℕ → Bool
at_most m [] = true
at_most m (n ∷ ns) = cond (leb n m) (at_most m ns) false

-- counts, phase and section that a judgement can have
unfoldable pub counts_right : State → Bool
counts_right st =
    cond (leb st.seen 546)
    (cond (leb st.others st.seen)
    (cond (leb st.deleghe st.seen)
    (cond (leb st.stage.lines st.seen)
    (cond (leb st.stage.phase 9) (leb st.stage.section 4) false) false) false) false) false

-- sums that a judgement can have: every record adds one amount at most. The total and the open delega's debit count together, and the rest, from the open delega's credit on, one by one
unfoldable pub sums_right : List ℕ → Bool
sums_right kept =
    cond (leb (get_or kept 6 0 + get_or kept 7 0) (get_or kept 0 0 * 999_999_999_999_999)) (at_most (get_or kept 0 0 * 999_999_999_999_999) (take 21 (drop 8 kept))) false

-- docs/PORTIONS.md, "the state by itself: is it one that a judgement can have?"
unfoldable pub possible : Progress → Bool
possible x = cond (counts_right (state_of x.kept)) (cond (course_right (state_of x.kept).seen x.course) (sums_right x.kept) false) false

-- docs/PORTIONS.md, "the head's support name, which EF must repeat, is in the state": that of record 1 from where it is examined on
unfoldable pub held_name : List ℕ → Progress → List ℕ
held_name s x = cond (eqb (state_of x.kept).seen 0) (head_name_of s) x.name

-- how a judgement of n records stands after a run: 01's answer is "given by the call that examines the last record needed"
abbrev pub course_after : ℕ → Outcome → State → Course
course_after n Pass st = cond (ltb st.seen n) Going (ended_by (closing st).verdict)
course_after n (Err why) st = Refused why.number (st.seen + 1) why.position

-- the records that a call may examine: at most p of those that are left
abbrev pub allowed : List ℕ → ℕ → Progress → List (List ℕ)
allowed s p x = take p (rest_of s (state_of x.kept).seen)

-- the run over them
abbrev pub examining : List ℕ → ℕ → Progress → Run
examining s p x = ran (held_name s x) (state_of x.kept) (allowed s p x)

-- the judgement goes on: "A portion of zero examines nothing"
unfoldable pub went_on : List ℕ → ℕ → Progress → Progress
went_on s p x =
    cond (eqb p 0) x
    (record { course = course_after (length s / 120) (examining s p x).fault (examining s p x).state; kept = state_numbers (examining s p x).state; name = held_name s x })

-- refusal 1 or 2, of the flow as it is
abbrev pub refused_now : ℕ → Progress → Progress
refused_now n x = record { course = Refused n 0 0; kept = x.kept; name = x.name }

-- docs/PORTIONS.md, the third to the fifth test: refusals 1 and 2, the records seen against this flow, the records
unfoldable pub gone_on : List ℕ → ℕ → Progress → Portion
gone_on s p x =
    cond (ltb 65520 (length s)) (told (refused_now 1 x))
    (cond (eqb (length s) 0) (told (refused_now 2 x))
    (cond (eqb (length s % 120) 0) (cond (ltb (state_of x.kept).seen (length s / 120)) (told (went_on s p x)) (foreign x)) (told (refused_now 2 x))))

-- "An ended state gives its answer again"
abbrev pub unless_ended : Course → Progress → Portion → Portion
unless_ended Going x a = a
unless_ended Accepted x a = told x
unless_ended (Refused n r p) x a = told x
unless_ended Foreign x a = foreign x

-- docs/PORTIONS.md, "These are tried, in this order": the state by itself, whether it has ended, and then the flow
unfoldable pub portioned : List ℕ → ℕ → Progress → Portion
portioned s p x = cond (possible x) (unless_ended x.course x (gone_on s p x)) (foreign x)
