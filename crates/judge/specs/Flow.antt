-- Believed; `rest_of` and `Ready` serve inner functions. The judgement of a flow: the first fault in the order of the records, or acceptance with the counts and sums.
use Rattle.std.specs.Prelude.{ℕ, zero, suc, ◌+◌, ◌-◌, ◌*◌, ◌/◌, ◌%◌, ◌≤◌, ◌<◌, ◌≡◌, List, [], ◌∷◌, cond, eqb, ltb, length, take, drop, Err}
use Rattle.layout.specs.Fields.{bytes_of, support_name}
use Rattle.refusal.specs.Outcomes.{Outcome, Pass}
use Rattle.rules.specs.declared.State.{State}
use Rattle.rules.specs.State.{zero_sections, start_state}
use Rattle.order.specs.Stages.{after_tail}
use Rattle.rules.specs.Bounds.{StateBelow}
use Rattle.rules.specs.Checks.{fault}
use Rattle.rules.specs.Step.{next}
use Rattle.judge.specs.Refusal.{Accepted, Refused}
use Rattle.judge.specs.declared.Summary.{Summary}
use Rattle.judge.specs.declared.Judgement.{Judgement}

-- a refusal, with a summary of zeros
abbrev pub no_summary : Summary
no_summary = record { deleghe = 0; records = 0; total = 0; lines = 0; sums = zero_sections }

abbrev pub refused_with : ℕ → ℕ → ℕ → Judgement
refused_with n r p = record { verdict = Refused n r p; summary = no_summary }

-- "An accepted flow answers the number of deleghe, the number of records, the sum of final balances, and the debit and credit sums for each of the five sections"; "The summary of a flow .. gains the line count": the records seen less those that are no lines
abbrev pub summary_of : State → Summary
summary_of st = record { deleghe = st.deleghe; records = st.seen; total = st.money.total; lines = st.seen - st.others; sums = st.money.flow }

abbrev pub accepted_with : State → Judgement
accepted_with st = record { verdict = Accepted; summary = summary_of st }

-- "Refusal 5 comes after all records have passed": "number of records plus 1, 0"
unfoldable pub closing : State → Judgement
closing st = cond (eqb st.stage.phase after_tail) (accepted_with st) (refused_with 5 (st.seen + 1) 0)

-- "the first blocking fault ends the judgement", at the record after those seen
abbrev pub after : Outcome → ℕ → Judgement → Judgement
after Pass n j = j
after (Err why) n j = refused_with why.number (n + 1) why.position

-- "records are judged in order": the records that are left, after those that led to a state
unfoldable pub judged_from : List ℕ → State → List (List ℕ) → Judgement
judged_from name st [] = closing st
judged_from name st (r ∷ rs) = after (fault name st r) st.seen (judged_from name (next st r) rs)

-- "Each record has 120 characters. Records follow one another with no line ends": n records
unfoldable pub chunks : ℕ → List ℕ → List (List ℕ)
chunks zero s = []
chunks (suc n) s = take 120 s ∷ chunks n (drop 120 s)

-- the records of a flow
abbrev pub records_of : List ℕ → List (List ℕ)
records_of s = chunks (length s / 120) s

-- the records of a flow that are left after n
abbrev pub rest_of : List ℕ → ℕ → List (List ℕ)
rest_of s n = chunks (length s / 120 - n) (drop (n * 120) s)

-- the support name in the head, with which a flow begins
abbrev pub head_name_of : List ℕ → List ℕ
head_name_of s = bytes_of s support_name

-- "Refusals 1 and 2 come first. Then records are judged in order"
unfoldable pub judged : List ℕ → Judgement
judged s =
    cond (ltb 65520 (length s)) (refused_with 1 0 0)
    (cond (eqb (length s) 0) (refused_with 2 0 0)
    (cond (eqb (length s % 120) 0) (judged_from (head_name_of s) start_state (records_of s)) (refused_with 2 0 0)))

-- a flow of whole records, at most 546 of them, and a state that some of them can have led to
pub record Ready (s : List ℕ) (st : State) : Type 0 where
  pub some : 0 < length s
  pub whole : length s % 120 ≡ 0
  pub short : length s ≤ 65520
  pub ahead : st.seen ≤ length s / 120
  pub below : StateBelow st
