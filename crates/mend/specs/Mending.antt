-- Believed. Ask 6 of document 02: a flow whose lines are good is rebalanced, and the fields that change are listed; the refusals in their order; the flow and the list afterwards.
use Rattle.std.specs.Prelude.{ℕ, ◌/◌, ◌%◌, cond, List, [], ◌∷◌, eqb, ltb, length, Err}
use Rattle.rules.specs.declared.State.{State}
use Rattle.rules.specs.State.{start_state}
use Rattle.rules.specs.Step.{next}
use Rattle.state.specs.Numbers.{overlay}
use Rattle.refusal.specs.declared.Refusal.{Refusal}
use Rattle.refusal.specs.Refusals.{no_refusal}
use Rattle.judge.specs.Flow.{records_of, head_name_of}
use Rattle.rebalance.specs.Rebalance.{refreshed, all_fit, kept_fault}
use Rattle.lenient.specs.Answers.{Lenient}
use Rattle.lenient.specs.Answers as Kept
use Rattle.lenient.specs.Lenient.{or_refused, ended}
use Rattle.changes.specs.Changes.{Place, changes_of, place_numbers}
use Rattle.mend.specs.Answers.{Mending, Mended, Refused}

-- "A refusal is a number, a record counted from 1, and a position": that of an answer; a flow that is rebalanced has none
abbrev pub refusal_mended : Mending → Refusal
refusal_mended (Mended n) = no_refusal
refusal_mended (Err why) = why

-- "the first remaining fault of 01's checks", in records after those that led to a state: of each record those that rebalancing leaves alone, and 5 behind the last
unfoldable pub remaining_from : List ℕ → State → List (List ℕ) → Lenient
remaining_from name st [] = ended st
remaining_from name st (r ∷ rs) = or_refused (kept_fault name st r) st.seen (remaining_from name (next st r) rs)

-- "Refusals 1 and 2 come first. Then records are judged in order"
unfoldable pub remaining : List ℕ → Lenient
remaining f =
    cond (ltb 65520 (length f)) (Kept.Refused 1 0 0)
    (cond (eqb (length f) 0) (Kept.Refused 2 0 0)
    (cond (eqb (length f % 120) 0) (remaining_from (head_name_of f) start_state (records_of f)) (Kept.Refused 2 0 0)))

-- "27 when the lent list is too short": for so many fields, in a list of so many numbers, two for each field
abbrev pub listed_in : ℕ → ℕ → Mending
listed_in room n = cond (ltb (room / 2) n) (Refused 27 0 0) (Mended n)

-- "then 23, then 27"
unfoldable pub weighed : ℕ → List ℕ → Mending
weighed room f = cond (all_fit start_state (records_of f)) (listed_in room (length (changes_of f))) (Refused 23 0 0)

-- a fault that remains, else what comes behind
abbrev pub unless : Lenient → Mending → Mending
unless Kept.Passed m = m
unless (Err why) m = Refused why.number why.«record» why.position

-- "Refusals ..: the first remaining fault of 01's checks, then 23, then 27": the answer to a flow and a list
unfoldable pub mending_of : List ℕ → List ℕ → Mending
mending_of f list = unless (remaining f) (weighed (length list) f)

-- "rewrites every total, sign, balance, final balance and tail value from the lines"; or, "with nothing written", as it came
abbrev pub flow_by : Mending → List ℕ → List ℕ → List ℕ
flow_by (Mended n) new old = new
flow_by (Err why) new old = old

-- the flow afterwards
unfoldable pub mended_flow : List ℕ → List ℕ → List ℕ
mended_flow f list = flow_by (mending_of f list) (refreshed f) f

-- "lists each field changed"; "a call that succeeds leaves so the lent room past what it writes", and a refusal all of it
abbrev pub list_by : Mending → List Place → List ℕ → List ℕ
list_by (Mended n) ps list = overlay (place_numbers ps) list
list_by (Err why) ps list = list

-- the list afterwards
unfoldable pub mended_list : List ℕ → List ℕ → List ℕ
mended_list f list = list_by (mending_of f list) (changes_of f) list
