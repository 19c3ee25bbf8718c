-- Believed. Ask 8 of document 02: deleghe are dropped from an accepted flow; the refusals in their order; the flow afterwards.
use Rattle.std.specs.Prelude.{ℕ, cond, List, eqb, length, Err}
use Rattle.refusal.specs.declared.Refusal.{Refusal}
use Rattle.refusal.specs.Refusals.{refusal, no_refusal}
use Rattle.judge.specs.Refusal.{judged_first}
use Rattle.judge.specs.Flow.{judged}
use Rattle.rebalance.specs.Rebalance.{refreshed}
use Rattle.close.specs.Closing.{closed_up, spaced, each_once, left_of}
use Rattle.dropping.specs.Answers.{Dropping, Dropped, Refused}

-- "A refusal is a number, a record counted from 1, and a position": that of an answer; a flow that is shortened has none
abbrev pub refusal_dropped : Dropping → Refusal
refusal_dropped (Dropped n) = no_refusal
refusal_dropped (Err why) = why

-- "close the flow up over them, renumber the rest from 1, and set the tail": the flow that is left
unfoldable pub shortened : List ℕ → List ℕ → List ℕ
shortened f numbers = refreshed (closed_up numbers f)

-- "21 for a number not in the flow or named twice, then 28 when none would be left"; else "the new length is answered": of an accepted flow that has n deleghe
unfoldable pub weighed : ℕ → List ℕ → List ℕ → Dropping
weighed n f numbers =
    cond (each_once n numbers) (cond (eqb (left_of numbers n) 0) (Refused 28 0 0) (Dropped (length (shortened f numbers)))) (Refused 21 0 0)

-- "after 01's": the answer to a flow and a list of numbers
unfoldable pub dropping_of : List ℕ → List ℕ → Dropping
dropping_of f numbers = judged_first Refused (judged f).verdict (weighed (judged f).summary.deleghe f numbers)

-- the flow that is left, with spaces behind it; or, "with nothing written", as it came
abbrev pub flow_by : Dropping → List ℕ → List ℕ → List ℕ
flow_by (Dropped n) new old = new
flow_by (Err why) new old = old

-- "The room set free at the end of the lent buffer is filled with spaces": the lent flow afterwards
unfoldable pub dropped_flow : List ℕ → List ℕ → List ℕ
dropped_flow f numbers = flow_by (dropping_of f numbers) (spaced (shortened f numbers) (length f)) f
