-- Believed, for a judgement that goes on from a state; `answer_of` is for theorems. A run over records: the first fault among them, and the state that those before it have led to.
use Rattle.std.specs.Prelude.{List, [], ◌∷◌, ℕ, Err}
use Rattle.refusal.specs.Outcomes.{Outcome, Pass}
use Rattle.rules.specs.declared.State.{State}
use Rattle.rules.specs.Checks.{fault}
use Rattle.rules.specs.Step.{next}
use Rattle.judge.specs.declared.Judgement.{Judgement}
use Rattle.judge.specs.Flow.{closing, after}

-- where a run stands
pub record Run : Type 0 where
  pub fault : Outcome
  pub state : State

-- a run that has come so far
abbrev pub stands_at : Outcome → State → Run
stands_at o st = record { fault = o; state = st }

-- "the first blocking fault ends the judgement": the state stays that of the records before
abbrev pub stopped : Outcome → State → Run → Run
stopped Pass st x = x
stopped (Err why) st x = stands_at (Err why) st

-- "records are judged in order", from a state on, in a flow whose head has this name
unfoldable pub ran : List ℕ → State → List (List ℕ) → Run
ran name st [] = stands_at Pass st
ran name st (r ∷ rs) = stopped (fault name st r) st (ran name (next st r) rs)

-- the judgement of a run over all records that are left: `judged-ran` (proofs/Turn.antt) says that it is the judgement of these records
abbrev pub answer_of : Run → Judgement
answer_of x = after x.fault x.state.seen (closing x.state)
