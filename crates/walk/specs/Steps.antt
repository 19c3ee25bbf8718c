-- For theorems. The k-th step of a walk, by the promise of `step_on` alone, and what is shown of it.
use Rattle.std.specs.Prelude.{ℕ, suc, ◌-◌, ◌*◌, ◌≡◌, List, [], get_or}
use Rattle.std.specs.Borrow.{Bor}
use Rattle.judge.specs.Refusal.{refusal_of}
use Rattle.judge.specs.Flow.{records_of, judged}
use Rattle.judge.specs.Part.{LiesAt}
use Rattle.walk.specs.Answers.{Shown, NoMore, Refused}
use Rattle.walk.specs.declared.Walker.{Walker}
use Rattle.walk.specs.declared.Stepped.{Stepped}
use Rattle.walk.specs.Walk.{refusal_in, walker_at, SteppedOn}

-- "The k-th step from the start": what the k-th of a row of calls of `step_on` hands back, where the first is on the walker w and each other on
-- the walker that the call before it handed back. Of a call nothing is used but its promise
pub data KthStep (w : Walker) : ℕ → Stepped → Type 0 where
  first : {s : Stepped} → SteppedOn w s → KthStep w 1 s
  next : {k : ℕ} {s t : Stepped} → KthStep w k s → SteppedOn s.walker t → KthStep w (suc k) t

-- "The k-th step from the start hands back the k-th record as a part of the flow": the answer, the record's bytes and where in the flow they lie, and the
-- walker after it, which holds that flow and has shown k records
pub record ShowsRecord (flow : Bor (List ℕ)) (k : ℕ) (s : Stepped) : Type 0 where
  pub answer : s.answer ≡ Shown k
  pub part : LiesAt flow (get_or (records_of flow.now) (k - 1) []) ((k - 1) * 120) s.part
  pub walker : s.walker ≡ walker_at flow k

-- "it answers that there is no more, with an empty part, and the place stays"
pub record ShowsNoMore (w : Walker) (s : Stepped) : Type 0 where
  pub answer : s.answer ≡ NoMore
  pub part : LiesAt w.flow [] 0 s.part
  pub walker : s.walker ≡ w

-- "A refused step does the same with its refusal"
pub record ShowsRefusal (n r q : ℕ) (w : Walker) (s : Stepped) : Type 0 where
  pub answer : s.answer ≡ Refused n r q
  pub refusal : refusal_in s.answer ≡ refusal_of (judged w.flow.now).verdict
  pub part : LiesAt w.flow [] 0 s.part
  pub walker : s.walker ≡ w
