-- Believed. The walk over a flow: its answers, its places, the parts of the flow that it shows, and what is promised of a step.
use Rattle.std.specs.Prelude.{ℕ, ◌+◌, ◌/◌, ◌≡◌, cond, List, [], ltb, length, Err}
use Rattle.std.specs.Borrow.{Bor}
use Rattle.refusal.specs.declared.Refusal.{Refusal}
use Rattle.refusal.specs.Refusals.{refusal, no_refusal}
use Rattle.judge.specs.Refusal.{judged_first}
use Rattle.judge.specs.Flow.{judged}
use Rattle.judge.specs.Part.{record_at, record_start, LiesAt}
use Rattle.walk.specs.declared.WalkPlace.{WalkPlace}
use Rattle.walk.specs.Answers.{Answer, Shown, NoMore, Refused}
use Rattle.walk.specs.declared.Step.{Step}
use Rattle.walk.specs.declared.Walker.{Walker}
use Rattle.walk.specs.declared.Stepped.{Stepped}

-- the refusal of an answer; a record shown and the end have none
abbrev pub refusal_in : Answer → Refusal
refusal_in (Shown k) = no_refusal
refusal_in NoMore = no_refusal
refusal_in (Err why) = why

-- "forward only": one more, where a usize holds it
unfoldable pub place_next : WalkPlace → WalkPlace
place_next p = cond (ltb p.shown 18446744073709551615) (record { shown = p.shown + 1 }) p

-- "The k-th step from the start hands back the k-th record"; "At EF's end, or at a place beyond it, it answers that there is no more"
unfoldable pub answer_at : List ℕ → WalkPlace → Answer
answer_at f p = judged_first Refused (judged f).verdict (cond (ltb p.shown (length f / 120)) (Shown (p.shown + 1)) NoMore)

-- "the place stays" at the end, and "A refused step does the same with its refusal"
abbrev pub place_after : Answer → WalkPlace → WalkPlace
place_after (Shown k) p = place_next p
place_after NoMore p = p
place_after (Err why) p = p

-- "walks an accepted flow record by record": the answer of a step, and the place after it
abbrev pub step_at : List ℕ → WalkPlace → Step
step_at f p = record { answer = answer_at f p; next = place_after (answer_at f p) p }

-- "hands back the k-th record as a part of the flow", and else "an empty part"
abbrev pub part_in : List ℕ → Answer → List ℕ
part_in f (Shown k) = record_at f k
part_in f NoMore = []
part_in f (Err why) = []

-- "as a part of the flow": the index at which the part for an answer starts
abbrev pub start_in : List ℕ → Answer → ℕ
start_in f (Shown k) = record_start f k
start_in f NoMore = 0
start_in f (Err why) = 0

-- "hands back the k-th record as a part of the flow": what is promised of the part for an answer
abbrev pub HandedBack : Bor (List ℕ) → Answer → Bor (List ℕ) → Type 0
HandedBack flow a r = LiesAt flow (part_in flow.now a) (start_in flow.now a) r

-- "holding the flow and its present place, which is the number of records shown"
abbrev pub walker_at : Bor (List ℕ) → ℕ → Walker
walker_at flow n = record { flow = flow; place = record { shown = n } }

-- what is promised of a step of the walker w: the answer at w's place and the part for that answer; and the walker after it "forward only, holding the
-- flow", the same one, at the place after that answer
pub record SteppedOn (w : Walker) (r : Stepped) : Type 0 where
  pub answer : r.answer ≡ answer_at w.flow.now w.place
  pub part : HandedBack w.flow r.answer r.part
  pub flow : r.walker.flow ≡ w.flow
  pub place : r.walker.place ≡ place_after r.answer w.place
