-- On a refused flow each `step_on` hands back the flow's refusal with an empty part, and the walker stays.
use Prim.Native.Nat.{ℕ}
use mathlib.Core.Path.{◌≡◌, sym, ap, ◌∙◌}
use Rattle.judge.specs.Refusal as Judged
use Rattle.judge.specs.Refusal.{refusal_of}
use Rattle.judge.specs.Flow.{judged}
use Rattle.walk.specs.Answers.{Refused}
use Rattle.walk.specs.declared.Walker.{Walker}
use Rattle.walk.specs.declared.Stepped.{Stepped}
use Rattle.walk.specs.Walk.{refusal_in, answer_at, SteppedOn}
use Rattle.walk.specs.Steps.{KthStep, first, next, ShowsRefusal}
use Rattle.walk.proofs.EachRecord.{step_from, part-for, walker-for}

module _ (n r q : ℕ) (w : Walker) (e : (judged w.flow.now).verdict ≡ Judged.Refused n r q) where
  refuses : answer_at w.flow.now w.place ≡ Refused n r q
  unfolding answer_at
  refuses = rw e

  step-refuses : {s : Stepped} → SteppedOn w s → ShowsRefusal n r q w s
  step-refuses p =
      let a : _ ≡ Refused n r q = p.answer ∙ refuses in
      record { answer = a; refusal = ap refusal_in a ∙ sym (ap refusal_of e); part = part-for p a; walker = walker-for p a }

  -- "A refused step does the same with its refusal", however many steps are taken
  pub walker-refuses : {k : ℕ} {s : Stepped} → KthStep w k s → ShowsRefusal n r q w s
  walker-refuses (first p) = step-refuses p
  walker-refuses (next i p) = step-refuses (step_from (walker-refuses i).walker p)
