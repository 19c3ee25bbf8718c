-- On an accepted flow the k-th `step_on` from `new` shows record k, and after the last record the walker stays at its end.
use Prim.Native.Nat.{ℕ, suc, ◌/◌, ◌<◌, ◌≤◌}
use mathlib.Core.Path.{◌≡◌, refl, subst, ap, ◌∙◌}
use mathlib.Core.List.{List}
use mathlib.Core.Bool.{Bool, true, false}
use native.Mathlib.Omega.{arith}
use native.Mathlib.Numerals.{add-one}
use borrow.Author.Tests.{lt-ltb, le-ltb, ltb-true, ltb-false}
use lib.Dec.{ltb}
use lib.ListN.{length}
use denote.Ref.{Bor}
use Rattle.judge.specs.Refusal.{Accepted}
use Rattle.judge.specs.Flow.{records_of, judged}
use Rattle.judge.proofs.Accepted.{accepted-means-no-fault}
use Rattle.judge.proofs.Records.{length-chunks, record-there, record-number}
use Rattle.walk.specs.declared.WalkPlace.{WalkPlace}
use Rattle.walk.specs.Answers.{Answer, Shown, NoMore}
use Rattle.walk.specs.declared.Walker.{Walker}
use Rattle.walk.specs.declared.Stepped.{Stepped}
use Rattle.walk.specs.Walk.{place_next, answer_at, place_after, HandedBack, walker_at, SteppedOn}
use Rattle.walk.specs.Steps.{KthStep, first, next, ShowsRecord, ShowsNoMore}

-- a walker is its flow and its place
pub same-walker : {w : Walker} {f : Bor (List ℕ)} {p : WalkPlace} → w.flow ≡ f → w.place ≡ p → w ≡ record { flow = f; place = p }
same-walker e h = λ i. record { flow = e i; place = h i }

-- a step of one walker is a step of the other, where they are the same
pub step_from : {v w : Walker} {s : Stepped} → v ≡ w → SteppedOn v s → SteppedOn w s
step_from {s = s} e p = subst (λ (x : Walker). SteppedOn x s) e p

-- the part of a step whose answer is known
pub part-for : {w : Walker} {s : Stepped} {a : Answer} → SteppedOn w s → s.answer ≡ a → HandedBack w.flow a s.part
part-for {w} {s} p e = subst (λ (x : Answer). HandedBack w.flow x s.part) e p.part

-- and the walker after it
pub walker-for : {w : Walker} {s : Stepped} {a : Answer} → SteppedOn w s → s.answer ≡ a → s.walker ≡ record { flow = w.flow; place = place_after a w.place }
walker-for {w} p e = same-walker p.flow (p.place ∙ ap (λ (x : Answer). place_after x w.place) e)

module _ (flow : Bor (List ℕ)) (e : (judged flow.now).verdict ≡ Accepted) where
  module _ (n : ℕ) (h : n < length flow.now / 120) where
    shows-next : answer_at flow.now (walker_at flow n).place ≡ Shown (suc n)
    unfolding answer_at
    shows-next = rw (e, lt-ltb _ _ h) (ap Shown (add-one n))

    moves-on : place_next (walker_at flow n).place ≡ (walker_at flow (suc n)).place
    unfolding place_next
    moves-on =
        let w = (accepted-means-no-fault flow.now e).whole.short in
        let b : n < 18446744073709551615 = omega arith in
        rw (lt-ltb _ _ b) (ap (λ (m : ℕ). (walker_at flow m).place) (add-one n))

    -- a step of the walker that has shown n records, where there is one more
    step-shows : {s : Stepped} → SteppedOn (walker_at flow n) s → ShowsRecord flow (suc n) s
    step-shows p =
        let a : _ ≡ Shown (suc n) = p.answer ∙ shows-next in
        let l = part-for p a in
        let r = record-there flow.now (suc n) (λ x. omega arith) (omega arith) in
        record {
          answer = a;
          part = (l.0 ∙ record-number flow.now (suc n) (omega arith), l.1, l.2 ∙ omega (arith, r.1));
          walker = walker-for p a ∙ same-walker refl moves-on;
        }

  -- "The k-th step from the start hands back the k-th record as a part of the flow". The start is the walker that `new` promises
  pub walker-shows-records : {k : ℕ} {s : Stepped} → KthStep (walker_at flow 0) k s → k ≤ length (records_of flow.now) → ShowsRecord flow k s
  walker-shows-records (first p) h = step-shows 0 (omega (arith, length-chunks (length flow.now / 120) flow.now)) p
  walker-shows-records (next {k} q p) h =
      let i = (walker-shows-records q (omega arith)).walker in
      step-shows k (omega (arith, length-chunks (length flow.now / 120) flow.now)) (step_from i p)

-- At EF's end, or at a place beyond it
module _ (w : Walker) (e : (judged w.flow.now).verdict ≡ Accepted) (h : length (records_of w.flow.now) ≤ w.place.shown) where
  no_more : answer_at w.flow.now w.place ≡ NoMore
  unfolding answer_at
  no_more =
      let l = length-chunks (length w.flow.now / 120) w.flow.now in
      let b : length w.flow.now / 120 ≤ w.place.shown = omega arith in
      rw (e, le-ltb _ _ b)

  step_stays : {s : Stepped} → SteppedOn w s → ShowsNoMore w s
  step_stays p =
      let a : _ ≡ NoMore = p.answer ∙ no_more in
      record { answer = a; part = part-for p a; walker = walker-for p a }

  -- "At EF's end, or at a place beyond it, it answers that there is no more, with an empty part, and the place stays", however many steps are taken
  pub walker-ends : {k : ℕ} {s : Stepped} → KthStep w k s → ShowsNoMore w s
  walker-ends (first p) = step_stays p
  walker-ends (next q p) = step_stays (step_from (walker-ends q).walker p)

module _ (flow : Bor (List ℕ)) (e : (judged flow.now).verdict ≡ Accepted) where
  -- the walker that has shown every record
  abbrev walked : Walker
  walked = walker_at flow (length (records_of flow.now))

  -- the same of a walk from the start, at each step after the one that shows the last record
  pub walker-ends-after-last : {k : ℕ} {s : Stepped} → KthStep (walker_at flow 0) k s → length (records_of flow.now) < k → ShowsNoMore walked s
  walker-ends-after-last (first p) h = step_stays walked e (omega arith) (step_from (ap (walker_at flow) (omega arith)) p)
  walker-ends-after-last (next {k} {s} q p) h =
      step_stays walked e (omega arith) (step_from (go (ltb (length (records_of flow.now)) k) refl (λ l. (walker-ends-after-last q l).walker)) p)
    where
      go : (b : Bool) → ltb (length (records_of flow.now)) k ≡ b → (length (records_of flow.now) < k → s.walker ≡ walked) → s.walker ≡ walked
      go true i ih = ih (ltb-true _ _ i)
      go false i ih =
          let l : k ≤ length (records_of flow.now) = ltb-false _ _ i in
          (walker-shows-records flow e q l).walker ∙ ap (walker_at flow) (omega arith)
