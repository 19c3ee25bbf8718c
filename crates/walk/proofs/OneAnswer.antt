-- Each promise of this crate settles what is handed back: numbers and places, and of a part its bytes and where it lies. Of two parts that are the same so,
-- nothing that a program can see is different.
use Prim.Native.Nat.{ℕ, zero, suc, ◌+◌}
use mathlib.Core.Path.{◌≡◌, refl, sym, ap, ◌∙◌}
use mathlib.Core.List.{List}
use denote.Ref.{Bor}
use Rattle.walk.specs.declared.WalkPlace.{WalkPlace}
use Rattle.walk.specs.Answers.{Answer}
use Rattle.walk.specs.declared.Step.{Step}
use Rattle.walk.specs.declared.Walker.{Walker}
use Rattle.walk.specs.declared.Stepped.{Stepped}
use Rattle.walk.specs.Walk.{answer_at, place_after, step_at, part_in, start_in, HandedBack, walker_at, SteppedOn}
use Rattle.walk.specs.Steps.{KthStep, first, next}
use Rattle.walk.proofs.EachRecord.{part-for, walker-for}

-- two parts have the same bytes at the same place
abbrev pub Same : Bor (List ℕ) → Bor (List ℕ) → Type 0
Same a b = (a.now ≡ b.now) × (a.ref_ptr.0 ≡ b.ref_ptr.0) × (a.ref_ptr.1 ≡ b.ref_ptr.1)

-- "any two answers allowed by it are equal": of `step_at`
pub one-step : (f : List ℕ) (p : WalkPlace) (a b : Step) → a ≡ step_at f p → b ≡ step_at f p → a ≡ b
one-step f p a b x y = x ∙ sym y

-- of `part_at`
pub one-part : (flow : Bor (List ℕ)) (answer : Answer) (a b : Bor (List ℕ)) → HandedBack flow answer a → HandedBack flow answer b → Same a b
one-part flow answer a b x y = (x.0 ∙ sym y.0, x.1 ∙ sym y.1, x.2 ∙ sym y.2)

-- of `new`
pub one-new : (flow : Bor (List ℕ)) (a b : Walker) → a ≡ walker_at flow 0 → b ≡ walker_at flow 0 → a ≡ b
one-new flow a b x y = x ∙ sym y

-- of `step_on`
pub one-step-on : (w : Walker) (a b : Stepped) → SteppedOn w a → SteppedOn w b → (a.answer ≡ b.answer) × Same a.part b.part × (a.walker ≡ b.walker)
one-step-on w a b x y =
    let e : a.answer ≡ b.answer = x.answer ∙ sym y.answer in
    (e, one-part w.flow b.answer a.part b.part (part-for x e) y.part, walker-for x e ∙ sym (walker-for y refl))

-- `step_at` and `step_on` agree
pub one-walk : (w : Walker) (s : Stepped) → SteppedOn w s → step_at w.flow.now w.place ≡ record { answer = s.answer; next = s.walker.place }
one-walk w s p =
    let a : answer_at w.flow.now w.place ≡ s.answer = sym p.answer in
    let n : place_after (answer_at w.flow.now w.place) w.place ≡ s.walker.place = ap (λ (x : Answer). place_after x w.place) a ∙ sym p.place in
    λ i. record { answer = a i; next = n i }

-- a step that keeps the promise is there from each walker
some-step-on : (w : Walker) → (s : Stepped) × SteppedOn w s
some-step-on w =
    let f = w.flow.now in
    let a = answer_at f w.place in
    let r : Bor (List ℕ) = record { ref_ptr = (w.flow.ref_ptr.0, w.flow.ref_ptr.1 + start_in f a); now = part_in f a } in
    (record { part = r; answer = a; walker = record { flow = w.flow; place = place_after a w.place } }, record { answer = refl; part = (refl, refl, refl); flow = refl; place = refl })

-- and so a k-th one for each k from 1 on: what is shown of the k-th step of a walk is shown of something
pub kth-step-there : (w : Walker) (k : ℕ) → (s : Stepped) × KthStep w (suc k) s
kth-step-there w zero = let s = some-step-on w in (s.0, first s.1)
kth-step-there w (suc k) =
    let s = kth-step-there w k in
    let t = some-step-on s.0.walker in
    (t.0, next s.1 t.1)
