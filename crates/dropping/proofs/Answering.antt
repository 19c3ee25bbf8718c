-- The answer to a flow and a list of numbers, step by step: the judgement's refusal, 21, 28, or the flow that is left.
use Prim.Native.Nat.{ℕ, ◌-◌}
use mathlib.Core.Path.{◌≡◌, refl, sym, ap, ap₂, ◌∙◌}
use mathlib.Core.Bool.{true, false}
use mathlib.Core.List.{List, ◌++◌}
use native.Mathlib.Omega.{arith}
use borrow.Author.Tests.{eq-eqb, ne_eqb}
use lib.Dec.{eqb}
use lib.ListN.{length, take, drop, replicate}
use Rattle.rules.specs.State.{start_state}
use Rattle.judge.specs.Refusal as Judge
use Rattle.judge.specs.Refusal.{Accepted}
use Rattle.judge.specs.Flow.{records_of, judged}
use Rattle.judge.specs.Plain.{Whole}
use Rattle.rebalance.specs.Rebalance.{rebalanced, all_fit, flat, refreshed}
use Rattle.close.specs.Closing.{closed_up, spaced, each_once, left_of}
use Rattle.close.proofs.Counted.{left-counted}
use Rattle.close.proofs.Spaces.{spaced-front, spaced-behind}
use Rattle.dropping.specs.Answers.{Dropping, Dropped, Refused}
use Rattle.dropping.specs.Dropping.{shortened, weighed, dropping_of, flow_by, dropped_flow}
use Rattle.dropping.specs.Inner.{Judged, Droppable}
use Rattle.dropping.proofs.Shortened.{closed-whole, closed-fits, shortened-length}

-- A flow that is closed up, of which so many bytes are left.
module _ (f numbers : List ℕ) (m : Droppable f numbers) (flow : List ℕ) (n : ℕ) (e : n ≡ length (closed_up numbers f)) (s : flow ≡ spaced (closed_up numbers f) (length f)) where
  -- These are what is closed up.
  front : take n flow ≡ closed_up numbers f
  front = ap (take n) s ∙ spaced-front (closed_up numbers f) (length f) n (sym e)

  pub front_length : n ≡ length (take n flow)
  front_length = e ∙ sym (ap length front)

  -- They can be rebalanced.
  pub front_fits : Whole (take n flow) × (all_fit start_state (records_of (take n flow)) ≡ true)
  front_fits = rw front (closed-whole f numbers m, closed-fits f numbers m)

  -- Once they are, the flow that is left stands there, and spaces behind it.
  pub front-set : (g : List ℕ) → g ≡ flat (rebalanced start_state (records_of (take n flow))) → (n ≡ length (shortened f numbers)) × (g ++ drop n flow ≡ spaced (shortened f numbers) (length f))
  unfolding shortened refreshed spaced
  front-set g w =
      let l = e ∙ sym (shortened-length f numbers m) in (
        l,
        ap₂ ◌++◌ (w ∙ ap (λ (x : List ℕ). flat (rebalanced start_state (records_of x))) front)
            (ap (drop n) s ∙ (spaced-behind (closed_up numbers f) (length f) n (sym e) ∙ ap (λ (k : ℕ). replicate (length f - k) 32) l)),
      )

-- An accepted flow that has so many deleghe.
module _ (f numbers : List ℕ) (n : ℕ) where
  -- A number is not in the flow, or named twice.
  pub weighed-unnamed : each_once n numbers ≡ false → Refused 21 0 0 ≡ weighed n f numbers
  unfolding weighed
  weighed-unnamed e = rw e

  module _ (e : each_once n numbers ≡ true) where
    -- None would be left.
    pub weighed-none : length numbers ≡ n → Refused 28 0 0 ≡ weighed n f numbers
    unfolding weighed
    weighed-none h = rw (e, eq-eqb (left_of numbers n) 0 (omega (arith, left-counted n numbers e)))

    -- Some are left.
    some_left : (length numbers ≡ n → ⊥) → eqb (left_of numbers n) 0 ≡ false
    some_left h = ne_eqb (left_of numbers n) 0 (λ z. h (omega (arith, left-counted n numbers e)))

    pub may-drop : (length numbers ≡ n → ⊥) → Judged f n → Droppable f numbers
    may-drop h j = record { accepted = j.accepted; once = rw j.deleghe e; some = rw j.deleghe (some_left h) }

    pub weighed-dropped : (length numbers ≡ n → ⊥) → (k : ℕ) → k ≡ length (shortened f numbers) → Dropped k ≡ weighed n f numbers
    unfolding weighed
    weighed-dropped h k l = rw (e, some_left h) (ap Dropped l)

-- What the judgement says first.
module _ (f numbers : List ℕ) where
  -- Its refusal is handed on.
  pub answer-refused : (n r p : ℕ) → (judged f).verdict ≡ Judge.Refused n r p → (Refused n r p ≡ dropping_of f numbers) × (f ≡ dropped_flow f numbers)
  unfolding dropping_of dropped_flow
  answer-refused n r p e = rw e (refl, refl)

  -- An accepted flow is weighed.
  pub answer-accepted : (judged f).verdict ≡ Accepted → (a : Dropping) (g : List ℕ) → a ≡ weighed (judged f).summary.deleghe f numbers → g ≡ flow_by a (spaced (shortened f numbers) (length f)) f → (a ≡ dropping_of f numbers) × (g ≡ dropped_flow f numbers)
  unfolding dropping_of dropped_flow
  answer-accepted e a g p q = rw e (p, q ∙ ap (λ (x : Dropping). flow_by x (spaced (shortened f numbers) (length f)) f) p)
