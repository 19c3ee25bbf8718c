-- The room of a record and that of an answer: too short, and after a call that is done or refused.
use Prim.Native.Nat.{ℕ, ◌<◌, ◌≤◌}
use mathlib.Core.Path.{◌≡◌, refl}
use mathlib.Core.Bool.{true, false}
use mathlib.Core.List.{List}
use borrow.Author.Tests.{lt-ltb, le-ltb, ne_eqb}
use native.Mathlib.Omega.{arith}
use lib.ListN.{length}
use Rattle.state.specs.Numbers.{overlay, sums_numbers}
use Rattle.refusal.specs.declared.Refusal.{Refusal}
use Rattle.refusal.specs.Refusals.{refusal, no_refusal}
use Rattle.sums.specs.declared.KeptSums.{KeptSums}
use Rattle.answers.specs.Numbers.{refusal_numbers}
use Rattle.f24.specs.Linked.{answer_numbers}
use Rattle.f24.specs.LinkedKept.{too_short, code_unless, left_unless, kept_written}

module _ (kept answer : List ℕ) where
  -- A record of fewer than ten numbers is too short.
  pub short-record : length kept < 10 → too_short kept answer ≡ true
  unfolding too_short
  short-record h = rw (lt-ltb _ _ h)

  -- So is an answer of fewer than two.
  pub short-answer : 10 ≤ length kept → length answer < 2 → too_short kept answer ≡ true
  unfolding too_short
  short-answer h g = rw (le-ltb _ _ h, lt-ltb _ _ g)

  -- Ten and two are enough.
  pub long-enough : 10 ≤ length kept → 2 ≤ length answer → too_short kept answer ≡ false
  unfolding too_short
  long-enough h g = rw (le-ltb _ _ h, le-ltb _ _ g)

  -- What a call that refuses as x says returns and leaves in both, where k is handed back and xs is the answer.
  abbrev pub Leaves : Refusal → KeptSums → List ℕ → ℕ → List ℕ → List ℕ → Type 0
  Leaves x k xs code l m =
      (code ≡ code_unless kept answer x.number)
      × (l ≡ left_unless kept answer kept (kept_written x k kept))
      × (m ≡ left_unless kept answer answer (overlay (answer_numbers x xs) answer))

  module _ (long : too_short kept answer ≡ false) (x : Refusal) (k : KeptSums) (xs : List ℕ) where
    -- Done, 0 is returned, and both are written.
    pub done-leaves : x ≡ no_refusal → {j : KeptSums} → j ≡ k → {l m : List ℕ} → l ≡ overlay (sums_numbers j.sums) kept → m ≡ overlay xs answer → Leaves x k xs 0 l m
    unfolding kept_written answer_numbers
    done-leaves e i p q = rw (long, e, ← i) (refl, p, q)

    -- Refused, its number is returned, the record stays as it came, and the answer is the refusal.
    pub refused-leaves : (n r p : ℕ) → x ≡ refusal n r p → 1 ≤ n → {m : List ℕ} → m ≡ overlay (refusal_numbers r p) answer → Leaves x k xs n kept m
    unfolding kept_written answer_numbers
    refused-leaves n r p e h q = rw (long, e, ne_eqb n 0 (λ z. omega arith)) (refl, refl, q)

    -- The same with a flow that is lent too, and what the call leaves of it.
    pub beside-flow : (f : List ℕ) {new g l m : List ℕ} {code : ℕ} → g ≡ new → Leaves x k xs code l m →
        (code ≡ code_unless kept answer x.number)
        × (g ≡ left_unless kept answer f new)
        × (l ≡ left_unless kept answer kept (kept_written x k kept))
        × (m ≡ left_unless kept answer answer (overlay (answer_numbers x xs) answer))
    beside-flow f e u = (u.0, rw long e, u.1, u.2)

    -- And with a list.
    pub beside-list : (f list : List ℕ) {new fresh g h l m : List ℕ} {code : ℕ} → g ≡ new → h ≡ fresh → Leaves x k xs code l m →
        (code ≡ code_unless kept answer x.number)
        × (g ≡ left_unless kept answer f new)
        × (h ≡ left_unless kept answer list fresh)
        × (l ≡ left_unless kept answer kept (kept_written x k kept))
        × (m ≡ left_unless kept answer answer (overlay (answer_numbers x xs) answer))
    beside-list f list e i u = (u.0, rw long e, rw long i, u.1, u.2)
