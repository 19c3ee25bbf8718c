-- What is returned and what stands in a room, by its length.
use Rattle.std.specs.Prelude.{Result, Ok, Err}
use Prim.Native.Nat.{ℕ, ◌<◌, ◌≤◌}
use mathlib.Core.Path.{◌≡◌, refl}
use mathlib.Core.List.{List, [], ◌∷◌}
use borrow.Author.Tests.{lt-ltb, le-ltb, ne_eqb}
use native.Mathlib.Omega.{arith}
use lib.ListN.{length}
use Rattle.state.specs.Numbers.{overlay}
use Rattle.judge.specs.Refusal.{Verdict, Accepted, refusal_of}
use Rattle.refusal.specs.declared.Refusal.{Refusal}
use Rattle.refusal.specs.Refusals.{refusal, no_refusal}
use Rattle.answers.specs.Numbers.{refusal_numbers, answer_code, number_or_refusal}
use Rattle.f24.specs.Linked.{code_or, room_or, answer_numbers}

-- Nothing laid over a room leaves it as it came.
pub overlay-none : (room : List ℕ) → overlay [] room ≡ room
unfolding overlay
overlay-none room = refl

module _ {n : ℕ} (room : List ℕ) where
  -- A room that is too short returns 100.
  pub short-code : (code : ℕ) → length room < n → 100 ≡ code_or n room code
  unfolding code_or
  short-code code h = rw (lt-ltb (length room) n h)

  -- It is left as it came.
  pub short-room : (xs : List ℕ) → length room < n → room ≡ room_or n room xs
  unfolding room_or
  short-room xs h = rw (lt-ltb (length room) n h)

  -- A room that is long enough returns the answer's code.
  pub long-code : {code c : ℕ} → n ≤ length room → c ≡ code → c ≡ code_or n room code
  unfolding code_or
  long-code h p = rw (le-ltb (length room) n h) p

  -- It holds the answer's numbers.
  pub long-room : (xs : List ℕ) {l : List ℕ} → n ≤ length room → l ≡ overlay xs room → l ≡ room_or n room xs
  unfolding room_or
  long-room xs h p = rw (le-ltb (length room) n h) p

  -- An answer that is no refusal is written as its own numbers.
  pub answer-room : (xs : List ℕ) {l : List ℕ} → n ≤ length room → l ≡ overlay xs room → l ≡ room_or n room (answer_numbers no_refusal xs)
  unfolding answer_numbers
  answer-room xs h p = long-room xs h p

  -- So it is where a verdict says that there is none.
  pub accepted-room : (v : Verdict) (xs : List ℕ) {l : List ℕ} → v ≡ Accepted → n ≤ length room → l ≡ overlay xs room → l ≡ room_or n room (answer_numbers (refusal_of v) xs)
  accepted-room v xs e h p = rw e (answer-room xs h p)

  -- A refusal, whose number is not 0, is written as its record and its position.
  pub refused-room : (xs : List ℕ) (m r p : ℕ) {l : List ℕ} → 1 ≤ m → n ≤ length room → l ≡ overlay (refusal_numbers r p) room → l ≡ room_or n room (answer_numbers (refusal m r p) xs)
  unfolding answer_numbers
  refused-room xs m r p z h e = long-room _ h (rw (ne_eqb m 0 (λ q. omega arith)) e)

-- What a call that answers a number returns and leaves, where x is the refusal of its answer and own what that writes itself.
pub number-answered : {n : ℕ} (room : List ℕ) (x : Result ℕ Refusal → Refusal) (own : Result ℕ Refusal → List ℕ) →
    ((k : ℕ) → (x (Ok k) ≡ no_refusal) × (own (Ok k) ≡ k ∷ [])) → ((why : Refusal) → x (Err why) ≡ why) →
    (a : Result ℕ Refusal) → ((why : Refusal) → a ≡ Err why → 1 ≤ why.number) → n ≤ length room →
    {c : ℕ} {l : List ℕ} → c ≡ answer_code a → l ≡ overlay (number_or_refusal a) room → (c ≡ code_or n room (x a).number) × (l ≡ room_or n room (answer_numbers (x a) (own a)))
number-answered room x own done refused (Ok k) positive h p q = (long-code room h (rw ((done k).0) p), rw ((done k).0, (done k).1) (answer-room room _ h q))
number-answered room x own done refused (Err why) positive h p q = (long-code room h (rw (refused why) p), rw (refused why) (refused-room room _ _ _ _ (positive why refl) h q))
