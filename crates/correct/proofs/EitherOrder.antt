-- "Two clerks, two lines" (02, ask 13): both orders made, the ends agree byte for byte; of an order whose other way round is made only the first call can be refused.
use Rattle.std.specs.Prelude.{Err}
use Prim.Native.Nat.{ℕ, ◌%◌, ◌≤◌}
use mathlib.Core.Path.{◌≡◌, refl, sym, ap, ◌∙◌}
use mathlib.Core.Bool.{true, true≢false}
use mathlib.Core.List.{List, [], ◌∷◌}
use mathlib.Core.Logic.{◌⊎◌, inl, inr}
use native.Mathlib.Omega.{arith}
use lib.ListN.{length}
use Rattle.amounts.specs.Amounts.{line_right}
use Rattle.judge.specs.declared.Judgement.{Judgement}
use Rattle.rebalance.specs.Rebalance.{refreshed}
use Rattle.correct.specs.Answers.{Correction, Made, Refused}
use Rattle.correct.specs.Correction.{section_of, weighed}
use Rattle.correct.specs.Effect.{Call, answer_to, after, AllMade, Different, Swap}
use Rattle.correct.specs.WhenRefused.{Answers, AsFlow, NoLine, TooLarge, WrongLine, TurnsNegative, HasNoRoom, IsMade}
use Rattle.correct.proofs.Split.{has-line}
use Rattle.correct.proofs.Answered.{weighed-is, answered-exactly}
use Rattle.correct.proofs.Conditions.{refused-untouched}
use Rattle.correct.proofs.StaysAccepted.{accepted-whole, refreshed-accepted}
use Rattle.correct.proofs.Afterwards.{correct-again}
use Rattle.correct.proofs.Calls.{with_call, Passes, call_passes, call-end, call-found, call-whole, call_line, call-weighed, calls-commute, names_apart, There, series-end}
use Rattle.correct.proofs.AnyOrder.{any_order}

-- Behind a call that is made, another whose line is there and whose amounts the line may carry is answered by 14 and 23 of the flow with the amounts of both.
second-weighs : (f : List ℕ) (a b : Call) → answer_to f a ≡ Made → There f b → b.debit ≤ 999_999_999_999_999 → b.credit ≤ 999_999_999_999_999 → line_right (section_of b.subtype) b.debit b.credit ≡ true →
    answer_to (after (a ∷ []) f) b ≡ weighed (with_call (with_call f a) b)
second-weighs f a b made there x y right =
    let m = call_passes f a made in
    let w : length f % 120 ≡ 0 = (accepted-whole f m.accepted).even in
    let v = call-whole f w a m.found in
    let i : There (with_call f a) b = λ z. there (sym (call_line f w a m.found b) ∙ z) in
    let acc = ap (λ (j : Judgement). j.verdict) (refreshed-accepted f a.delega a.subtype a.nth a.debit a.credit m) in
    let h = has-line (refreshed (with_call f a)) b.delega b.subtype b.nth acc (λ z. i (sym (call-found (with_call f a) v b) ∙ z)) in
    ap (λ (g : List ℕ). answer_to g b) (call-end f a made) ∙ (weighed-is (refreshed (with_call f a)) b.delega b.subtype b.nth b.debit b.credit acc h x y right ∙ call-weighed (with_call f a) v b i)

-- The amounts of two calls that name different lines may be replaced in either order.
both-same : (f : List ℕ) (a b : Call) → Different a b → answer_to f a ≡ Made → There f b → with_call (with_call f a) b ≡ with_call (with_call f b) a
both-same f a b different made there =
    let m = call_passes f a made in
    calls-commute f (accepted-whole f m.accepted).even a b m.found there (names_apart f m.accepted a b there different)

-- Where each is made by itself, the second call is answered the same in both orders.
pub second-same : (f : List ℕ) (a b : Call) → Different a b → answer_to f a ≡ Made → answer_to f b ≡ Made → answer_to (after (a ∷ []) f) b ≡ answer_to (after (b ∷ []) f) a
second-same f a b different one other =
    let i = call_passes f a one in
    let j = call_passes f b other in
    second-weighs f a b one j.found j.debit-fits j.credit-fits j.right
    ∙ (ap weighed (both-same f a b different one j.found) ∙ sym (second-weighs f b a other i.found i.debit-fits i.credit-fits i.right))

-- "if both corrections are made in either order, and none is refused in either, the two ends agree byte for byte"
pub either_order : (f : List ℕ) (a b : Call) → Different a b → answer_to f a ≡ Made → answer_to (after (a ∷ []) f) b ≡ Made → answer_to f b ≡ Made → answer_to (after (b ∷ []) f) a ≡ Made →
    after (a ∷ b ∷ []) f ≡ after (b ∷ a ∷ []) f
either_order f a b different one then other turned = any_order f (call_passes f a one).accepted (a ∷ b ∷ []) (b ∷ a ∷ []) (Swap a b []) ((different, tt), (tt, tt)) (one, (then, tt)) (other, (turned, tt))

-- One order is made.
module _ (f : List ℕ) (a b : Call) (different : Different a b) (made : AllMade f (a ∷ b ∷ [])) where
  -- The other is made as well, where its first call is.
  pub other-order-made : answer_to f b ≡ Made → AllMade f (b ∷ a ∷ [])
  other-order-made first = (first, (sym (second-same f a b different made.0 first) ∙ made.1.0, tt))

  -- Its second call is made in any case.
  pub other-order-second : answer_to (after (b ∷ []) f) a ≡ Made
  unfolding after
  other-order-second = go (answer_to f b) refl
    where
      go : (c : Correction) → answer_to f b ≡ c → answer_to (after (b ∷ []) f) a ≡ Made
      go Made e = (other-order-made e).1.0
      go (Err why) e = ap (λ (g : List ℕ). answer_to g a) (refused-untouched f b.delega b.subtype b.nth b.debit b.credit e) ∙ made.0

  -- "One order may be refused where the other isn't": that call is made, or refused 14 or 23.
  pub other-order-first : (answer_to f b ≡ Made) ⊎ ((answer_to f b ≡ Refused 14 0 0) ⊎ (answer_to f b ≡ Refused 23 0 0))
  other-order-first = go (answer_to f b) refl ((answered-exactly f b.delega b.subtype b.nth b.debit b.credit (answer_to f b)).0 refl)
    where
      may : Passes (after (a ∷ []) f) b
      may = call_passes (after (a ∷ []) f) b made.1.0

      there : There f b
      there = (series-end (a ∷ b ∷ []) f (call_passes f a made.0).accepted made).0.1.0

      go : (c : Correction) → answer_to f b ≡ c → Answers f b.delega b.subtype b.nth b.debit b.credit c → (answer_to f b ≡ Made) ⊎ ((answer_to f b ≡ Refused 14 0 0) ⊎ (answer_to f b ≡ Refused 23 0 0))
      go c e (AsFlow j) = let k = (call_passes f a made.0).accepted in let z : ◌≡◌ {A = ℕ} 0 1 = cc in absurd (omega arith)
      go c e (NoLine j h) = absurd (h (has-line f b.delega b.subtype b.nth j there))
      go c e (TooLarge j (inl l)) = absurd (omega (arith, may.debit-fits))
      go c e (TooLarge j (inr l)) = absurd (omega (arith, may.credit-fits))
      go c e (WrongLine j r) = absurd (true≢false (sym may.right ∙ r))
      go c e (TurnsNegative j r) = inr (inl e)
      go c e (HasNoRoom j r) = inr (inr e)
      go c e (IsMade j) = inl e

  -- The clerk whose turn is second in it calls first, and once more behind the other: the end is the same, whether the first of these calls was made or refused.
  pub called-again : after (b ∷ a ∷ b ∷ []) f ≡ after (a ∷ b ∷ []) f
  unfolding after
  called-again = go (answer_to f b) refl
    where
      go : (c : Correction) → answer_to f b ≡ c → after (b ∷ a ∷ b ∷ []) f ≡ after (a ∷ b ∷ []) f
      go Made e =
          ap (after (b ∷ [])) (sym (either_order f a b different made.0 made.1.0 e (other-order-made e).1.0))
          ∙ (correct-again (after (a ∷ []) f) b.delega b.subtype b.nth b.debit b.credit made.1.0).1
      go (Err why) e = ap (after (a ∷ b ∷ [])) (refused-untouched f b.delega b.subtype b.nth b.debit b.credit e)
