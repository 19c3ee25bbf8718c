-- What is answered to a flow and a list, and when: one way for each answer, and the answer for each way.
use Prim.Native.Nat.{ℕ, zero, suc, ◌+◌, ◌*◌, ◌/◌, ◌%◌, ◌<◌, ◌≤◌}
use mathlib.Core.Path.{◌≡◌, refl, sym, ap, ◌∙◌}
use mathlib.Core.Bool.{Bool, true, false, cond, false≢true}
use mathlib.Core.List.{List}
use mathlib.Core.Logic.{inl, inr, ⊎_elim, ◌↔◌}
use native.Mathlib.Omega.{arith}
use native.Mathlib.Decide.{ℕ_discrete, dec_lt}
use borrow.Author.Tests.{lt-ltb, le-ltb}
use lib.ListN.{length}
use Rattle.text.specs.Among.{among}
use Rattle.refusal.specs.Outcomes.{Fails}
use Rattle.rules.specs.declared.State.{State}
use Rattle.rules.specs.State.{start_state}
use Rattle.judge.specs.Flow.{records_of, head_name_of}
use Rattle.judge.specs.Plain.{Whole, state_after}
use Rattle.judge.proofs.OwnNumbers.{In, in-fault, in-more}
use Rattle.rebalance.specs.Rebalance.{all_fit}
use Rattle.rebalance.proofs.KeptNumbers.{kept_in, last-in}
use Rattle.lenient.specs.Answers.{Lenient}
use Rattle.lenient.specs.Answers as Kept
use Rattle.changes.specs.Changes.{changes_of}
use Rattle.mend.specs.Answers.{Mending, Refused}
use Rattle.mend.specs.Mending.{refusal_mended, remaining_from, remaining, listed_in, weighed, unless, mending_of}
use Rattle.mend.specs.WhenRefused.{FirstRemaining, Mends, remaining_numbers, mending_numbers, Answers, TooLong, NotWhole, FaultAt, NoTail, NoFit, ShortList, IsRebalanced}
use Rattle.mend.proofs.Answering.{remaining-long, remaining-none, remaining-ragged, remaining-records}
use Rattle.mend.proofs.Remaining.{all-remain, none-ended, told-first, Ends, passing, unended, failing, ends}

-- A fault that remains in a record has one of these numbers.
pub remaining-in : {name : List ℕ} {st : State} {rs : List (List ℕ)} {n k p : ℕ} → FirstRemaining name st rs n k p → In remaining_numbers (Fails n p)
remaining-in {name} {st} t = rw (← t.fails) (kept_in _ name (state_after st t.before) t.here (last-in name (state_after st t.before) t.here))

-- A flow and a list.
module _ (f list : List ℕ) where
  -- The answer by what remains, and behind it by whether the values fit and how many fields change.
  remains-is : {x : Lenient} → remaining f ≡ x → mending_of f list ≡ unless x (weighed (length list) f)
  unfolding mending_of
  remains-is e = ap (λ (y : Lenient). unless y (weighed (length list) f)) e

  weighed-is : {b : Bool} → all_fit start_state (records_of f) ≡ b → weighed (length list) f ≡ cond b (listed_in (length list) (length (changes_of f))) (Refused 23 0 0)
  unfolding weighed
  weighed-is e = rw e

  -- A flow of whole records is judged leniently.
  whole_is : Whole f → remaining f ≡ remaining_from (head_name_of f) start_state (records_of f)
  whole_is w = remaining-records f w.short (λ e. omega (arith, w.some)) w.even

  mends-is : Mends f → remaining f ≡ Kept.Passed
  mends-is m = whole_is m.whole ∙ all-remain (head_name_of f) start_state (records_of f) m.passes m.ended

  -- Each way has its answer.
  pub answer-of : {m : Mending} → Answers f list m → mending_of f list ≡ m
  unfolding start_state
  answer-of (TooLong h) = remains-is (remaining-long f h)
  answer-of (NotWhole h d) = remains-is (go (ℕ_discrete (length f) 0))
    where
      go : Dec (length f ≡ 0) → remaining f ≡ Kept.Refused 2 0 0
      go (yes e) = remaining-none f h e
      go (no e) = remaining-ragged f h e (⊎_elim (λ z q. e z) (λ z q. z q) d)
  answer-of (FaultAt {n} {k} {p} w t) =
      remains-is (whole_is w
      ∙ (ap (remaining_from (head_name_of f) start_state) t.split
      ∙ (told-first (head_name_of f) start_state t.before t.here t.behind t.passes t.fails ∙ ap (λ (j : ℕ). Kept.Refused n j p) (let e : 0 + (length t.before + 1) ≡ k = omega (arith, t.counted) in e))))
  answer-of (NoTail w h e) =
      remains-is (whole_is w ∙ (none-ended (head_name_of f) start_state (records_of f) h e ∙ ap (λ (j : ℕ). Kept.Refused 5 j 0) (let z : 0 + length (records_of f) + 1 ≡ length (records_of f) + 1 = omega arith in z)))
  answer-of (NoFit m e) = remains-is (mends-is m) ∙ weighed-is e
  answer-of (ShortList m e h) = remains-is (mends-is m) ∙ (weighed-is e ∙ rw (lt-ltb (length list / 2) (length (changes_of f)) (omega arith)))
  answer-of (IsRebalanced m e h) = remains-is (mends-is m) ∙ (weighed-is e ∙ rw (le-ltb (length list / 2) (length (changes_of f)) (omega arith)))

  -- One of them is so.
  fits-way : Mends f → (b : Bool) → all_fit start_state (records_of f) ≡ b → (m : Mending) × Answers f list m
  fits-way m false e = (_, NoFit m e)
  fits-way m true e = go (dec_lt (length list) (2 * length (changes_of f)))
    where
      go : Dec (length list < 2 * length (changes_of f)) → (x : Mending) × Answers f list x
      go (yes h) = (_, ShortList m e h)
      go (no h) = (_, IsRebalanced m e (omega arith))

  ends-way : {x : Lenient} → Whole f → Ends (head_name_of f) start_state (records_of f) x → (m : Mending) × Answers f list m
  unfolding start_state
  ends-way w (passing h e) = fits-way (record { whole = w; passes = h; ended = e }) _ refl
  ends-way w (unended h e) = (_, NoTail w h e)
  ends-way w (failing {n} {k} {p} t) = (_, FaultAt w t)

  some-way : (m : Mending) × Answers f list m
  some-way = by_length (dec_lt 65520 (length f)) (ℕ_discrete (length f) 0) (ℕ_discrete (length f % 120) 0)
    where
      by_length : Dec (65520 < length f) → Dec (length f ≡ 0) → Dec (length f % 120 ≡ 0) → (m : Mending) × Answers f list m
      by_length (yes h) y z = (_, TooLong h)
      by_length (no h) (yes e) z = (_, NotWhole (omega arith) (inl e))
      by_length (no h) (no e) (no g) = (_, NotWhole (omega arith) (inr g))
      by_length (no h) (no e) (yes g) = ends-way (record { short = omega arith; some = omega arith; even = g }) (ends (head_name_of f) start_state (records_of f))

  -- "Refusals ..: the first remaining fault of 01's checks, then 23, then 27": an answer is given exactly where this says so.
  pub answered-exactly : (m : Mending) → (mending_of f list ≡ m) ↔ Answers f list m
  answered-exactly m = (λ e. rw (sym e ∙ answer-of some-way.1) some-way.1, answer-of)

  -- A refusal has one of the numbers that can remain, and none of 10 to 13, 15 and 18 to 20.
  pub mending-numbers : {n r p : ℕ} → mending_of f list ≡ Refused n r p → among n mending_numbers ≡ true
  unfolding among
  mending-numbers {n} {r} {p} e = numbered ((answered-exactly (Refused n r p)).0 e) refl
    where
      number : {m k j : ℕ} → Refused m k j ≡ Refused n r p → n ≡ m
      number c = sym (ap (λ (y : Mending). (refusal_mended y).number) c)

      numbered : {x : Mending} → Answers f list x → x ≡ Refused n r p → among n mending_numbers ≡ true
      numbered (TooLong h) c = rw (number c)
      numbered (NotWhole h d) c = rw (number c)
      numbered (FaultAt w t) c = rw (number c) (in-fault (in-more 1 (in-more 2 (in-more 5 (in-more 23 (in-more 27 (remaining-in t)))))))
      numbered (NoTail w h g) c = rw (number c)
      numbered (NoFit m g) c = rw (number c)
      numbered (ShortList m g h) c = rw (number c)
      numbered (IsRebalanced m g h) c = let z : ◌≡◌ {A = ℕ} 0 1 = cc in absurd (omega arith)

  -- None of these is 0.
  pub mending-number : {n r p : ℕ} → mending_of f list ≡ Refused n r p → 1 ≤ n
  unfolding among
  mending-number {n} e = some n (mending-numbers e)
    where
      some : (m : ℕ) → among m mending_numbers ≡ true → 1 ≤ m
      some zero h = absurd (false≢true h)
      some (suc m) h = omega arith
