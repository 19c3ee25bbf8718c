-- The faults that remain in records, one by one: none where each passes and the last is EF, else that of the first record that has one, else 5.
use Rattle.std.specs.Prelude.{Err, None}
use Prim.Native.Nat.{ℕ, suc, ◌+◌}
use mathlib.Core.Path.{◌≡◌, refl, ap, ap₂, ◌∙◌}
use mathlib.Core.List.{List, [], ◌∷◌, ◌++◌}
use native.Mathlib.Omega.{arith}
use native.Mathlib.Decide.{ℕ_discrete}
use borrow.Author.Tests.{eq-eqb, ne_eqb}
use lib.ListN.{length}
use Rattle.text.specs.Answers.{Characters, Allowed, BadAt}
use Rattle.text.specs.Characters.{first_bad}
use Rattle.refusal.specs.Outcomes.{Outcome, Pass, Fails}
use Rattle.order.specs.Stages.{after_tail}
use Rattle.rules.specs.declared.State.{State}
use Rattle.rules.specs.Step.{next}
use Rattle.judge.specs.Plain.{state_after}
use Rattle.rebalance.specs.Rebalance.{kept_fault}
use Rattle.rebalance.proofs.AsJudged.{kept-then-stored}
use Rattle.lenient.specs.Answers.{Lenient}
use Rattle.lenient.specs.Answers as Kept
use Rattle.lenient.specs.Lenient.{or_refused, ended, lenient_from}
use Rattle.lenient.proofs.Mends.{lenient-kept}
use Rattle.mend.specs.Mending.{remaining_from}
use Rattle.mend.specs.WhenRefused.{Remains, BadCharacter, AsRebalanced, NoneRemains, FirstRemaining}

-- What is said of one record: 3 by its characters, then what the judge says of it once it is rebalanced.
pub record-says : (name : List ℕ) (st : State) (r : List ℕ) → length r ≡ 120 → Remains name st r (kept_fault name st r)
unfolding kept_fault
record-says name st r l = go (first_bad r) refl
  where
    bad : {i : ℕ} → first_bad r ≡ BadAt i → kept_fault name st r ≡ Fails 3 (i + 1)
    bad e = rw e

    go : (c : Characters) → first_bad r ≡ c → Remains name st r (kept_fault name st r)
    go (BadAt i) p = rw (bad p) (BadCharacter p)
    go Allowed p = AsRebalanced p (kept-then-stored name st r l p)

-- The records that are left, behind a state.
module _ (name : List ℕ) where
  -- They are what the lenient judgement tells where no record is known to be a misfit.
  pub remaining-lenient : (st : State) (rs : List (List ℕ)) → lenient_from name None st rs ≡ remaining_from name st rs
  unfolding lenient_from remaining_from
  remaining-lenient st [] = refl
  remaining-lenient st (r ∷ rs) = ap₂ (λ (o : Outcome) (x : Lenient). or_refused o st.seen x) (lenient-kept name st r) (remaining-lenient (next st r) rs)

  -- The judgement takes the first of them and goes on.
  from_on : (st : State) (r : List ℕ) (rs : List (List ℕ)) → remaining_from name st (r ∷ rs) ≡ or_refused (kept_fault name st r) st.seen (remaining_from name (next st r) rs)
  unfolding remaining_from
  from_on st r rs = refl

  -- Where no fault remains and the last is EF, all pass.
  pub all-remain : (st : State) (rs : List (List ℕ)) → NoneRemains name st rs → (state_after st rs).stage.phase ≡ after_tail → remaining_from name st rs ≡ Kept.Passed
  unfolding remaining_from ended state_after
  all-remain st [] h e = rw (eq-eqb _ _ e)
  all-remain st (r ∷ rs) h e = from_on st r rs ∙ rw h.0 (all-remain (next st r) rs h.1 e)

  -- Where no fault remains and the last is another record, 5 is told.
  pub none-ended : (st : State) (rs : List (List ℕ)) → NoneRemains name st rs → ((state_after st rs).stage.phase ≡ after_tail → ⊥) → remaining_from name st rs ≡ Kept.Refused 5 (st.seen + length rs + 1) 0
  unfolding remaining_from ended state_after next
  none-ended st [] h e = rw (ne_eqb _ _ e) (ap (λ (n : ℕ). Kept.Refused 5 n 0) (let z : st.seen + 1 ≡ st.seen + 0 + 1 = omega arith in z))
  none-ended st (r ∷ rs) h e =
      from_on st r rs ∙ rw h.0 (none-ended (next st r) rs h.1 e ∙ ap (λ (n : ℕ). Kept.Refused 5 n 0) (let z : st.seen + 1 + length rs + 1 ≡ st.seen + suc (length rs) + 1 = omega arith in z))

  -- Where a fault remains behind records in which none does, it is told.
  pub told-first : (st : State) (before : List (List ℕ)) (here : List ℕ) (behind : List (List ℕ)) {n p : ℕ} → NoneRemains name st before → kept_fault name (state_after st before) here ≡ Fails n p →
      remaining_from name st (before ++ (here ∷ behind)) ≡ Kept.Refused n (st.seen + (length before + 1)) p
  unfolding state_after next
  told-first st [] here behind h e = from_on st here behind ∙ rw e
  told-first st (x ∷ xs) here behind {n} {p} h e =
      from_on st x (xs ++ (here ∷ behind))
      ∙ rw h.0 (told-first (next st x) xs here behind h.1 e ∙ ap (λ (k : ℕ). Kept.Refused n k p) (let c : st.seen + 1 + (length xs + 1) ≡ st.seen + (suc (length xs) + 1) = omega arith in c))

  -- How the judgement of the records that are left ends.
  pub data Ends (st : State) (rs : List (List ℕ)) : Lenient → Type 0 where
    passing : NoneRemains name st rs → (state_after st rs).stage.phase ≡ after_tail → Ends st rs Kept.Passed
    unended : NoneRemains name st rs → ((state_after st rs).stage.phase ≡ after_tail → ⊥) → Ends st rs (Kept.Refused 5 (st.seen + length rs + 1) 0)
    failing : {n k p : ℕ} → FirstRemaining name st rs n k p → Ends st rs (Kept.Refused n (st.seen + k) p)

  -- Behind a record in which no fault remains it ends as behind those that follow.
  ends_on : (st : State) (r : List ℕ) (rs : List (List ℕ)) {x : Lenient} → kept_fault name st r ≡ Pass → Ends (next st r) rs x → Ends st (r ∷ rs) x
  unfolding next state_after
  ends_on st r rs e (passing h q) = passing (e, h) q
  ends_on st r rs e (unended h q) = rw (let z : st.seen + 1 + length rs + 1 ≡ st.seen + suc (length rs) + 1 = omega arith in z) (unended (e, h) q)
  ends_on st r rs e (failing {n} {k} {p} w) =
      rw (let z : st.seen + 1 + k ≡ st.seen + (k + 1) = omega arith in z)
      (failing {k = k + 1} (record { before = r ∷ w.before; here = w.here; behind = w.behind; split = ap (◌∷◌ r) w.split; counted = omega (arith, w.counted); passes = (e, w.passes); fails = w.fails }))

  -- Where nothing is left, it ends by the last record.
  ends-empty : (st : State) → Ends st [] (remaining_from name st [])
  unfolding state_after
  ends-empty st = go (ℕ_discrete st.stage.phase after_tail)
    where
      go : Dec (st.stage.phase ≡ after_tail) → Ends st [] (remaining_from name st [])
      go (yes e) = rw (all-remain st [] tt e) (passing tt e)
      go (no e) = rw (none-ended st [] tt e) (unended tt e)

  -- One of them is so.
  pub ends : (st : State) (rs : List (List ℕ)) → Ends st rs (remaining_from name st rs)
  unfolding state_after
  ends st [] = ends-empty st
  ends st (r ∷ rs) = rw (from_on st r rs) (go (kept_fault name st r) refl (ends (next st r) rs))
    where
      go : (o : Outcome) → kept_fault name st r ≡ o → Ends (next st r) rs (remaining_from name (next st r) rs) → Ends st (r ∷ rs) (or_refused o st.seen (remaining_from name (next st r) rs))
      go Pass e i = ends_on st r rs e i
      go (Err why) e i = failing (record { before = []; here = r; behind = rs; split = refl; counted = refl; passes = tt; fails = e })
