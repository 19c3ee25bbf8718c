-- "29 for such a call": 29 is told exactly where the flow passes the call's own judgement and the record is not the flow's; otherwise answer, bytes and list are the plain call's.
use Rattle.std.specs.Prelude.{Err}
use Prim.Native.Nat.{ℕ}
use mathlib.Core.Path.{◌≡◌, refl, ap, ◌∙◌}
use mathlib.Core.Bool.{false≢true}
use mathlib.Core.List.{List}
use mathlib.Core.Logic.{◌↔◌}
use native.Mathlib.Omega.{arith}
use lib.ListN.{length}
use Rattle.text.specs.Among.{among}
use Rattle.judge.specs.Refusal.{Accepted}
use Rattle.refusal.specs.declared.Refusal.{Refusal}
use Rattle.refusal.specs.Refusals.{refusal}
use Rattle.judge.specs.Flow.{judged}
use Rattle.judge.proofs.FirstFault.{judgement-number, accepted-has-none}
use Rattle.lenient.specs.Answers.{Lenient}
use Rattle.lenient.specs.Answers as Leniently
use Rattle.correct.specs.Answers.{Correction}
use Rattle.correct.specs.Answers as Correct
use Rattle.correct.specs.Correction.{refusal_made, correction_of, corrected_bytes}
use Rattle.correct.specs.WhenRefused as Why
use Rattle.correct.proofs.Answered as Corrected
use Rattle.mend.specs.Answers.{Mending}
use Rattle.mend.specs.Answers as Mend
use Rattle.mend.specs.Mending.{refusal_mended, remaining, unless, weighed, mending_of, mended_flow, mended_list}
use Rattle.mend.proofs.Answered.{mending-numbers}
use Rattle.dropping.specs.Answers.{Dropping}
use Rattle.dropping.specs.Answers as Drop
use Rattle.dropping.specs.Dropping.{refusal_dropped, dropping_of, dropped_flow}
use Rattle.dropping.specs.WhenRefused as Whence
use Rattle.dropping.proofs.Answered as Dropped
use Rattle.sums.specs.declared.KeptSums.{KeptSums}
use Rattle.sums.specs.LineSums.{kept_of}
use Rattle.kept.specs.Keeping.{correction_with, corrected_with, mending_with, mended_with, listed_with, dropping_with, dropped_with}
use Rattle.kept.specs.WhenRefused.{refusal_lenient}
use Rattle.kept.proofs.Guarded.{guarded-29, guarded-else}
use Rattle.kept.proofs.Calls.{strict, strict-is, lenient, lenient-is, lenient-none, correction-guarded, mending-guarded, dropping-guarded}
use Rattle.kept.proofs.HandedBack.{correction-as-plain, mending-as-plain, dropping-as-plain}

-- A refusal with this number is none.
number-0 : {x : Refusal} → x.number ≡ 0 → x ≡ refusal 29 0 0 → ⊥
number-0 z q = omega (arith, ap (λ (y : Refusal). y.number) q)

-- No judgement tells 29.
strict-never : (f : List ℕ) → strict f ≡ refusal 29 0 0 → ⊥
strict-never f q =
    let n : (strict f).number ≡ 29 = ap (λ (y : Refusal). y.number) q in
    omega (arith, (judgement-number f (strict-is f (omega arith))).1 (omega arith))

module _ (k : KeptSums) (f : List ℕ) where
  -- Corrections.
  module _ (d subtype n x y : ℕ) where
    correction-never : refusal_made (correction_of f d subtype n x y) ≡ refusal 29 0 0 → ⊥
    correction-never = go (correction_of f d subtype n x y) refl
      where
        why : {m r p : ℕ} → Why.Answers f d subtype n x y (Correct.Refused m r p) → m ≡ 29 → ⊥
        why (Why.AsFlow e) z = omega (arith, (judgement-number f e).1 (omega arith))
        why (Why.NoLine a h) z = omega arith
        why (Why.TooLarge t l) z = omega arith
        why (Why.WrongLine t e) z = omega arith
        why (Why.TurnsNegative t h) z = omega arith
        why (Why.HasNoRoom t o) z = omega arith

        go : (a : Correction) → correction_of f d subtype n x y ≡ a → refusal_made a ≡ refusal 29 0 0 → ⊥
        go Correct.Made e q = number-0 refl q
        go (Err said) e q = why ((Corrected.answered-exactly f d subtype n x y _).0 e) (ap (λ (t : Refusal). t.number) q)

    pub correction-29 : (refusal_made (correction_with k f d subtype n x y) ≡ refusal 29 0 0) ↔ (((judged f).verdict ≡ Accepted) × (k ≡ kept_of f → ⊥))
    correction-29 =
        let w = guarded-29 (correction-guarded k f d subtype n x y) refusal_made (λ m r p. refl) correction-never (strict-never f) in
        (λ q. let u = w.0 q in ((accepted-has-none f).0 u.0, u.1), λ u. w.1 ((accepted-has-none f).1 u.0, u.1))

    pub correction-else : (refusal_made (correction_with k f d subtype n x y) ≡ refusal 29 0 0 → ⊥) → (correction_with k f d subtype n x y ≡ correction_of f d subtype n x y) × (corrected_with k f d subtype n x y ≡ corrected_bytes f d subtype n x y)
    correction-else never = correction-as-plain k f d subtype n x y (guarded-else (correction-guarded k f d subtype n x y) refusal_made (λ m r p. refl) never)

  -- Rebalancings.
  module _ (list : List ℕ) where
    mending-never : refusal_mended (mending_of f list) ≡ refusal 29 0 0 → ⊥
    unfolding among
    mending-never = go (mending_of f list) refl
      where
        go : (a : Mending) → mending_of f list ≡ a → refusal_mended a ≡ refusal 29 0 0 → ⊥
        go (Mend.Mended m) e q = number-0 refl q
        go (Err why) e q =
            let z : why.number ≡ 29 = ap (λ (t : Refusal). t.number) q in
            false≢true (rw z at (mending-numbers f list e))

    lenient-never : lenient f ≡ refusal 29 0 0 → ⊥
    unfolding mending_of
    lenient-never q =
        let n : (lenient f).number ≡ 29 = ap (λ (y : Refusal). y.number) q in
        mending-never (ap (λ (v : Lenient). refusal_mended (unless v (weighed (length list) f))) (lenient-is f (omega arith)) ∙ q)

    pub mending-29 : (refusal_mended (mending_with k f list) ≡ refusal 29 0 0) ↔ ((remaining f ≡ Leniently.Passed) × (k ≡ kept_of f → ⊥))
    mending-29 =
        let w = guarded-29 (mending-guarded k f list) refusal_mended (λ m r p. refl) mending-never lenient-never in
        (λ q. let u = w.0 q in (lenient-none f u.0, u.1), λ u. w.1 (ap refusal_lenient u.0, u.1))

    pub mending-else : (refusal_mended (mending_with k f list) ≡ refusal 29 0 0 → ⊥) → (mending_with k f list ≡ mending_of f list) × (mended_with k f list ≡ mended_flow f list) × (listed_with k f list ≡ mended_list f list)
    mending-else never = mending-as-plain k f list (guarded-else (mending-guarded k f list) refusal_mended (λ m r p. refl) never)

  -- Droppings.
  module _ (numbers : List ℕ) where
    dropping-never : refusal_dropped (dropping_of f numbers) ≡ refusal 29 0 0 → ⊥
    dropping-never = go (dropping_of f numbers) refl
      where
        why : {m r p : ℕ} → Whence.Answers f numbers (Drop.Refused m r p) → m ≡ 29 → ⊥
        why (Whence.NotAccepted e) z = omega (arith, (judgement-number f e).1 (omega arith))
        why (Whence.BadList a h) z = omega arith
        why (Whence.NoneLeft g h) z = omega arith

        go : (a : Dropping) → dropping_of f numbers ≡ a → refusal_dropped a ≡ refusal 29 0 0 → ⊥
        go (Drop.Dropped m) e q = number-0 refl q
        go (Err said) e q = why ((Dropped.answered-exactly f numbers _).0 e) (ap (λ (t : Refusal). t.number) q)

    pub dropping-29 : (refusal_dropped (dropping_with k f numbers) ≡ refusal 29 0 0) ↔ (((judged f).verdict ≡ Accepted) × (k ≡ kept_of f → ⊥))
    dropping-29 =
        let w = guarded-29 (dropping-guarded k f numbers) refusal_dropped (λ m r p. refl) dropping-never (strict-never f) in
        (λ q. let u = w.0 q in ((accepted-has-none f).0 u.0, u.1), λ u. w.1 ((accepted-has-none f).1 u.0, u.1))

    pub dropping-else : (refusal_dropped (dropping_with k f numbers) ≡ refusal 29 0 0 → ⊥) → (dropping_with k f numbers ≡ dropping_of f numbers) × (dropped_with k f numbers ≡ dropped_flow f numbers)
    dropping-else never = dropping-as-plain k f numbers (guarded-else (dropping-guarded k f numbers) refusal_dropped (λ m r p. refl) never)
