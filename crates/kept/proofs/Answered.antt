-- What each call with a record is answered, and when: its judgement's own refusal, 29, or what the plain call is answered; it is done exactly where the plain call is and the record is the flow's.
use Prim.Native.Nat.{ℕ, ◌≤◌}
use mathlib.Core.Path.{◌≡◌, refl}
use mathlib.Core.List.{List}
use mathlib.Core.Logic.{◌↔◌}
use native.Mathlib.Omega.{arith}
use Rattle.judge.specs.Refusal.{refusal_of}
use Rattle.judge.specs.Flow.{judged}
use Rattle.correct.specs.Answers.{Correction}
use Rattle.correct.specs.Answers as Correct
use Rattle.correct.specs.Correction.{refusal_made, correction_of}
use Rattle.correct.proofs.Refusals as Corrected
use Rattle.mend.specs.Answers.{Mending}
use Rattle.mend.specs.Answers as Mend
use Rattle.mend.specs.Mending.{refusal_mended, remaining, mending_of}
use Rattle.mend.proofs.Answered as Rebalanced
use Rattle.dropping.specs.Answers.{Dropping}
use Rattle.dropping.specs.Answers as Drop
use Rattle.dropping.specs.Dropping.{refusal_dropped, dropping_of}
use Rattle.dropping.proofs.Refusals as Shortened
use Rattle.sums.specs.declared.KeptSums.{KeptSums}
use Rattle.sums.specs.LineSums.{kept_of}
use Rattle.kept.specs.Keeping.{correction_with, mending_with, dropping_with}
use Rattle.kept.specs.WhenRefused.{refusal_lenient, Answers}
use Rattle.kept.proofs.Guarded.{guarded-exactly, guarded-done, guarded-number}
use Rattle.kept.proofs.Calls.{correction-guarded, mending-guarded, dropping-guarded}

module _ (k : KeptSums) (f : List ℕ) where
  -- A correction: "after the judgement's own refusals and before all others".
  module _ (d subtype n x y : ℕ) where
    pub correction-answered : (a : Correction) → (correction_with k f d subtype n x y ≡ a) ↔ Answers Correct.Refused (correction_of f d subtype n x y) (refusal_of (judged f).verdict) k f a
    correction-answered = guarded-exactly (correction-guarded k f d subtype n x y)

    -- "where one is taken, demand 3 asks besides that its sums match"
    pub correction-done : (correction_with k f d subtype n x y ≡ Correct.Made) ↔ ((correction_of f d subtype n x y ≡ Correct.Made) × (k ≡ kept_of f))
    correction-done = guarded-done (correction-guarded k f d subtype n x y) Correct.Made (λ m r p q. let z : ◌≡◌ {A = ℕ} 0 1 = cc in absurd (omega arith))

    pub correction-number : {m r p : ℕ} → correction_with k f d subtype n x y ≡ Correct.Refused m r p → 1 ≤ m
    correction-number e = guarded-number (correction-guarded k f d subtype n x y) refusal_made (λ m r p. refl) (λ m r p q. Corrected.correction-number f d subtype n x y q) _ _ _ e

  -- A rebalancing, by the fault that remains.
  module _ (list : List ℕ) where
    pub mending-answered : (a : Mending) → (mending_with k f list ≡ a) ↔ Answers Mend.Refused (mending_of f list) (refusal_lenient (remaining f)) k f a
    mending-answered = guarded-exactly (mending-guarded k f list)

    pub mending-done : (m : ℕ) → (mending_with k f list ≡ Mend.Mended m) ↔ ((mending_of f list ≡ Mend.Mended m) × (k ≡ kept_of f))
    mending-done m = guarded-done (mending-guarded k f list) (Mend.Mended m) (λ m r p q. let z : ◌≡◌ {A = ℕ} 0 1 = cc in absurd (omega arith))

    pub mending-number : {m r p : ℕ} → mending_with k f list ≡ Mend.Refused m r p → 1 ≤ m
    mending-number e = guarded-number (mending-guarded k f list) refusal_mended (λ m r p. refl) (λ m r p q. Rebalanced.mending-number f list q) _ _ _ e

  -- A dropping.
  module _ (numbers : List ℕ) where
    pub dropping-answered : (a : Dropping) → (dropping_with k f numbers ≡ a) ↔ Answers Drop.Refused (dropping_of f numbers) (refusal_of (judged f).verdict) k f a
    dropping-answered = guarded-exactly (dropping-guarded k f numbers)

    pub dropping-done : (m : ℕ) → (dropping_with k f numbers ≡ Drop.Dropped m) ↔ ((dropping_of f numbers ≡ Drop.Dropped m) × (k ≡ kept_of f))
    dropping-done m = guarded-done (dropping-guarded k f numbers) (Drop.Dropped m) (λ m r p q. let z : ◌≡◌ {A = ℕ} 0 1 = cc in absurd (omega arith))

    pub dropping-number : {m r p : ℕ} → dropping_with k f numbers ≡ Drop.Refused m r p → 1 ≤ m
    dropping-number e = guarded-number (dropping-guarded k f numbers) refusal_dropped (λ m r p. refl) (λ m r p q. Shortened.dropping-number f numbers q) _ _ _ e
