-- What each call leaves: with the flow's own record all is as the plain call leaves it and the record handed back is the flow's; a refusal leaves all as it came.
use Rattle.std.specs.Prelude.{Err}
use Prim.Native.Nat.{ℕ}
use mathlib.Core.Path.{◌≡◌, refl, sym, ap, ◌∙◌}
use mathlib.Core.List.{List}
use lib.ListN.{take}
use Rattle.amounts.specs.declared.Sums.{Sums}
use Rattle.judge.specs.declared.Summary.{Summary}
use Rattle.judge.specs.Refusal as Judge
use Rattle.judge.specs.Refusal.{Accepted}
use Rattle.judge.specs.Flow.{judged}
use Rattle.judge.specs.Plain.{zeros}
use Rattle.judge.proofs.Zeros.{refused-zeros}
use Rattle.correct.specs.Answers.{Correction}
use Rattle.correct.specs.Answers as Correct
use Rattle.correct.specs.Correction.{correction_of, corrected_bytes}
use Rattle.correct.proofs.Conditions.{refused-untouched}
use Rattle.mend.specs.Answers.{Mending}
use Rattle.mend.specs.Answers as Mend
use Rattle.mend.specs.Mending.{mending_of, mended_flow, mended_list}
use Rattle.mend.proofs.MendedFlow as Rebalanced
use Rattle.dropping.specs.Answers.{Dropping}
use Rattle.dropping.specs.Answers as Drop
use Rattle.dropping.specs.Dropping.{dropping_of, dropped_flow}
use Rattle.dropping.proofs.Dropped as Shortened
use Rattle.sums.specs.declared.KeptSums.{KeptSums}
use Rattle.sums.specs.LineSums.{kept_of}
use Rattle.sums.proofs.Adding.{accepted-sums}
use Rattle.sums.proofs.Equality.{stands-exactly}
use Rattle.kept.specs.Answers.{CorrectionKept, MendingKept, DroppingKept}
use Rattle.kept.specs.Keeping.{keeping, correction_with, corrected_with, correction_kept, mending_with, mended_with, listed_with, mending_kept, dropping_with, dropped_with, dropping_kept}
use Rattle.kept.proofs.Corrected as OnCorrection
use Rattle.kept.proofs.Mended as OnMending
use Rattle.kept.proofs.Mended.{mended-sums}
use Rattle.kept.proofs.Dropped as OnDropping
use Rattle.kept.proofs.Guarded.{guarded-plain}
use Rattle.kept.proofs.Calls.{correction-guarded, mending-guarded, dropping-guarded}
use Rattle.kept.proofs.Answered.{mending-done, dropping-done}

-- The flow is judged: the verdict is that of its judgement.
pub kept-verdict : (f : List ℕ) → (keeping f).verdict ≡ (judged f).verdict
unfolding keeping
kept-verdict f = refl

-- Refused, every sum of the record is zero.
pub kept-refused : (f : List ℕ) {n r p : ℕ} → (judged f).verdict ≡ Judge.Refused n r p → (keeping f).kept ≡ record { sums = zeros.sums }
unfolding keeping
kept-refused f e = ap (λ (s : Summary). record { sums = s.sums }) (refused-zeros f _ _ _ e)

-- "made when the flow is accepted": the record has the sums of the flow's lines.
pub kept-made : (f : List ℕ) → (judged f).verdict ≡ Accepted → (keeping f).kept ≡ kept_of f
unfolding keeping
kept-made f e = ap (λ (l : List Sums). record { sums = l }) (accepted-sums f e)

module _ (k : KeptSums) (f : List ℕ) where
  -- Corrections.
  module _ (d subtype n x y : ℕ) where
    -- A refusal leaves flow and record as they came.
    pub correction-refused : {m r p : ℕ} → correction_with k f d subtype n x y ≡ Correct.Refused m r p → (corrected_with k f d subtype n x y ≡ f) × ((correction_kept k f d subtype n x y).kept ≡ k)
    correction-refused e = let w = OnCorrection.answer-refused k f d subtype n x y _ _ _ e in (sym w.1, sym (ap (λ (a : CorrectionKept). a.kept) w.0))

    -- Made, the flow is the plain call's, and the record is that of the flow.
    pub correction-made : correction_with k f d subtype n x y ≡ Correct.Made → (corrected_with k f d subtype n x y ≡ corrected_bytes f d subtype n x y) × ((correction_kept k f d subtype n x y).kept ≡ kept_of (corrected_with k f d subtype n x y))
    correction-made e =
        let w = OnCorrection.answering k f d subtype n x y Correct.Made (sym e) in
        (sym w.1, sym (ap (λ (a : CorrectionKept). a.kept) w.0) ∙ ap kept_of w.1)

    -- Where the answer is the plain call's, so are the bytes; so it is with the flow's own record.
    pub correction-as-plain : correction_with k f d subtype n x y ≡ correction_of f d subtype n x y → (correction_with k f d subtype n x y ≡ correction_of f d subtype n x y) × (corrected_with k f d subtype n x y ≡ corrected_bytes f d subtype n x y)
    correction-as-plain w = (w, go (correction_of f d subtype n x y) refl)
      where
        go : (a : Correction) → correction_of f d subtype n x y ≡ a → corrected_with k f d subtype n x y ≡ corrected_bytes f d subtype n x y
        go Correct.Made q = (correction-made (w ∙ q)).0
        go (Err why) q = (correction-refused (w ∙ q)).0 ∙ sym (refused-untouched f d subtype n x y q)

    pub correction-plain : k ≡ kept_of f → (correction_with k f d subtype n x y ≡ correction_of f d subtype n x y) × (corrected_with k f d subtype n x y ≡ corrected_bytes f d subtype n x y)
    correction-plain e = correction-as-plain (guarded-plain (correction-guarded k f d subtype n x y) ((stands-exactly k f).1 e))

  -- Rebalancings.
  module _ (list : List ℕ) where
    pub mending-refused : {m r p : ℕ} → mending_with k f list ≡ Mend.Refused m r p → (mended_with k f list ≡ f) × (listed_with k f list ≡ list) × ((mending_kept k f list).kept ≡ k)
    mending-refused e = let w = OnMending.answer-refused k f list _ _ _ e in (sym w.1, sym w.2, sym (ap (λ (a : MendingKept). a.kept) w.0))

    pub mending-made : {m : ℕ} → mending_with k f list ≡ Mend.Mended m → (mended_with k f list ≡ mended_flow f list) × (listed_with k f list ≡ mended_list f list) × ((mending_kept k f list).kept ≡ kept_of (mended_with k f list))
    mending-made {m} e =
        let w = OnMending.answering k f list (Mend.Mended m) (sym e) in
        (sym w.1, sym w.2, sym (ap (λ (a : MendingKept). a.kept) w.0) ∙ ap kept_of w.1)

    pub mending-as-plain : mending_with k f list ≡ mending_of f list → (mending_with k f list ≡ mending_of f list) × (mended_with k f list ≡ mended_flow f list) × (listed_with k f list ≡ mended_list f list)
    mending-as-plain w = go (mending_of f list) refl
      where
        go : (a : Mending) → mending_of f list ≡ a → (mending_with k f list ≡ mending_of f list) × (mended_with k f list ≡ mended_flow f list) × (listed_with k f list ≡ mended_list f list)
        go (Mend.Mended m) q = let h = mending-made (w ∙ q) in (w, h.0, h.1)
        go (Err why) q = let h = mending-refused (w ∙ q) in let s = Rebalanced.refused-stays f list q in (w, h.0 ∙ sym s.0, h.1 ∙ sym s.1)

    pub mending-plain : k ≡ kept_of f → (mending_with k f list ≡ mending_of f list) × (mended_with k f list ≡ mended_flow f list) × (listed_with k f list ≡ mended_list f list)
    mending-plain e = mending-as-plain (guarded-plain (mending-guarded k f list) ((stands-exactly k f).1 e))

    -- No line changes: a rebalancing hands the record back as it came, always.
    pub mending-keeps : (mending_kept k f list).kept ≡ k
    mending-keeps = go (mending_with k f list) refl
      where
        go : (a : Mending) → mending_with k f list ≡ a → (mending_kept k f list).kept ≡ k
        go (Mend.Mended m) e =
            let w = (mending-done k f list m).0 e in
            let h = mending-made e in
            h.2 ∙ (ap kept_of h.0 ∙ (mended-sums f list w.0 ∙ sym w.1))
        go (Err why) e = (mending-refused e).2

  -- Droppings.
  module _ (numbers : List ℕ) where
    pub dropping-refused : {m r p : ℕ} → dropping_with k f numbers ≡ Drop.Refused m r p → (dropped_with k f numbers ≡ f) × ((dropping_kept k f numbers).kept ≡ k)
    dropping-refused e = let w = OnDropping.answer-refused k f numbers _ _ _ e in (sym w.1, sym (ap (λ (a : DroppingKept). a.kept) w.0))

    -- Dropped, the record is that of the flow that is left, which stands in front.
    pub dropping-made : {m : ℕ} → dropping_with k f numbers ≡ Drop.Dropped m → (dropped_with k f numbers ≡ dropped_flow f numbers) × ((dropping_kept k f numbers).kept ≡ kept_of (take m (dropped_with k f numbers)))
    dropping-made {m} e =
        let q = ((dropping-done k f numbers m).0 e).0 in
        let w = OnDropping.answering k f numbers (Drop.Dropped m) (sym e) in
        (sym w.1, sym (ap (λ (a : DroppingKept). a.kept) w.0) ∙ (ap kept_of (sym (Shortened.dropped-room f numbers {n = m} q).0) ∙ ap (λ (g : List ℕ). kept_of (take m g)) w.1))

    pub dropping-as-plain : dropping_with k f numbers ≡ dropping_of f numbers → (dropping_with k f numbers ≡ dropping_of f numbers) × (dropped_with k f numbers ≡ dropped_flow f numbers)
    dropping-as-plain w = (w, go (dropping_of f numbers) refl)
      where
        go : (a : Dropping) → dropping_of f numbers ≡ a → dropped_with k f numbers ≡ dropped_flow f numbers
        go (Drop.Dropped m) q = (dropping-made (w ∙ q)).0
        go (Err why) q = (dropping-refused (w ∙ q)).0 ∙ sym (Shortened.refused-stays f numbers q)

    pub dropping-plain : k ≡ kept_of f → (dropping_with k f numbers ≡ dropping_of f numbers) × (dropped_with k f numbers ≡ dropped_flow f numbers)
    dropping-plain e = dropping-as-plain (guarded-plain (dropping-guarded k f numbers) ((stands-exactly k f).1 e))
