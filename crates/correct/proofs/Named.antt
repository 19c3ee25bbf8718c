-- A correction of the line that was found, and of none.
use Prim.Native.Nat.{ℕ}
use mathlib.Core.Path.{◌≡◌}
use mathlib.Core.List.{List}
use Rattle.judge.specs.Plain.{Whole}
use Rattle.judge.proofs.Accepted.{accepted-means-no-fault}
use Rattle.rebalance.specs.Rebalance.{refreshed}
use Rattle.find.specs.Answers as Answer
use Rattle.find.specs.Line.{found_in}
use Rattle.find.proofs.NamedLine.{found-exactly}
use Rattle.find.proofs.FoundPart.{found-accepted, found_part}
use Rattle.correct.specs.Answers.{Correction, Refused}
use Rattle.correct.specs.Correction.{section_of, replaced, tried, bytes_after, correction_of, corrected_bytes}
use Rattle.correct.specs.Writing.{KthLine}
use Rattle.correct.proofs.Split.{line-splits, line-found, within-table}

module _ (f : List ℕ) (d subtype n : ℕ) where
  -- A line that is found is a record of a flow of whole records, and its section is in the table.
  pub found-line : (k : ℕ) → found_in f d subtype n ≡ Answer.At k → Whole f × KthLine f k (section_of subtype)
  found-line k e =
      let a = found-accepted f d subtype n k e in
      let w = (accepted-means-no-fault f a).whole in
      let r = found_part f d subtype n k e in
      let z = line-found f d subtype n a (k, (found-exactly f d subtype n k a).0 e) in
      (w, record { counted = r.counted; within = r.within; section = within-table f w.even (line-splits f d subtype n z) })

  module _ (x y : ℕ) where
    -- What is tried of the line that was found is the correction.
    pub corrected-at : (k s : ℕ) (a : Correction) (l : List ℕ) → found_in f d subtype n ≡ Answer.At k → s ≡ section_of subtype
        → a ≡ tried k s x y f → l ≡ bytes_after a (refreshed (replaced k s x y f)) f → (a ≡ correction_of f d subtype n x y) × (l ≡ corrected_bytes f d subtype n x y)
    unfolding correction_of corrected_bytes
    corrected-at k s a l e q t b = (rw (e, ← q) t, rw (e, ← q, ← t) b)

    -- A flow that is refused, or has no such line, is left as it came.
    pub corrected-not : {m r p : ℕ} → found_in f d subtype n ≡ Answer.Refused m r p → (Refused m r p ≡ correction_of f d subtype n x y) × (f ≡ corrected_bytes f d subtype n x y)
    unfolding correction_of corrected_bytes
    corrected-not e = (rw e, rw e)
