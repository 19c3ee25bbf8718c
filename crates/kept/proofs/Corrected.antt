-- A correction that takes a record: where the record stands for the flow it is the plain one, and else it is refused and changes nothing.
use Prim.Native.Nat.{ℕ}
use mathlib.Core.Path.{◌≡◌, sym, ◌∙◌}
use mathlib.Core.Bool.{true, false}
use mathlib.Core.List.{List}
use Rattle.correct.specs.Answers.{Correction, Made, Refused}
use Rattle.correct.specs.Correction.{bytes_after, correction_of, corrected_bytes}
use Rattle.correct.proofs.Conditions.{refused-untouched}
use Rattle.sums.specs.declared.KeptSums.{KeptSums}
use Rattle.sums.specs.LineSums.{kept_of, stands_for}
use Rattle.sums.specs.Inner.{matched}
use Rattle.refusal.specs.declared.Refusal.{Refusal}
use Rattle.kept.specs.Keeping.{correction_with, corrected_with, kept_corrected, correction_kept}
use Rattle.kept.specs.Inner.{mismatch_of}
use Rattle.kept.proofs.Guarded.{guarded-plain, guarded-none}
use Rattle.kept.proofs.Calls.{strict, correction-guarded}

module _ (k : KeptSums) (f : List ℕ) (d subtype n x y : ℕ) where
  -- What a correction with a record answers and leaves.
  abbrev pub Answering : Correction → KeptSums → List ℕ → Type 0
  Answering a l g = (record { answer = a; kept = l } ≡ correction_kept k f d subtype n x y) × (g ≡ corrected_with k f d subtype n x y)

  -- It is settled by the answer.
  pub answering : (a : Correction) → a ≡ correction_with k f d subtype n x y → Answering a (kept_corrected a (kept_of (corrected_bytes f d subtype n x y)) k) (bytes_after a (corrected_bytes f d subtype n x y) f)
  unfolding correction_kept corrected_with
  answering a e = (rw e, rw e)

  -- A refusal leaves record and bytes as they came.
  pub answer-refused : (m r p : ℕ) → correction_with k f d subtype n x y ≡ Refused m r p → Answering (Refused m r p) k f
  answer-refused m r p e = answering (Refused m r p) (sym e)

  -- Where the record is not found to match, that is the answer.
  pub answer-none : matched k f ≡ false → (u : Refusal) → u ≡ mismatch_of (strict f) → Answering (Refused u.number u.«record» u.position) k f
  answer-none e u h = rw h (answer-refused _ _ _ (guarded-none (correction-guarded k f d subtype n x y) e))

  module _ (e : stands_for k f ≡ true) where
    plain : correction_with k f d subtype n x y ≡ correction_of f d subtype n x y
    plain = guarded-plain (correction-guarded k f d subtype n x y) e

    -- Made, the flow is the plain call's, and the record is that of the flow.
    pub answer-made : (a : Correction) → a ≡ correction_of f d subtype n x y → a ≡ Made → (g : List ℕ) → g ≡ corrected_bytes f d subtype n x y → (l : KeptSums) → l ≡ kept_of g → Answering a l g
    answer-made a h q g eg l el = rw (q, el, eg) (answering Made (sym q ∙ (h ∙ sym plain)))

    -- Refused, both are as they came.
    pub answer-plain : (a : Correction) → a ≡ correction_of f d subtype n x y → (m r p : ℕ) → a ≡ Refused m r p → (g : List ℕ) → g ≡ corrected_bytes f d subtype n x y → Answering a k g
    answer-plain a h m r p q g eg =
        let c = sym h ∙ q in
        rw (q, eg ∙ refused-untouched f d subtype n x y c) (answer-refused m r p (plain ∙ c))
