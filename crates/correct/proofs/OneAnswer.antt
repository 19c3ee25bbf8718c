-- The promise of `correct` settles the answer and every byte of the flow afterwards.
use Prim.Native.Nat.{ℕ}
use mathlib.Core.Path.{◌≡◌, sym, ◌∙◌}
use mathlib.Core.List.{List}
use Rattle.correct.specs.Answers.{Correction}
use Rattle.correct.specs.Correction.{correction_of, corrected_bytes}

-- "any two answers allowed by it are equal", and so is "the state of each lent byte afterwards"
pub one-correction : (f : List ℕ) (d subtype n x y : ℕ) (a b : Correction) (g h : List ℕ) →
    (a ≡ correction_of f d subtype n x y) × (g ≡ corrected_bytes f d subtype n x y) → (b ≡ correction_of f d subtype n x y) × (h ≡ corrected_bytes f d subtype n x y) → (a ≡ b) × (g ≡ h)
one-correction f d subtype n x y a b g h p q = (p.0 ∙ sym q.0, p.1 ∙ sym q.1)
