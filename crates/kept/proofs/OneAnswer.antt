-- The promise of each call settles the answer, the record and every byte and number that is lent.
use Prim.Native.Nat.{ℕ}
use mathlib.Core.Path.{◌≡◌, sym, ◌∙◌}
use mathlib.Core.List.{List}
use Rattle.sums.specs.declared.KeptSums.{KeptSums}
use Rattle.kept.specs.declared.Keeping.{Keeping}
use Rattle.kept.specs.Answers.{CorrectionKept, MendingKept, DroppingKept}
use Rattle.kept.specs.Keeping.{keeping, correction_kept, corrected_with, mending_kept, mended_with, listed_with, dropping_kept, dropped_with}

-- Two answers that agree with the same thing agree.
both : {A : Type 0} {a b c : A} → a ≡ c → b ≡ c → a ≡ b
both p q = p ∙ sym q

pub one-keeping : (f : List ℕ) (a b : Keeping) → a ≡ keeping f → b ≡ keeping f → a ≡ b
one-keeping f a b p q = both p q

module _ (k : KeptSums) (f : List ℕ) where
  pub one-correction : (d subtype n x y : ℕ) (a b : CorrectionKept) (g h : List ℕ) → (a ≡ correction_kept k f d subtype n x y) × (g ≡ corrected_with k f d subtype n x y) → (b ≡ correction_kept k f d subtype n x y) × (h ≡ corrected_with k f d subtype n x y) → (a ≡ b) × (g ≡ h)
  one-correction d subtype n x y a b g h p q = (both p.0 q.0, both p.1 q.1)

  pub one-mending : (list : List ℕ) (a b : MendingKept) (g h l m : List ℕ) → (a ≡ mending_kept k f list) × (g ≡ mended_with k f list) × (l ≡ listed_with k f list) → (b ≡ mending_kept k f list) × (h ≡ mended_with k f list) × (m ≡ listed_with k f list) → (a ≡ b) × (g ≡ h) × (l ≡ m)
  one-mending list a b g h l m p q = (both p.0 q.0, both p.1 q.1, both p.2 q.2)

  pub one-dropping : (numbers : List ℕ) (a b : DroppingKept) (g h : List ℕ) → (a ≡ dropping_kept k f numbers) × (g ≡ dropped_with k f numbers) → (b ≡ dropping_kept k f numbers) × (h ≡ dropped_with k f numbers) → (a ≡ b) × (g ≡ h)
  one-dropping numbers a b g h p q = (both p.0 q.0, both p.1 q.1)
