-- The promise of dropping settles the answer and every byte of the flow.
use mathlib.Core.Path.{◌≡◌, sym, ◌∙◌}
use mathlib.Core.List.{List}
use Prim.Native.Nat.{ℕ}
use Rattle.dropping.specs.Answers.{Dropping}
use Rattle.dropping.specs.Dropping.{dropping_of, dropped_flow}

-- "any two answers allowed by it are equal"
pub one_answer : (flow numbers : List ℕ) (a b : Dropping) (f g : List ℕ) → (a ≡ dropping_of flow numbers) × (f ≡ dropped_flow flow numbers) → (b ≡ dropping_of flow numbers) × (g ≡ dropped_flow flow numbers) → (a ≡ b) × (f ≡ g)
one_answer flow numbers a b f g p q = (p.0 ∙ sym q.0, p.1 ∙ sym q.1)
