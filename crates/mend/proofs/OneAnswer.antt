-- The promise of rebalancing a flow settles its answer, every byte of the flow and every number of the list.
use Prim.Native.Nat.{ℕ}
use mathlib.Core.Path.{◌≡◌, sym, ◌∙◌}
use mathlib.Core.List.{List}
use Rattle.mend.specs.Answers.{Mending}
use Rattle.mend.proofs.Answering.{Answering}

-- "any two answers allowed by it are equal"
pub one_answer : (flow list : List ℕ) (a b : Mending) (f g x y : List ℕ) → Answering flow list a f x → Answering flow list b g y → (a ≡ b) × (f ≡ g) × (x ≡ y)
one_answer flow list a b f g x y p q = (p.0 ∙ sym q.0, p.1 ∙ sym q.1, p.2 ∙ sym q.2)
