-- The promise of `write` settles the answer and every byte of the room afterwards.
use Prim.Native.Nat.{ℕ}
use mathlib.Core.Path.{◌≡◌, sym, ◌∙◌}
use mathlib.Core.List.{List}
use Rattle.write.specs.Answers.{Writing}
use Rattle.write.specs.Writing.{writing_of, room_after}

-- "any two answers allowed by it are equal", and so is "the state of each lent byte afterwards"
pub one-writing : (sheet room : List ℕ) (a b : Writing) (g h : List ℕ) → (a ≡ writing_of sheet room) × (g ≡ room_after sheet room) → (b ≡ writing_of sheet room) × (h ≡ room_after sheet room) → (a ≡ b) × (g ≡ h)
one-writing sheet room a b g h p q = (p.0 ∙ sym q.0, p.1 ∙ sym q.1)
