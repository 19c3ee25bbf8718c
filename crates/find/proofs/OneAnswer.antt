-- The promises of this crate settle the answer, the bytes of the part and where the part lies: "any two answers allowed by it are equal".
use Prim.Native.Nat.{ℕ}
use mathlib.Core.Path.{◌≡◌, sym, ◌∙◌}
use mathlib.Core.List.{List}
use denote.Ref.{Bor}
use Rattle.judge.specs.Part.{LiesAt}
use Rattle.find.specs.Answers.{Found}
use Rattle.find.specs.Line.{found_in}
use Rattle.find.specs.Part.{part_start, part_of}

-- of `find`
pub one-find : (flow : Bor (List ℕ)) (d subtype n : ℕ) (a b : Found) → a ≡ found_in flow.now d subtype n → b ≡ found_in flow.now d subtype n → a ≡ b
one-find flow d subtype n a b p q = p ∙ sym q

-- of `part_of`: two parts have the same bytes at the same place
pub one-part : (flow : Bor (List ℕ)) (found : Found) (a b : Bor (List ℕ)) →
    LiesAt flow (part_of flow.now found) (part_start flow.now found) a → LiesAt flow (part_of flow.now found) (part_start flow.now found) b →
    (a.now ≡ b.now) × (a.ref_ptr.0 ≡ b.ref_ptr.0) × (a.ref_ptr.1 ≡ b.ref_ptr.1)
one-part flow found a b p q = (p.0 ∙ sym q.0, p.1 ∙ sym q.1, p.2 ∙ sym q.2)
