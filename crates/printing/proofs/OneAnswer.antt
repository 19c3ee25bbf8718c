-- The promise of a step of printing settles the bytes that are left in the room and the index that is answered.
use Prim.Native.Nat.{ℕ}
use mathlib.Core.Path.{◌≡◌, sym, ◌∙◌}
use mathlib.Core.List.{List}
use Rattle.printing.specs.Appended.{Appended}

-- "any two answers allowed by it are equal", of `put_word`, `put_decimal` and `put_byte`
pub one-step : {s : ℕ} {t : List ℕ} {m : ℕ} {r x y : List ℕ} {e f : ℕ} → Appended s t m r x e → Appended s t m r y f → (x ≡ y) × (e ≡ f)
one-step p q = (p.bytes ∙ sym q.bytes, p.next ∙ sym q.next)
