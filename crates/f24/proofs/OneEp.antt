-- The promise of the call for the F24 EP form settles what is returned, and every number of the room that it is lent.
use Prim.Native.Nat.{ℕ}
use mathlib.Core.Path.{◌≡◌, sym, ◌∙◌}
use mathlib.Core.List.{List}
use Rattle.f24.specs.LinkedEp.{ep_code, ep_room}

-- `f24_ep_judge`: the number returned, and the room
pub one-ep-judge : (records room : List ℕ) (a b : ℕ) (x y : List ℕ) →
    (a ≡ ep_code records room) × (x ≡ ep_room records room) → (b ≡ ep_code records room) × (y ≡ ep_room records room) → (a ≡ b) × (x ≡ y)
one-ep-judge records room a b x y p q = (p.0 ∙ sym q.0, p.1 ∙ sym q.1)
