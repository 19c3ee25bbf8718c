-- Believed. Whether a number is one of a list, or one of those from a first to a last.
use Rattle.std.specs.Prelude.{ℕ, Bool, true, false, cond, List, [], ◌∷◌, eqb, ltb}

-- x is one of a list
unfoldable pub among : ℕ → List ℕ → Bool
among x [] = false
among x (y ∷ ys) = cond (eqb x y) true (among x ys)

-- n is one of the numbers from lo to hi
abbrev pub from_to : ℕ → ℕ → ℕ → Bool
from_to lo hi n = cond (ltb n lo) false (cond (ltb hi n) false true)
