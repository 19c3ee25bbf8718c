-- Believed. The support name: 20 bytes of F4 and of EF.
use Rattle.std.specs.Prelude.{ℕ, Bool, true, false, cond, List, [], ◌∷◌, eqb}

-- "No "/" and no ":" in it"
unfoldable pub name_right : List ℕ → Bool
name_right [] = true
name_right (b ∷ bs) = cond (eqb b 47) false (cond (eqb b 58) false (name_right bs))

-- "the tail's equals the head's"
unfoldable pub same_bytes : List ℕ → List ℕ → Bool
same_bytes [] [] = true
same_bytes [] (b ∷ bs) = false
same_bytes (a ∷ l) [] = false
same_bytes (a ∷ l) (b ∷ bs) = cond (eqb a b) (same_bytes l bs) false
