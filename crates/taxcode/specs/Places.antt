-- Believed. Characters, and tests and sums over the characters of a code, each with its place; places count from 1.
use Rattle.std.specs.Prelude.{ℕ, ◌+◌, ◌%◌, Bool, true, false, cond, List, [], ◌∷◌, eqb}
use Prim.Native.Char.{code}
use Prim.Native.String.{String, [] as []ˢ, ◌∷◌ as ◌∷ˢ◌}

-- a text's characters, as bytes
unfoldable pub spelled : String → List ℕ
spelled []ˢ = []
spelled (c ∷ˢ cs) = code c ∷ spelled cs

-- every character passes the test of its place, where the first stands in place k
unfoldable pub every_from : (ℕ → ℕ → Bool) → ℕ → List ℕ → Bool
every_from p k [] = true
every_from p k (b ∷ bs) = cond (p k b) (every_from p (k + 1) bs) false

-- what the characters count, each in its place, summed
unfoldable pub sum_from : (ℕ → ℕ → ℕ) → ℕ → List ℕ → ℕ
sum_from v k [] = 0
sum_from v k (b ∷ bs) = v k b + sum_from v (k + 1) bs

-- "In even places .. in odd places": one number where place k is even, and another where it is odd
unfoldable pub by_place : ℕ → ℕ → ℕ → ℕ
by_place k even odd = cond (eqb (k % 2) 0) even odd
