-- Serves inner functions. The numbers that a list is marked with before a call, each its own.
use Rattle.std.specs.Prelude.{ℕ, zero, suc, ◌+◌, List, [], ◌∷◌, ◌++◌}

-- the first n marks
unfoldable pub marks : ℕ → List ℕ
marks zero = []
marks (suc n) = marks n ++ ((9_000_000_000 + n) ∷ [])
