-- For theorems. A flow's records and what is left of them, by the names in the list alone.
use Rattle.std.specs.Prelude.{ℕ, ◌+◌, ◌≡◌, true, cond, List, [], ◌∷◌, ltb}
use Rattle.layout.specs.Kinds.{kind_in, numbered}
use Rattle.layout.specs.Fields.{delega_number, value_of}
use Rattle.dropping.specs.Effect.{Stayed}
use Rattle.dropping.specs.WhenRefused.{Names}

-- How many numbers of a list come before n.
unfoldable pub before : ℕ → List ℕ → ℕ
before n [] = 0
before n (d ∷ ds) = cond (ltb d n) 1 0 + before n ds

-- Records, and what is left of them, in their order: one that carries a number of the list goes; any other stays, the same outside the columns in which it may differ, and its number is less by those named before it.
pub data Left (numbers : List ℕ) : List (List ℕ) → List (List ℕ) → Type 0 where
  Ends : Left numbers [] []
  Goes : {r : List ℕ} {rs qs : List (List ℕ)} → numbered (kind_in r) ≡ true → Names (value_of r delega_number) numbers → Left numbers rs qs → Left numbers (r ∷ rs) qs
  Stays : {r q : List ℕ} {rs qs : List (List ℕ)} → (numbered (kind_in r) ≡ true → Names (value_of r delega_number) numbers → ⊥) → Stayed numbers r q → (numbered (kind_in r) ≡ true → value_of q delega_number + before (value_of r delega_number) numbers ≡ value_of r delega_number) → Left numbers rs qs → Left numbers (r ∷ rs) (q ∷ qs)
