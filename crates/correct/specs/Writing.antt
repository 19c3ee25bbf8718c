-- Serves inner functions. What the inner functions of a correction write, at indexes of the flow.
use Rattle.std.specs.Prelude.{ℕ, ◌+◌, ◌/◌, ◌<◌, ◌≤◌, List, length}
use Rattle.text.specs.Numbers.{digits_of}
use Rattle.text.specs.Placing.{put_at}

-- the flow with a debit and a credit of fifteen digits at two indexes
unfoldable pub amounts_put : ℕ → ℕ → ℕ → ℕ → List ℕ → List ℕ
amounts_put d c x y f = put_at d (digits_of 15 x) (put_at c (digits_of 15 y) f)

-- both amounts lie within the flow, the debit before the credit
pub record Room (f : List ℕ) (d c : ℕ) : Type 0 where
  pub apart : d + 15 ≤ c
  pub inside : c + 15 ≤ length f

-- an amount of at most fifteen digits
pub record Fifteen (x : ℕ) : Type 0 where
  pub digits : x < 1_000_000_000_000_000

-- a record of the flow, and a section of the table
pub record KthLine (f : List ℕ) (k s : ℕ) : Type 0 where
  pub counted : 0 < k
  pub within : k ≤ length f / 120
  pub section : s < 5
