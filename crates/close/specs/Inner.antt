-- Serves inner functions. Closing up record by record, within the flow.
use Rattle.std.specs.Prelude.{ℕ, ◌+◌, ◌*◌, ◌/◌, ◌<◌, ◌≤◌, ◌≡◌, Bool, true, false, cond, List, ◌++◌, length, take, drop}
use Rattle.text.specs.Among.{among, from_to}
use Rattle.text.specs.Placing.{put_at}
use Rattle.layout.specs.Kinds.{kind_in}
use Rattle.rules.specs.Step.{next_deleghe}
use Rattle.judge.specs.Flow.{rest_of}
use Rattle.judge.specs.Plain.{Whole}
use Rattle.rebalance.specs.Rebalance.{flat}
use Rattle.rebalance.specs.Numbering.{with_number}
use Rattle.close.specs.declared.Kept.{Kept}
use Rattle.close.specs.Closing.{stays, kept_of, renumbered, closed_up}

-- a number is one of n deleghe, and not among others
unfoldable pub named_once : ℕ → ℕ → List ℕ → Bool
named_once n d others = cond (from_to 1 n d) (cond (among d others) false true) false

-- the k-th record of a flow, counted from 0
abbrev pub record_from : List ℕ → ℕ → List ℕ
record_from f k = take 120 (drop (k * 120) f)

-- what is kept after a record
unfoldable pub kept_after : List ℕ → List ℕ → Kept → Kept
kept_after numbers r m = cond (stays numbers r) (record { records = m.records + 1; deleghe = next_deleghe m.deleghe (kind_in r) }) m

-- the flow after it: a record that stays is put behind those kept, with its number
unfoldable pub moved_up : List ℕ → List ℕ → Kept → List ℕ → List ℕ
moved_up numbers r m f = cond (stays numbers r) (put_at (m.records * 120) (with_number (kind_in r) (next_deleghe m.deleghe (kind_in r)) r) f) f

-- at the k-th record of a flow, with no more kept than have been seen
pub record Reached (f : List ℕ) (k : ℕ) (m : Kept) : Type 0 where
  pub whole : Whole f
  pub more : k < length f / 120
  pub few : m.records ≤ k
  pub counted : m.deleghe ≤ k

-- k records of a flow have been gone through: the bytes of those that stay stand at its front, and behind them it is as it came
pub record ClosedSoFar (numbers flow₀ flow : List ℕ) (k : ℕ) (m : Kept) : Type 0 where
  pub done : List ℕ
  pub many : length done ≡ m.records * 120
  pub ahead : k ≤ length flow₀ / 120
  pub few : m.records ≤ k
  pub counted : m.deleghe ≤ k
  pub front : flow ≡ done ++ drop (m.records * 120) flow₀
  pub rest : closed_up numbers flow₀ ≡ done ++ flat (renumbered m.deleghe (kept_of numbers (rest_of flow₀ k)))
