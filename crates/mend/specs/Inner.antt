-- Serves inner functions. A flow that can be rebalanced, and its copy.
use Rattle.std.specs.Prelude.{ℕ, ◌≡◌, true, List}
use Rattle.rules.specs.State.{start_state}
use Rattle.judge.specs.Flow.{records_of}
use Rattle.judge.specs.Plain.{Whole}
use Rattle.rebalance.specs.Rebalance.{all_fit}

-- a flow whose stored values all fit, and a copy of it
pub record Copied (flow copy : List ℕ) : Type 0 where
  pub whole : Whole flow
  pub fits : all_fit start_state (records_of flow) ≡ true
  pub same : copy ≡ flow
