-- Serves inner functions. What becomes of records that were put together from a sheet.
use Rattle.std.specs.Prelude.{ℕ, cond, List, length, Option}
use Rattle.rules.specs.State.{start_state}
use Rattle.judge.specs.Flow.{records_of, head_name_of}
use Rattle.rebalance.specs.Rebalance.{all_fit}
use Rattle.lenient.specs.declared.Misfit.{Misfit}
use Rattle.lenient.specs.Lenient.{lenient_from}
use Rattle.write.specs.Answers.{Writing, Written, Refused}
use Rattle.write.specs.Writing.{after_faults}

-- the records' faults, with the first record that is not of its slot's kind; then 23
unfoldable pub settled_of : List ℕ → Option Misfit → Writing
settled_of flow m =
    after_faults (lenient_from (head_name_of flow) m start_state (records_of flow)) (cond (all_fit start_state (records_of flow)) (Written (length flow)) (Refused 23 0 0))
