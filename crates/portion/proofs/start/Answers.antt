use mathlib.Core.Path.{refl}
use Rattle.rules.specs.State.{start_state}
use Rattle.state.specs.Numbers.{sums_numbers, state_numbers}
use Rattle.portion.specs.Portion.{start_progress}
use Rattle.portion.proofs.start.Goals as goal

pub returns : goal.returns
unfolding start_progress state_numbers sums_numbers start_state
returns c = refl
