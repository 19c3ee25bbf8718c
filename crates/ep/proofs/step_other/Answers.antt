-- `ep::step_other` meets its contract.
use Rattle.ep.proofs.Steps.{step_other}
use Rattle.ep.proofs.step_other.Goals as goal

pub returns : goal.returns
returns c = step_other _ _ _ _ c.requires.1 _ c.closing.ensures c.after_other-outcome.ensures c.with_other-tally.ensures
