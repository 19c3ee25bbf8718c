-- `ep::step_m` meets its contract.
use Rattle.ep.proofs.Steps.{step-m}
use Rattle.ep.proofs.step_m.Goals as goal

pub returns : goal.returns
returns c = step-m _ _ _ _ c.requires.3 _ c.closing-outcome.ensures c.total_in.ensures c.with_payment-tally.ensures
