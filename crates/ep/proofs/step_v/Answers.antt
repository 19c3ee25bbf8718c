-- `ep::step_v` meets its contract.
use Rattle.ep.proofs.Steps.{step-v, added-below}
use Rattle.ep.proofs.step_v.Goals as goal

pub with_accounts-tally-requires : goal.with_accounts-tally-requires
with_accounts-tally-requires c = (c.requires.1, c.requires.2, added-below _ c.requires.0 _ c.accounts_in-accounts.ensures)

pub returns : goal.returns
returns c = step-v _ _ _ _ c.requires.3 _ c.accounts_in-accounts.ensures c.v_fault-outcome.ensures c.with_accounts-tally.ensures
