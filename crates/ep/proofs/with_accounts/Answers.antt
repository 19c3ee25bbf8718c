-- `ep::with_accounts` meets its contract.
use mathlib.Core.Path.{◌∙◌}
use Rattle.ep.specs.Payments.{with_accounts}
use Rattle.ep.proofs.Steps.{added-or}
use Rattle.ep.proofs.with_accounts.Goals as goal

pub returns : goal.returns
unfolding with_accounts
returns c = rw (c.unwrap_or-more.ensures ∙ added-or c.args.accounts)
