-- `ep_accounts::accounts_in` meets its contract.
use mathlib.Core.Path.{ap, ◌∙◌}
use Rattle.std.specs.Prelude.{Err}
use Rattle.std.specs.Result.{is_err}
use Rattle.std.proofs.lemmas.Result.{err_from_is_err_and}
use Rattle.ep_accounts.proofs.Rows.{accounts-spoilt, balance-spoilt, balance-met, balance-missed}
use Rattle.ep_accounts.proofs.accounts_in.Goals as goal

pub returns-in_err-sum : goal.returns-in_err-sum
returns-in_err-sum c = let s = err_from_is_err_and c.from_residual.result c.from_residual.ensures.1 in s.1 ∙ ap Err s.2 ∙ accounts-spoilt _ _ c.debits_in.ensures _ c.in_err-sum.was

pub returns-in_default : goal.returns-in_default
returns-in_default c = balance-spoilt _ _ c.debits_in.ensures _ c.in_ok-sum.was _ c.balance_in.ensures (ap is_err c.in_default.is)

pub returns-then-sum-balance : goal.returns-then-sum-balance
returns-then-sum-balance c = balance-met _ _ c.debits_in.ensures _ c.in_ok-sum.was _ c.balance_in.ensures _ c.in-Ok.is c.if-sum-balance.true

pub returns : goal.returns
returns c = balance-missed _ _ c.debits_in.ensures _ c.in_ok-sum.was _ c.balance_in.ensures _ c.in-Ok.is c.if-sum-balance.false
