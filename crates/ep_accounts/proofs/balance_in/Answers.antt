-- `ep_accounts::balance_in` meets its contract.
use native.Mathlib.Omega.{arith}
use Rattle.ep_accounts.specs.Accounts.{balance_start, balance_in}
use Rattle.ep_accounts.proofs.Rows.{fifteen-read}
use Rattle.ep_accounts.proofs.balance_in.Goals as goal

pub returns : goal.returns
unfolding balance_in
returns c = fifteen-read c.args.rec.now c.requires balance_start 15 _ (omega arith) (omega arith) c.number.ensures
