-- `ep_accounts::debits_in` meets its contract: the rows so far say numbers, and `sum` is what they add up to.
use mathlib.Core.Path.{◌≡◌}
use mathlib.Core.Bool.{true}
use Rattle.ep_accounts.specs.Accounts.{digits_to, debits_to}
use Rattle.ep_accounts.proofs.debits_in.Given as goal

abbrev pub invariant-loop-k : goal.invariant-loop-k
invariant-loop-k l = (digits_to l.k l.rec ≡ true) × (l.sum ≡ debits_to l.k l.rec)
