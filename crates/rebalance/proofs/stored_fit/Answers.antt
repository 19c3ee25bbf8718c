-- `rebalance::stored_fit` meets its contract: what a balance, a 50-01 or a tail stores, and nothing for another record.
use mathlib.Core.Path.{ap, ◌∙◌}
use Rattle.rules.specs.Stored.{stored_section}
use Rattle.amounts.specs.declared.Sums.{Sums}
use Rattle.rebalance.specs.Rebalance.{fits_all}
use Rattle.rebalance.proofs.Fitting.{fits-payment}
use Rattle.rebalance.proofs.NoneStored.{none_stored}
use Rattle.rebalance.proofs.stored_fit.Goals as goal

pub returns-in-Balance : goal.returns-in-Balance
returns-in-Balance c = rw c.in-Balance.is (c.balance_fits.ensures ∙ ap (λ (t : Sums). fits_all (stored_section c.in-Balance.s t)) c.section_sums.ensures)

pub returns-in-Payment : goal.returns-in-Payment
returns-in-Payment c = rw (c.in-Payment.is, fits-payment, ← c.final_of.ensures)

pub returns-in_default : goal.returns-in_default
unfolding fits_all
returns-in_default c = rw (none_stored c.args.st c.args.k c.in_default.not-Balance c.in_default.not-Payment c.in_default.not-Tail)
