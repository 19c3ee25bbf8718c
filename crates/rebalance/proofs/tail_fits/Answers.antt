-- `rebalance::tail_fits` meets its contract: each test settles one of the tail's values.
use mathlib.Core.Path.{sym}
use mathlib.Core.Logic.{inl, inr}
use Rattle.rebalance.proofs.Fitting.{fits-deleghe, fits-records, fits_sum}
use Rattle.rebalance.proofs.tail_fits.Goals as goal

pub returns-then-records-le-MOST_COUNT : goal.returns-then-records-le-MOST_COUNT
returns-then-records-le-MOST_COUNT c = sym (fits_sum c.args.st c.if-records-le-MOST_COUNT.true.0 c.if-records-le-MOST_COUNT.true.1)

pub returns-else-records-le-MOST_COUNT : goal.returns-else-records-le-MOST_COUNT
returns-else-records-le-MOST_COUNT c =
    elim c.if-records-le-MOST_COUNT.either [
      | inl p ↦ let e = fits-records c.args.st p.0 p.1 in cc
      | inr q ↦ let e = fits-deleghe c.args.st q in cc
    ]
