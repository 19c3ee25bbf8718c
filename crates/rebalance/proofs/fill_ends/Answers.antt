-- `rebalance::fill_ends` meets its contract: the sign is stored, then the balance is written.
use mathlib.Core.Path.{◌∙◌}
use native.Mathlib.Omega.{arith}
use lib.ListN.{length-set}
use Rattle.layout.proofs.Table.{near-rule}
use Rattle.rebalance.proofs.Stores.{ends-written}
use Rattle.layout.proofs.Within.{within-amount}
use Rattle.rebalance.proofs.Fitting.{ends-fit}
use Rattle.rebalance.proofs.fill_ends.Goals as goal
use Rattle.rebalance.proofs.fill_ends.Goals.{Start}

pub bounds-rec-at : goal.bounds-rec-at
bounds-rec-at c = rw c.section_at-section.ensures (omega (arith, near-rule c.args.s, c.requires.0))

pub amount_at-requires : goal.amount_at-requires
amount_at-requires c = rw c.section_at-section.ensures (omega (arith, near-rule c.args.s))

pub store-requires : goal.store-requires
store-requires c =
    let p = (goal.at.store-requires c).Start in
    let x = c.section_at-section.ensures in
    let f = c.amount_at.ensures in
    (simp length-set p.requires.0, rw (f, x) (within-amount _ (near-rule p.args.s).1.1.1.1.1.0), rw (c.apart_of.ensures, f, x) (ends-fit p.args.s p.args.t p.requires.1))

pub shape_of-rec : goal.shape_of-rec
shape_of-rec c = c.store.auto.rec ∙ simp length-set

pub returns : goal.returns
returns c =
    let p = (goal.at.returns c).Start in
    ends-written p.args.s p.args.t p.args.rec.now _ c.section_at-section.ensures _ _ _ _ p.requires.0 c.amount_at.ensures c.sign_of.ensures c.apart_of.ensures c.store.ensures
