-- `rebalance::fill_tail` meets its contract: each of the three values fits its field, and they are written in the order of their refusals.
use native.Mathlib.Omega.{arith}
use borrow.Author.Rules.{rules}
use Rattle.rebalance.proofs.Fitting.{tail-fit}
use Rattle.rebalance.proofs.Stores.{tail_written}
use Rattle.rebalance.proofs.fill_tail.Goals as goal
use Rattle.rebalance.proofs.fill_tail.Goals.{Start}

pub store-requires : goal.store-requires
store-requires c =
    let p = (goal.at.store-requires c).Start in
    let f = tail-fit p.args.st p.requires.2 in
    (search rules, search rules, omega arith)

pub store-requires-3 : goal.store-requires-3
store-requires-3 c =
    let p = (goal.at.store-requires-3 c).Start in
    let f = tail-fit p.args.st p.requires.2 in
    (search rules, search rules, omega arith)

pub returns : goal.returns
returns c =
    let p = (goal.at.returns c).Start in
    tail_written p.args.st p.args.rec.now _ _ _ c.store.ensures c.store-2.ensures c.store-3.ensures
