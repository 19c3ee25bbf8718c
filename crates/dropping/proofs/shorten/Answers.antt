-- `dropping::shorten` meets its contract.
use Rattle.judge.proofs.Accepted.{accepted-means-no-fault}
use Rattle.dropping.proofs.Answering.{front_length, front_fits, front-set}
use Rattle.dropping.proofs.shorten.Goals as goal

pub close_up-n-requires : goal.close_up-n-requires
close_up-n-requires c = (accepted-means-no-fault _ c.requires.accepted).whole

pub slice_bounds-rebalance-end-2 : goal.slice_bounds-rebalance-end-2
slice_bounds-rebalance-end-2 c =
    let p = c in
    front_length _ _ p.requires _ _ p.close_up-n.ensures.0 p.close_up-n.ensures.2

pub rebalance-requires : goal.rebalance-requires
rebalance-requires c =
    let p = c in
    front_fits _ _ p.requires _ _ p.close_up-n.ensures.0 p.close_up-n.ensures.2

pub returns : goal.returns
returns c =
    let p = c in
    front-set _ _ p.requires _ _ p.close_up-n.ensures.0 p.close_up-n.ensures.2 _ c.rebalance.ensures
