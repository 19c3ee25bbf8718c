-- `mend::replace` meets its contract.
use Rattle.mend.proofs.Replaced.{beside, list-short, list-long}
use Rattle.mend.proofs.replace.Goals as goal

pub rebalance-requires : goal.rebalance-requires
rebalance-requires c = let p = c.requires in rw p.same (p.whole, p.fits)

pub list_changes-count-requires : goal.list_changes-count-requires
list_changes-count-requires c = beside _ _ c.requires _ c.rebalance.ensures

pub returns-then-list-count : goal.returns-then-list-count
returns-then-list-count c =
    let g = c in
    let r = g in
    list-short _ _ r.requires _ r.rebalance.ensures _ _ g.list_changes-count.ensures.0 c.if-list-count.true

pub list_changes-requires : goal.list_changes-requires
list_changes-requires c =
    let r = c in
    beside _ _ r.requires _ r.rebalance.ensures

pub returns : goal.returns
returns c =
    let p = c in
    let l = p in
    let e = l in
    let g = e in
    let r = g in
    list-long _ _ r.requires _ r.rebalance.ensures _ _ g.list_changes-count.ensures.0 e.if-list-count.false _ _ l.list_changes.ensures.1 p.put_part.ensures.1
