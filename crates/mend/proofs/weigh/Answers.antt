-- `mend::weigh` meets its contract.
use mathlib.Core.Path.{sym, ap}
use lib.Dec.{lit≤}
use lib.ListN.{length}
use Rattle.mend.proofs.Replaced.{weigh-unfit, weigh-fits, copied, copy_is}
use Rattle.mend.proofs.weigh.Goals as goal

pub slice_bounds-replace-end : goal.slice_bounds-replace-end
slice_bounds-replace-end c =
    let p = c in
    sym (ap length (copy_is _ _ _ p.requires p.put_part.ensures.1 (lit≤ tt)))

pub replace-requires : goal.replace-requires
replace-requires c =
    let p = c in
    let t = p in
    let w = t.requires in
    copied _ _ t.survey.ensures.1 w t.if-survey.true _ (copy_is _ _ _ w p.put_part.ensures.1 (lit≤ tt))

pub returns-then-survey : goal.returns-then-survey
returns-then-survey c =
    let r = c in
    let t = r in
    weigh-fits _ _ t.survey.ensures.1 _ t.if-survey.true _ _ _ (r.replace.ensures.0, r.replace.ensures.1, r.replace.ensures.2)

pub returns : goal.returns
returns c = weigh-unfit _ _ c.survey.ensures.1 _ c.if-survey.false
