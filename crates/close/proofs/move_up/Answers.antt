use Rattle.close.proofs.Closed.{closed-start, closed_on, closed-end}
use Rattle.close.proofs.move_up.Goals as goal

pub loop-k-init : goal.loop-k-init
loop-k-init c = closed-start _ _

pub loop-k-preserved : goal.loop-k-preserved
loop-k-preserved c =
    let q = c in
    let e = c.keep-kept.ensures in
    rw (e.0, e.1) (closed_on _ _ _ _ _ q.loop-k.invariant q.loop-k-test.true)

pub returns : goal.returns
returns c = closed-end _ _ _ _ _ c.loop-k.invariant c.loop-k-test.false
