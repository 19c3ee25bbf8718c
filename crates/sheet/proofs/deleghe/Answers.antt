use Prim.Native.Nat.{ℕ, ◌+◌, ◌-◌}
use mathlib.Core.List.{List}
use lib.ListN.{drop}
use Rattle.sheet.specs.declared.Spot.{Spot}
use Rattle.sheet.specs.Sheet.{Reading, and_then, one_delega, deleghe_from}
use Rattle.sheet.proofs.Walks.{Going, going-by, going-then, going-stop, going_end}
use Rattle.sheet.proofs.Steps.{deleghe-on, deleghe-end}
use Rattle.sheet.proofs.deleghe.Goals as goal
use Rattle.sheet.proofs.deleghe.Goals.{After-delega}

-- After `delega`: the walk is under way, with what is left to be read.
abbrev Goes : After-delega → Spot → List ℕ → Reading → Type 0
Goes c b g S =
    Going c.args.source.sheet.now c.args.source.name.now c.args.spot c.args.flow.now (deleghe_from c.args.n 1 (drop c.args.spot.at c.args.source.sheet.now)) b g S

-- The next delega, and the deleghe behind it.
abbrev next : After-delega → Reading
next c = one_delega (c.loop-d.d + 1) (drop c.loop-d.here.at c.args.source.sheet.now)

abbrev behind : After-delega → List ℕ → Reading
behind c = deleghe_from (c.args.n - (c.loop-d.d + 1)) (c.loop-d.d + 1 + 1)

opened : (c : After-delega) → Goes c c.loop-d.here c.loop-d.flow (and_then (next c) (behind c))
opened c = going-by _ _ _ _ _ _ _ _ _ (deleghe-on c.args.n c.loop-d.d (drop c.loop-d.here.at c.args.source.sheet.now) c.loop-d-test.true) c.loop-d.invariant

pub returns-in_err-here : goal.returns-in_err-here
returns-in_err-here c =
    let q = (goal.at.returns-in_err-here c).After-delega in
    rw c.from_residual.ensures (going-stop _ _ _ _ _ _ _ (next q) (behind q) _ _ (opened q) q.delega.ensures c.in_err-here.was)

pub loop-d-preserved : goal.loop-d-preserved
loop-d-preserved c =
    let q = (goal.at.loop-d-preserved c).After-delega in
    going-then _ _ _ _ _ _ _ (next q) (behind q) _ _ _ (opened q) q.delega.ensures c.in_ok-here.was

pub returns : goal.returns
returns c =
    going_end _ _ _ _ _ _ _ (going-by _ _ _ _ _ _ _ _ _ (deleghe-end c.args.n c.loop-d.d (drop c.loop-d.here.at c.args.source.sheet.now) c.loop-d-test.false) c.loop-d.invariant)
