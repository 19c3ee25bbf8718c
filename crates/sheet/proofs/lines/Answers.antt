use Prim.Native.Nat.{ℕ, ◌+◌, ◌-◌}
use mathlib.Core.List.{List}
use lib.ListN.{drop}
use Rattle.layout.specs.declared.Kind.TheVariants.{Line}
use Rattle.sheet.specs.declared.Spot.{Spot}
use Rattle.sheet.specs.Sheet.{Reading, and_then, one_record, lines_from}
use Rattle.sheet.proofs.Walks.{Going, going-by, going-then, going-stop, going_end}
use Rattle.sheet.proofs.Steps.{lines-on, lines_end}
use Rattle.sheet.proofs.lines.Goals as goal
use Rattle.sheet.proofs.lines.Goals.{After-record}

-- After `record`: the walk is under way, with what is left to be read.
abbrev Goes : After-record → Spot → List ℕ → Reading → Type 0
Goes c b g S =
    Going c.args.source.sheet.now c.args.source.name.now c.args.spot c.args.flow.now (lines_from c.args.x c.args.d c.args.n (drop c.args.spot.at c.args.source.sheet.now)) b g S

-- The next line, and the lines behind it.
abbrev next : After-record → Reading
next c = one_record (Line c.args.x) c.args.d (drop c.loop.here.at c.args.source.sheet.now)

abbrev behind : After-record → List ℕ → Reading
behind c = lines_from c.args.x c.args.d (c.args.n - (c.loop.counter + 1))

opened : (c : After-record) → Goes c c.loop.here c.loop.flow (and_then (next c) (behind c))
opened c = going-by _ _ _ _ _ _ _ _ _ (lines-on c.args.x c.args.d c.args.n c.loop.counter (drop c.loop.here.at c.args.source.sheet.now) c.loop-test.true) c.loop.invariant

pub returns-in_err-here : goal.returns-in_err-here
returns-in_err-here c =
    let q = (goal.at.returns-in_err-here c).After-record in
    rw c.from_residual.ensures (going-stop _ _ _ _ _ _ _ (next q) (behind q) _ _ (opened q) q.record.ensures c.in_err-here.was)

pub loop-preserved : goal.loop-preserved
loop-preserved c =
    let q = (goal.at.loop-preserved c).After-record in
    going-then _ _ _ _ _ _ _ (next q) (behind q) _ _ _ (opened q) q.record.ensures c.in_ok-here.was

pub returns : goal.returns
returns c =
    going_end _ _ _ _ _ _ _ (going-by _ _ _ _ _ _ _ _ _ (lines_end c.args.x c.args.d c.args.n c.loop.counter (drop c.loop.here.at c.args.source.sheet.now) c.loop-test.false) c.loop.invariant)
