use Prim.Native.Nat.{ℕ, ◌+◌, ◌-◌}
use mathlib.Core.List.{List}
use lib.ListN.{drop}
use Rattle.sheet.specs.declared.Spot.{Spot}
use Rattle.sheet.specs.Sheet.{Reading, and_then, counted, one_section, sections_from}
use Rattle.sheet.proofs.Walks.{Going, going-by, going-then, going-stop, going_end}
use Rattle.sheet.proofs.Steps.{sections-on, sections-end}
use Rattle.sheet.proofs.sections.Goals as goal
use Rattle.sheet.proofs.sections.Goals.{After-section}

-- After `section`: the walk is under way, with what is left to be read.
abbrev Goes : After-section → Spot → List ℕ → Reading → Type 0
Goes c b g S =
    Going c.args.source.sheet.now c.args.source.name.now c.args.spot c.args.flow.now (sections_from c.args.d 5 0 (drop c.args.spot.at c.args.source.sheet.now)) b g S

-- The next section, and the sections behind it.
abbrev next : After-section → Reading
next c = counted 2 (drop c.loop-x.here.at c.args.source.sheet.now) (one_section c.loop-x.x c.args.d)

abbrev behind : After-section → List ℕ → Reading
behind c = sections_from c.args.d (5 - (c.loop-x.x + 1)) (c.loop-x.x + 1)

opened : (c : After-section) → Goes c c.loop-x.here c.loop-x.flow (and_then (next c) (behind c))
opened c = going-by _ _ _ _ _ _ _ _ _ (sections-on c.args.d 5 c.loop-x.x (drop c.loop-x.here.at c.args.source.sheet.now) c.loop-x-test.true) c.loop-x.invariant

pub returns-in_err-here : goal.returns-in_err-here
returns-in_err-here c =
    let q = (goal.at.returns-in_err-here c).After-section in
    rw c.from_residual.ensures (going-stop _ _ _ _ _ _ _ (next q) (behind q) _ _ (opened q) q.section.ensures c.in_err-here.was)

pub loop-x-preserved : goal.loop-x-preserved
loop-x-preserved c =
    let q = (goal.at.loop-x-preserved c).After-section in
    going-then _ _ _ _ _ _ _ (next q) (behind q) _ _ _ (opened q) q.section.ensures c.in_ok-here.was

pub returns : goal.returns
returns c =
    going_end _ _ _ _ _ _ _ (going-by _ _ _ _ _ _ _ _ _ (sections-end c.args.d 5 c.loop-x.x (drop c.loop-x.here.at c.args.source.sheet.now) c.loop-x-test.false) c.loop-x.invariant)
