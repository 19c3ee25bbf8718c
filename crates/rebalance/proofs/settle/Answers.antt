-- `rebalance::settle` meets its contract: what is written goes by the kind that was read.
use mathlib.Core.Path.{◌∙◌}
use Rattle.rebalance.proofs.Stores.{emit-by}
use Rattle.rebalance.proofs.Turns.{next-by, turn-room}
use Rattle.rebalance.proofs.settle.Goals as goal

pub next_state-after-requires : goal.next_state-after-requires
next_state-after-requires c =
    let t = turn-room _ _ c.kind_in-kind.result _ c.requires.0 c.line_sums.ensures in
    record { money_below = t.0; lines_bound = t.1 }

pub fill-requires : goal.fill-requires
fill-requires c = let p = c.requires in (p.0.sized, p.0.few, rw c.kind_in-kind.ensures p.1)

pub returns : goal.returns
returns c =
    (c.next_state-after.ensures ∙ next-by _ _ _ _ c.kind_in-kind.ensures c.line_sums.ensures, emit-by _ _ _ _ c.kind_in-kind.ensures c.fill.ensures)
