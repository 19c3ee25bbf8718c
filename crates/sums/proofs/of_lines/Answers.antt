use mathlib.Core.List.{List}
use mathlib.Core.Path.{◌≡◌, ap, ◌∙◌}
use native.Mathlib.Omega.{arith}
use Rattle.amounts.specs.declared.Sums.{Sums}
use Rattle.rules.specs.State.{start_state}
use Rattle.rules.specs.Step.{next}
use Rattle.judge.proofs.Chunked.{Given, chunked-start, chunk-given, chunk-none}
use Rattle.rebalance.specs.Weigh.{Turn}
use Rattle.rebalance.proofs.Turns.{next-by, turn-room}
use Rattle.sums.proofs.Adding.{adding-start, adding-on, adding-end}
use Rattle.sums.proofs.of_lines.Goals as goal
use Rattle.sums.proofs.of_lines.Goals.{After-line_sums}

-- The record, as the iterator gives it.
given : (c : After-line_sums) → Given c.args.flow.now c.loop-rec.st.seen c.in-Some.rec.now c.next.new.self
given c = chunk-given _ _ _ _ c.loop-rec.invariant.chunked _ c.next.ensures.steps _ c.in-Some.is

turn : (c : After-line_sums) → Turn c.in-Some.rec.now c.loop-rec.st
turn c =
    let g = given c in
    record {
      sized = g.sized;
      few = omega (arith, c.requires, g.more);
      below = c.loop-rec.invariant.adding.below;
    }

pub loop-rec-init : goal.loop-rec-init
unfolding start_state
loop-rec-init c = rw c.start-st.ensures record { adding = adding-start _; chunked = chunked-start _ _ _ c.into_iter-rec-iterator.ensures.into_iter_gives c.chunks_exact-rec-items.ensures.rest c.chunks_exact-rec-items.ensures.size }

pub next_state-st-requires : goal.next_state-st-requires
next_state-st-requires c =
    let t = turn-room _ _ c.kind_in-kind.result _ (turn c) c.line_sums.ensures in
    record { money_below = t.0; lines_bound = t.1 }

pub loop-rec-preserved : goal.loop-rec-preserved
unfolding next
loop-rec-preserved c =
    let q = (goal.at.loop-rec-preserved c).After-line_sums in
    let g = given q in
    let e : c.next_state-st.result ≡ next q.loop-rec.st q.in-Some.rec.now = c.next_state-st.ensures ∙ next-by _ _ _ _ c.kind_in-kind.ensures c.line_sums.ensures in
    rw e record { adding = adding-on _ _ q.loop-rec.invariant.adding g.more _ g.here (turn q); chunked = g.on }

pub returns : goal.returns
returns c = ap (λ (l : List Sums). record { sums = l }) (adding-end _ _ c.loop-rec.invariant.adding (chunk-none _ _ _ _ c.loop-rec.invariant.chunked _ c.next.ensures.steps c.in-None.is))
