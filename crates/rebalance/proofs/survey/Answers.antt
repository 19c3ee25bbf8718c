use mathlib.Core.Path.{◌≡◌, ◌∙◌}
use native.Mathlib.Omega.{arith}
use Rattle.rules.specs.State.{start_state}
use Rattle.rules.specs.Step.{next}
use Rattle.judge.proofs.Chunked.{Given, chunked-start, chunk-given, chunk-none}
use Rattle.rebalance.specs.Weigh.{Turn}
use Rattle.rebalance.proofs.Surveys.{surveying-start, surveying-on, surveying-end}
use Rattle.rebalance.proofs.Turns.{next-by, turn-room}
use Rattle.rebalance.proofs.survey.Goals as goal
use Rattle.rebalance.proofs.survey.Goals.{After-is_negative-negative}

-- The record, as the iterator gives it.
given : (c : After-is_negative-negative) → Given c.args.flow.now c.loop-rec.st.seen c.in-Some.rec.now c.next.new.self
given c = chunk-given _ _ _ _ c.loop-rec.invariant.chunked _ c.next.ensures.steps _ c.in-Some.is

turn : (c : After-is_negative-negative) → Turn c.in-Some.rec.now c.loop-rec.st
turn c =
    let g = given c in
    record {
      sized = g.sized;
      few = omega (arith, c.requires.short, g.more);
      below = c.loop-rec.invariant.surveying.below;
    }

pub loop-rec-init : goal.loop-rec-init
unfolding start_state
loop-rec-init c = rw c.start-st.ensures record { surveying = surveying-start _; chunked = chunked-start _ _ _ c.into_iter-rec-iterator.ensures.into_iter_gives c.chunks_exact-rec-items.ensures.rest c.chunks_exact-rec-items.ensures.size }

pub stored_fit-fits-requires : goal.stored_fit-fits-requires
stored_fit-fits-requires c = (turn c).few

pub next_state-st-requires : goal.next_state-st-requires
next_state-st-requires c =
    let t = turn-room _ _ c.kind_in-kind.result _ (turn (goal.at.next_state-st-requires c).After-is_negative-negative) c.line_sums.ensures in
    record { money_below = t.0; lines_bound = t.1 }

pub loop-rec-preserved : goal.loop-rec-preserved
unfolding next
loop-rec-preserved c =
    let q = (goal.at.loop-rec-preserved c).After-is_negative-negative in
    let g = given q in
    let e : c.next_state-st.result ≡ next q.loop-rec.st q.in-Some.rec.now = c.next_state-st.ensures ∙ next-by _ _ _ _ c.kind_in-kind.ensures c.line_sums.ensures in
    rw (e, c.is_negative-negative.ensures, c.stored_fit-fits.ensures) record { surveying = surveying-on _ _ _ _ q.loop-rec.invariant.surveying g.more _ _ g.here c.kind_in-kind.ensures (turn q); chunked = g.on }

pub returns : goal.returns
returns c = surveying-end _ _ _ _ c.loop-rec.invariant.surveying (chunk-none _ _ _ _ c.loop-rec.invariant.chunked _ c.next.ensures.steps c.in-None.is)
