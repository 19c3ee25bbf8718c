use mathlib.Core.Path.{◌≡◌, sym, ap, ◌∙◌}
use native.Mathlib.Omega.{arith}
use Rattle.std.specs.Prelude.{Err}
use Rattle.rules.specs.State.{start_state}
use Rattle.rules.specs.Step.{next}
use Rattle.judge.proofs.Chunked.{Given, chunked-start, chunk-given, chunk-none}
use Rattle.rebalance.specs.Weigh.{Turn}
use Rattle.rebalance.proofs.Turns.{next-by, turn-room}
use Rattle.lenient.proofs.Judging.{fault-by, judging-start, judging-end, judging-refuses, judging-on}
use Rattle.lenient.proofs.judge_kept.Goals as goal
use Rattle.lenient.proofs.judge_kept.Goals.{After-kind_in-kind}

-- The record, as the iterator gives it.
given : (c : After-kind_in-kind) → Given c.args.flow.now c.loop-rec.st.seen c.in-Some.rec.now c.next.new.self
given c = chunk-given _ _ _ _ c.loop-rec.invariant.chunked _ c.next.ensures.steps _ c.in-Some.is

turn : (c : After-kind_in-kind) → Turn c.in-Some.rec.now c.loop-rec.st
turn c =
    let g = given c in
    record {
      sized = g.sized;
      few = omega (arith, c.requires.short, g.more);
      below = c.loop-rec.invariant.judging.below;
    }

pub loop-rec-init : goal.loop-rec-init
unfolding start_state
loop-rec-init c = rw c.start-st.ensures record { judging = judging-start _ _; chunked = chunked-start _ _ _ c.into_iter-rec-iterator.ensures.into_iter_gives c.chunks_exact-rec-items.ensures.rest c.chunks_exact-rec-items.ensures.size }

pub record_fault-requires : goal.record_fault-requires
record_fault-requires c =
    let t = turn c in
    let d = t.below.deleghe-below in
    (t.sized, t.few, omega (arith, t.few))

pub overflow_add-st : goal.overflow_add-st
overflow_add-st c = omega (arith, (turn (goal.at.overflow_add-st c).After-kind_in-kind).few)

pub returns-in-Err : goal.returns-in-Err
returns-in-Err c =
    let q = (goal.at.returns-in-Err c).After-kind_in-kind in
    let g = given q in
    ap Err c.in_record.ensures ∙ judging-refuses _ _ _ q.loop-rec.invariant.judging g.more _ g.here (sym (c.record_fault.ensures ∙ fault-by _ _ _ _ _ c.kind_in-kind.ensures) ∙ c.in-Err.is)

pub next_state-st-requires : goal.next_state-st-requires
next_state-st-requires c =
    let t = turn-room _ _ c.kind_in-kind.result _ (turn (goal.at.next_state-st-requires c).After-kind_in-kind) c.line_sums.ensures in
    record { money_below = t.0; lines_bound = t.1 }

pub loop-rec-preserved : goal.loop-rec-preserved
unfolding next
loop-rec-preserved c =
    let q = (goal.at.loop-rec-preserved c).After-kind_in-kind in
    let g = given q in
    let e : c.next_state-st.result ≡ next q.loop-rec.st q.in-Some.rec.now = c.next_state-st.ensures ∙ next-by _ _ _ _ c.kind_in-kind.ensures c.line_sums.ensures in
    rw e record { judging = judging-on _ _ _ q.loop-rec.invariant.judging g.more _ g.here (turn q) (sym (c.record_fault.ensures ∙ fault-by _ _ _ _ _ c.kind_in-kind.ensures) ∙ c.in_default.is); chunked = g.on }

pub ended-requires : goal.ended-requires
ended-requires c = let a = c.loop-rec.invariant.judging.ahead in omega (arith, c.requires.short)

pub returns : goal.returns
returns c = c.ended.ensures ∙ judging-end _ _ _ c.loop-rec.invariant.judging (chunk-none _ _ _ _ c.loop-rec.invariant.chunked _ c.next.ensures.steps c.in-None.is)
