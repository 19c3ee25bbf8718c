use Rattle.delega.proofs.Search.{search-start, search-end, search-found, search-on}
use Rattle.judge.proofs.Chunked.{Given, chunked-start, chunk-given, chunk-none}
use Rattle.records.proofs.Sizes.{sums-small}
use Rattle.rules.proofs.Growth.{step_room}
use Rattle.rules.specs.State.{start_state}
use Prim.Native.Nat.{◌<◌}
use native.Mathlib.Omega.{arith}
use mathlib.Core.Path.{◌≡◌, sym, ◌∙◌}
use Rattle.delega.proofs.delega_from.Goals as goal
use Rattle.delega.proofs.delega_from.Goals.{After-kind_in-kind}

-- The record, as the iterator gives it.
given : (c : After-kind_in-kind) → Given c.args.flow.now c.loop-rec.st.seen c.in-Some.rec.now c.next.new.self
given c = chunk-given _ _ _ _ c.loop-rec.invariant.chunked _ c.next.ensures.steps _ c.in-Some.is

small : (c : After-kind_in-kind) → c.loop-rec.st.seen < 546
small c = let g = given c in omega (arith, g.more, c.requires.short)

pub loop-rec-init : goal.loop-rec-init
unfolding start_state
loop-rec-init c = record { searching = search-start _ _ _ _ c.start-st.ensures c.none-used.ensures; chunked = rw c.start-st.ensures (chunked-start _ _ _ c.into_iter-rec-iterator.ensures.into_iter_gives c.chunks_exact-rec-items.ensures.rest c.chunks_exact-rec-items.ensures.size) }

pub returns-then-closes : goal.returns-then-closes
returns-then-closes c =
    let q = (goal.at.returns-then-closes c).After-kind_in-kind in
    let g = given q in
    c.answer_of.ensures ∙ sym (search-found _ _ _ _ _ q.loop-rec.invariant.searching g.more _ g.here _ c.kind_in-kind.ensures (sym c.closes.ensures ∙ c.if-closes.true))

pub after-used-requires : goal.after-used-requires
after-used-requires c = let q = (goal.at.after-used-requires c).After-kind_in-kind in let s = small q in omega (arith, q.loop-rec.invariant.searching.counted)

pub next_state-st-requires : goal.next_state-st-requires
next_state-st-requires c =
    let q = (goal.at.next_state-st-requires c).After-kind_in-kind in
    let s = small q in
    let g = given q in
    let t = step_room _ _ q.loop-rec.invariant.searching.below (omega arith) (rw c.line_sums.ensures (sums-small c.kind_in-kind.result q.in-Some.rec.now g.sized)) in
    record { money_below = t.0; lines_bound = t.1 }

pub loop-rec-preserved : goal.loop-rec-preserved
loop-rec-preserved c =
    let q = (goal.at.loop-rec-preserved c).After-kind_in-kind in
    let g = given q in
    rw (c.next_state-st.ensures, c.line_sums.ensures, c.after-used.ensures)
    record { searching = search-on _ _ _ _ _ q.loop-rec.invariant.searching g.more _ g.here _ c.kind_in-kind.ensures (sym c.closes.ensures ∙ c.if-closes.false) g.sized; chunked = g.on }

pub returns : goal.returns
returns c = c.refused.ensures ∙ sym (search-end _ _ _ _ _ c.loop-rec.invariant.searching (chunk-none _ _ _ _ c.loop-rec.invariant.chunked _ c.next.ensures.steps c.in-None.is))
