use Prim.Native.Nat.{ℕ, ◌+◌}
use mathlib.Core.Path.{sym, ap, ◌∙◌}
use native.Mathlib.Omega.{arith}
use Rattle.refusal.proofs.Handed.{handed_on}
use Rattle.ep.specs.declared.Tally.{Tally}
use Rattle.ep.specs.Payments.{judged_from}
use Rattle.ep.proofs.Steps.{small-start}
use Rattle.ep.proofs.Records.{size-sized, judged-30, judged-all, record-none, judged-end, part-is, turn_on, turn-stops, turn_small, turn-seen}
use Rattle.ep.proofs.ep_judge.Goals as goal

pub returns-then-not-size_right : goal.returns-then-not-size_right
returns-then-not-size_right c = sym (judged-30 _ (sym c.size_right.ensures ∙ c.if-not-size_right.true))

pub loop-i-init : goal.loop-i-init
loop-i-init c =
    let right = sym c.size_right.ensures ∙ c.if-not-size_right.false in
    let z = size-sized _ right in
    (omega (arith, z.most), omega arith, small-start _ c.no_tally-tally.ensures, ap (λ (t : Tally). t.seen) c.no_tally-tally.ensures, judged-all _ right _ c.no_tally-tally.ensures)

pub overflow_mul-at : goal.overflow_mul-at
overflow_mul-at c = omega (arith, c.loop-i.invariant.0)

pub overflow_add-at : goal.overflow_add-at
overflow_add-at c = omega (arith, c.loop-i.invariant.0)

pub slice_bounds-step_by-end : goal.slice_bounds-step_by-end
slice_bounds-step_by-end c = omega (arith, c.loop-i.invariant.1)

pub step_by-done-requires : goal.step_by-done-requires
step_by-done-requires c =
    let l = c.loop-i in
    (part-is l.i _ (omega (arith, l.invariant.1)), l.invariant.2, omega (arith, l.invariant.0, l.invariant.3))

pub returns-in_err-done : goal.returns-in_err-done
returns-in_err-done c =
    handed_on c.from_residual.result c.from_residual.ensures ∙ sym (c.loop-i.invariant.4 ∙ turn-stops _ _ _ c.loop-i-test.true _ _ c.step_by-done.ensures _ c.in_err-done.was)

pub loop-i-preserved : goal.loop-i-preserved
loop-i-preserved c =
    let l = c.loop-i in
    let in-loop = c.loop-i-test.true in
    let done = c.step_by-done.ensures in (
      l.invariant.0,
      l.invariant.1,
      turn_small _ _ l.i in-loop _ _ done l.invariant.1 l.invariant.2 (omega (arith, l.invariant.0, l.invariant.3)),
      turn-seen _ _ l.i in-loop _ _ done ∙ ap (λ (k : ℕ). k + 1) l.invariant.3,
      l.invariant.4 ∙ turn_on _ _ l.i in-loop _ _ done c.in_ok-done.was,
    )

pub ended-requires : goal.ended-requires
ended-requires c = c.loop-i.invariant.2

pub returns : goal.returns
returns c = c.ended.ensures ∙ sym (c.loop-i.invariant.4 ∙ (ap (judged_from c.loop-i.tally) (record-none _ _ _ c.loop-i-test.false) ∙ judged-end _))
