use mathlib.Core.Path.{sym, ◌∙◌}
use native.Mathlib.Omega.{arith}
use borrow.Author.Tests.{lt-leb}
use lib.ListN.{length-take, length-drop}
use Rattle.text.proofs.Extremes.{passed-start4, passed-on4, passed-low, passed-end, left4-end}
use Rattle.text.proofs.quarters_allowed.Goals as goal

pub loop-i-init : goal.loop-i-init
loop-i-init c = passed-start4 c.args.part.now c.args.quarter

pub loop-i-preserved : goal.loop-i-preserved
loop-i-preserved c =
    let v = c.loop-i in
    let t = c.loop-i-test.true in
    let r = c.requires in
    rw (
      c.min-least.ensures,
      c.min-in-loop-i-2.ensures,
      c.min-in-loop-i.ensures,
      c.min.ensures,
      c.max-most.ensures,
      c.max-in-loop-i-2.ensures,
      c.max-in-loop-i.ensures,
      c.max.ensures,
    )
    (v.invariant ∙ passed-on4 _ _ _ _ v.i (simp (length-take, length-drop) (omega arith)) (simp (length-take, length-drop) (omega arith)) (simp (length-take, length-drop) (omega arith)) (simp (length-take, length-drop) (omega arith)) v.least v.most)

pub returns-then-least-ge32 : goal.returns-then-least-ge32
returns-then-least-ge32 c =
    let t = c.loop-i-test.false in
    sym (c.loop-i.invariant ∙ passed-end _ _ _ c.if-least-ge32.true (left4-end _ _ _ _ _ (simp length-take (omega arith)) (simp length-take (omega arith)) (simp length-take (omega arith)) (simp length-take (omega arith))))

pub returns-else-least-ge32 : goal.returns-else-least-ge32
returns-else-least-ge32 c = lt-leb _ _ c.if-least-ge32.false ∙ sym (c.loop-i.invariant ∙ passed-low _ _ _ c.if-least-ge32.false)
