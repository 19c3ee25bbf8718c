use mathlib.Core.Path.{refl, sym, ◌∙◌}
use mathlib.Core.Bool.{Bool}
use borrow.Author.Tests.{lt-leb}
use Rattle.text.proofs.Extremes.{passed_start, passed_on, passed-low, passed-end, left_end}
use Rattle.text.proofs.all_allowed.Goals as goal

pub loop-b-init : goal.loop-b-init
loop-b-init c = passed_start _

pub loop-b-preserved : goal.loop-b-preserved
loop-b-preserved c =
    let l = c.loop-b in
    rw (c.min-least.ensures, c.max-most.ensures) (l.invariant ∙ passed_on c.args.part.now l.b-index c.loop-b-test.true (λ (t : Bool). t) refl l.least l.most)

pub returns-then-least-ge32 : goal.returns-then-least-ge32
returns-then-least-ge32 c = sym (c.loop-b.invariant ∙ passed-end _ _ _ c.if-least-ge32.true (left_end _ _ c.loop-b-test.false))

pub returns-else-least-ge32 : goal.returns-else-least-ge32
returns-else-least-ge32 c = lt-leb _ _ c.if-least-ge32.false ∙ sym (c.loop-b.invariant ∙ passed-low _ _ _ c.if-least-ge32.false)
