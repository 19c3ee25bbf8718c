use mathlib.Core.Path.{refl, sym, ◌∙◌}
use Rattle.portion.proofs.Counts.{most-on, most-not, most-end}
use Rattle.portion.proofs.bounds.at_most.Goals as goal

pub loop-n-init : goal.loop-n-init
loop-n-init c = refl

pub returns-then-most-n : goal.returns-then-most-n
returns-then-most-n c = sym (c.loop-n.invariant ∙ most-not _ _ _ c.loop-n-test.true c.if-most-n.true)

pub loop-n-preserved : goal.loop-n-preserved
loop-n-preserved c = c.loop-n.invariant ∙ most-on _ _ _ c.loop-n-test.true c.if-most-n.false

pub returns : goal.returns
returns c = sym (c.loop-n.invariant ∙ most-end _ _ _ c.loop-n-test.false)
