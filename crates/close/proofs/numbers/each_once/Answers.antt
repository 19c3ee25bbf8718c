use mathlib.Core.Path.{sym, ◌∙◌}
use Rattle.close.proofs.Named.{once-fails, once-on, once-end}
use Rattle.close.proofs.Counted.{too_many}
use Rattle.close.proofs.numbers.each_once.Goals as goal

pub returns-then-deleghe-numbers : goal.returns-then-deleghe-numbers
returns-then-deleghe-numbers c = sym (too_many _ _ c.if-deleghe-numbers.true)

pub returns-then-not-is_named_once : goal.returns-then-not-is_named_once
returns-then-not-is_named_once c = sym (c.loop-i.invariant ∙ once-fails _ _ _ _ c.loop-i-test.true c.is_named_once.ensures c.if-not-is_named_once.true)

pub loop-i-preserved : goal.loop-i-preserved
loop-i-preserved c = c.loop-i.invariant ∙ once-on _ _ _ _ c.loop-i-test.true c.is_named_once.ensures c.if-not-is_named_once.false

pub returns : goal.returns
returns c = sym (c.loop-i.invariant ∙ once-end _ _ _ c.loop-i-test.false)
