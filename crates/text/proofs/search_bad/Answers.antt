use mathlib.Core.Path.{sym, ◌∙◌}
use native.Mathlib.Omega.{arith}
use Rattle.text.proofs.Allowed.{bad-low, bad-high, bad-on, bad-end}
use Rattle.text.proofs.search_bad.Goals.{in-32-to-126, in_default, in_default-2}
use Rattle.text.proofs.search_bad.Goals as goal

pub returns-then-not-matches : goal.returns-then-not-matches
returns-then-not-matches c = elim c.if-matches.branch [
  | in-32-to-126 w ↦ cc
  | in_default w ↦ sym (c.loop-i.invariant ∙ bad-low _ _ c.loop-i-test.true (omega arith))
  | in_default-2 w ↦ sym (c.loop-i.invariant ∙ bad-high _ _ c.loop-i-test.true (omega arith) (omega arith))
]

pub loop-i-preserved : goal.loop-i-preserved
loop-i-preserved c = elim c.if-matches.branch [
  | in-32-to-126 w ↦ c.loop-i.invariant ∙ bad-on _ _ c.loop-i-test.true (omega arith) (omega arith)
  | in_default w ↦ cc
  | in_default-2 w ↦ cc
]

pub returns : goal.returns
returns c = sym (c.loop-i.invariant ∙ bad-end _ _ c.loop-i-test.false)
