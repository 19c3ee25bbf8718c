use mathlib.Core.Path.{sym, ◌∙◌}
use native.Mathlib.Omega.{arith}
use Rattle.text.proofs.Writing.{digits-on, digits-end}
use Rattle.text.proofs.write_digits.Goals as goal

pub loop-i-preserved : goal.loop-i-preserved
loop-i-preserved c =
    let p = c.requires in
    c.loop-i.invariant ∙ digits-on _ _ _ _ c.loop-i-test.true (omega arith)

pub returns : goal.returns
returns c = sym (c.loop-i.invariant ∙ digits-end _ _ _ _ c.loop-i-test.false)
