use Prim.Native.Nat.{◌+◌, ◌-◌}
use mathlib.Core.Path.{◌≡◌, sym, ◌∙◌}
use native.Mathlib.Omega.{arith}
use Rattle.text.proofs.Numerals.{spelled-on, spelled-end}
use Rattle.text.proofs.spelled.Goals as goal

pub loop-preserved : goal.loop-preserved
loop-preserved c =
    let e : c.args.width - c.loop.counter - 1 ≡ c.args.width - (c.loop.counter + 1) = omega arith in
    c.loop.invariant ∙ (spelled-on _ _ (omega arith) ∙ rw e)

pub returns : goal.returns
returns c = sym (c.loop.invariant ∙ spelled-end _ _ (omega arith))
