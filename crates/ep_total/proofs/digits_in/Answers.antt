use mathlib.Core.Path.{refl, sym, ◌∙◌}
use native.Mathlib.Omega.{arith}
use Rattle.text.proofs.Numerals.{small}
use Rattle.ep_total.proofs.Texts.{digits-on, digits-end, digit-more}
use Rattle.ep_total.proofs.digits_in.Goals as goal

pub loop-b-init : goal.loop-b-init
loop-b-init c = (omega arith, refl)

pub with_digit-n-requires : goal.with_digit-n-requires
with_digit-n-requires c = small c.loop-b.b-index _ (omega arith) c.loop-b.invariant.0

pub loop-b-preserved : goal.loop-b-preserved
loop-b-preserved c =
    let l = c.loop-b in
    (digit-more _ _ _ _ l.invariant.0 c.with_digit-n.ensures, l.invariant.1 ∙ digits-on _ _ _ _ c.loop-b-test.true c.with_digit-n.ensures)

pub returns : goal.returns
returns c = sym (c.loop-b.invariant.1 ∙ digits-end _ _ _ c.loop-b-test.false)
