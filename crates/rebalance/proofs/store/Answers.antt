-- `rebalance::store` meets its contract: the number fits its field, and the field lies within the record, so that the number is written.
use mathlib.Core.Path.{◌∙◌}
use native.Mathlib.Omega.{arith}
use Rattle.text.proofs.Fits.{number_fits_lem, number-written}
use Rattle.rebalance.proofs.store.Goals as goal

pub returns : goal.returns
returns c =
    let p = c.requires in
    let w = p.1 in
    c.put_number.ensures.1 ∙ (number-written _ _ _ _ (number_fits_lem _ _ _ _ (omega (arith, p.0, w.forward, w.inside)) p.2)).1
