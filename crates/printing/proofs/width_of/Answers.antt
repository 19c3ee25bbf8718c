-- `printing::width_of` meets its contract: the logarithm says between which powers of ten the number lies.
use mathlib.Core.Path.{sym}
use native.Mathlib.Omega.{arith}
use native.Mathlib.Nat.{pow-suc}
use native.Mathlib.Numerals.{add-one}
use Rattle.printing.proofs.Widths.{width_one, width-between}
use Rattle.printing.proofs.width_of.Goals as goal

pub returns-in-Some : goal.returns-in-Some
returns-in-Some c =
    let l = c.in-Some.ensures.next_power_gt in
    rw add-one (sym (width-between _ _ c.in-Some.ensures.power_le (rw pow-suc (omega arith))))

pub returns-in-None : goal.returns-in-None
returns-in-None c = let z = c.in-None.ensures.none in sym (width_one _ (omega arith))
