-- `ep::with_other` meets its contract.
use mathlib.Core.Path.{refl}
use Rattle.ep.specs.Payments.{with_other}
use Rattle.ep.proofs.with_other.Goals as goal

pub returns : goal.returns
unfolding with_other
returns c = refl
