-- `ep::with_payment` meets its contract.
use mathlib.Core.Path.{refl}
use Rattle.ep.specs.Payments.{with_payment}
use Rattle.ep.proofs.with_payment.Goals as goal

pub returns : goal.returns
unfolding with_payment
returns c = refl
