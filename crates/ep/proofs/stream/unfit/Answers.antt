-- `ep::unfit` meets its contract.
use mathlib.Core.Path.{refl}
use Rattle.ep.specs.Stream.{unfit}
use Rattle.ep.proofs.stream.unfit.Goals as goal

pub returns : goal.returns
unfolding unfit
returns c = refl
