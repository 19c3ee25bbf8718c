-- `delega::used::Used::first` meets its contract.
use native.Mathlib.Omega.{arith}
use lib.Count.{trailing_le}
use mathlib.Core.Path.{refl}
use Rattle.delega.specs.Used.{first_of}
use Rattle.delega.proofs.used.Used.first.Goals as goal

pub overflow_cast-result : goal.overflow_cast-result
overflow_cast-result c = omega (arith, trailing_le 64 c.args.self.set)

pub returns : goal.returns
unfolding first_of
returns c = refl
