-- `f24_judge::call_on` meets its contract: going on from the calls that have been made gives what all of them come to.
use Prim.Native.Nat.{◌-◌}
use mathlib.Core.Path.{◌≡◌}
use Rattle.f24_judge.specs.InTurn.{called_on, calls_of}
use Rattle.f24_judge.proofs.call_on.Given as goal

abbrev pub invariant-loop-made : goal.invariant-loop-made
invariant-loop-made l = called_on (546 - l.made) l.flow l.portion l.last l.made ≡ calls_of l.flow l.portion
