use Prim.Native.Nat.{◌-◌}
use mathlib.Core.Path.{◌≡◌}
use lib.ListN.{length, take}
use Rattle.desk.proofs.saving.create_beside.Given as goal

abbrev pub invariant-loop : goal.invariant-loop
invariant-loop l = take (length l.initial.name - 6) l.name ≡ take (length l.initial.name - 6) l.initial.name
