-- `kept_cases::run_steps` is safe and ends: the length that a step leaves lies within the lent flow.
use Prim.Native.Nat.{◌≤◌}
use mathlib.Core.Path.{◌≡◌}
use lib.ListN.{length}
use Rattle.kept_cases.proofs.run_steps.Given as goal

abbrev pub invariant-loop : goal.invariant-loop
invariant-loop l = (length l.flow ≡ length l.initial.flow) × (l.length ≤ length l.initial.flow)
