-- `desk::mark` meets its contract. The loop's invariant: the numbers before the index are marks.
use mathlib.Core.Path.{◌≡◌}
use lib.ListN.{take}
use Rattle.desk.specs.Marks.{marks}
use Rattle.desk.proofs.cases.mark.Given as goal

abbrev pub invariant-loop-i : goal.invariant-loop-i
invariant-loop-i l = take l.i l.list ≡ marks l.i
