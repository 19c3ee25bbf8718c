-- `desk::put_numbers` meets its contract. The loop's invariant: the numbers before the index are those of the text.
use mathlib.Core.Path.{◌≡◌}
use lib.ListN.{take}
use Rattle.desk.specs.Header.{numbers_in}
use Rattle.desk.proofs.cases.put_numbers.Given as goal

abbrev pub invariant-loop-i : goal.invariant-loop-i
invariant-loop-i l = take l.i l.list ≡ numbers_in l.text l.i
