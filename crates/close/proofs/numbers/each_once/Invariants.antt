-- `close::numbers::each_once` meets its contract. The loop's invariant: each of all numbers is named once where each of those left is.
use mathlib.Core.Path.{◌≡◌}
use lib.ListN.{drop}
use Rattle.close.specs.Closing.{each_once}
use Rattle.close.proofs.numbers.each_once.Given as goal

abbrev pub invariant-loop-i : goal.invariant-loop-i
invariant-loop-i l = each_once l.deleghe l.numbers ≡ each_once l.deleghe (drop l.i l.numbers)
