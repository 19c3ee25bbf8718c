-- `text::search_bad` meets its contract. The loop's invariant: the first bad byte of what is left is that of the whole part.
use mathlib.Core.Path.{◌≡◌}
use lib.ListN.{drop}
use Rattle.text.specs.Characters.{first_bad, first_bad_from}
use Rattle.text.proofs.search_bad.Given as goal

abbrev pub invariant-loop-i : goal.invariant-loop-i
invariant-loop-i l = first_bad l.part ≡ first_bad_from l.i (drop l.i l.part)
