use mathlib.Core.Path.{◌≡◌}
use lib.ListN.{drop}
use Rattle.portion.specs.Portion.{at_most}
use Rattle.portion.proofs.bounds.at_most.Given as goal

abbrev pub invariant-loop-n : goal.invariant-loop-n
invariant-loop-n l = at_most l.most l.numbers ≡ at_most l.most (drop l.n-index l.numbers)
