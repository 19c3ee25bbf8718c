-- `sums::matches` meets its contract.
use mathlib.Core.Path.{ap, ◌∙◌}
use borrow.Author.Tests.{lt-ltb, le-ltb, lt-leb}
use Rattle.sums.specs.declared.KeptSums.{KeptSums}
use Rattle.sums.specs.LineSums.{same_sums, stands_for}
use Rattle.sums.specs.Inner.{matched}
use Rattle.sums.proofs.matches.Goals as goal

pub returns-then-flow-le-MOST_BYTES : goal.returns-then-flow-le-MOST_BYTES
unfolding matched stands_for
returns-then-flow-le-MOST_BYTES c = c.same.ensures ∙ (ap (λ (l : KeptSums). same_sums c.args.kept.sums l.sums) c.of_lines.ensures ∙ rw (le-ltb _ _ c.if-flow-le-MOST_BYTES.true))

pub returns-else-flow-le-MOST_BYTES : goal.returns-else-flow-le-MOST_BYTES
unfolding matched
returns-else-flow-le-MOST_BYTES c = rw (lt-ltb _ _ c.if-flow-le-MOST_BYTES.false, lt-leb _ _ c.if-flow-le-MOST_BYTES.false)
