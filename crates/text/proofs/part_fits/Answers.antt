-- `text::part_fits` meets its contract: the two tests by a difference say what the sum says.
use native.Mathlib.Omega.{arith}
use Rattle.std.proofs.lemmas.Grind.{common_steps}
use Rattle.text.specs.Placing.{part_fits}
use Rattle.text.proofs.part_fits.Goals as goal

pub returns-then-at-len : goal.returns-then-at-len
unfolding part_fits
returns-then-at-len c = grind (arith, common_steps)

pub returns-else-at-len : goal.returns-else-at-len
unfolding part_fits
returns-else-at-len c = grind (arith, common_steps)
