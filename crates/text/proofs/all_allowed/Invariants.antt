-- `text::all_allowed` meets its contract. The loop's invariant: the whole part is allowed where the least byte so far is at least 32, the
-- greatest at most 126, and what is left is allowed.
use mathlib.Core.Path.{◌≡◌}
use Rattle.text.specs.Characters.{all_allowed}
use Rattle.text.proofs.Extremes.{passed, left}
use Rattle.text.proofs.all_allowed.Given as goal

abbrev pub invariant-loop-b : goal.invariant-loop-b
invariant-loop-b l = all_allowed l.part ≡ passed l.least l.most (left l.b-index l.part)
