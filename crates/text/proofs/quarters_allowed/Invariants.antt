-- `text::quarters_allowed` meets its contract. The loop's invariant: the four quarters are allowed where the least byte so far is at least 32,
-- the greatest at most 126, and what is left of each quarter is allowed.
use Prim.Native.Nat.{◌*◌}
use mathlib.Core.Path.{◌≡◌}
use lib.ListN.{take}
use Rattle.text.specs.Characters.{all_allowed}
use Rattle.text.proofs.Extremes.{passed, left4}
use Rattle.text.proofs.quarters_allowed.Given as goal

abbrev pub invariant-loop-i : goal.invariant-loop-i
invariant-loop-i l = all_allowed (take (l.quarter * 4) l.part) ≡ passed l.least l.most (left4 l.i l.a l.b l.c l.d)
