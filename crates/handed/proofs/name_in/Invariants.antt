use mathlib.Core.Path.{◌≡◌}
use lib.ListN.{length, drop, replicate}
use Rattle.text.specs.Placing.{put_at}
use Rattle.state.specs.Numbers.{overlay}
use Rattle.handed.proofs.name_in.Given as goal

abbrev pub invariant-loop-i : goal.invariant-loop-i
invariant-loop-i l = (length l.name ≡ 20) × (overlay l.numbers (replicate 20 0) ≡ put_at l.i (drop l.i l.numbers) l.name)
