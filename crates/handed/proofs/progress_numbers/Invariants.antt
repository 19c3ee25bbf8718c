use mathlib.Core.Path.{◌≡◌}
use lib.ListN.{length, drop, replicate}
use Rattle.text.specs.Placing.{put_at}
use Rattle.state.specs.Numbers.{overlay}
use Rattle.handed.specs.Room.{progress_numbers}
use Rattle.handed.proofs.progress_numbers.Given as goal

abbrev pub invariant-loop-i : goal.invariant-loop-i
invariant-loop-i l = (length l.numbers ≡ 53) × (length (progress_numbers l.x) ≡ 53) × (overlay (progress_numbers l.x) (replicate 53 0) ≡ put_at l.i (drop l.i (progress_numbers l.x)) l.numbers)
