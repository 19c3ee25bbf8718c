use mathlib.Core.Path.{◌≡◌}
use mathlib.Core.Bool.{true}
use Prim.Native.Nat.{◌+◌, ◌-◌, ◌*◌, ◌/◌, ◌<◌, ◌≤◌}
use lib.ListN.{length, take, drop}
use Rattle.text.specs.Characters.{all_allowed}
use Rattle.records.proofs.clean_records.Given as goal

abbrev pub invariant-loop-k : goal.invariant-loop-k
invariant-loop-k l =
    (l.seen ≤ l.k) × (l.k ≤ length l.flow / 120) × (0 < l.block) × (all_allowed (take ((l.k - l.seen) * 120) (drop (l.seen * 120) l.flow)) ≡ true)

abbrev pub decreases-loop-k : goal.decreases-loop-k
decreases-loop-k l = l.count - l.k + l.block
