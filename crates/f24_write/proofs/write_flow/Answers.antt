-- `write_flow` is safe and ends: the length of a flow that was written is no more than the room's.
use native.Mathlib.Omega.{arith}
use mathlib.Core.Path.{sym, ◌∙◌}
use lib.ListN.{length-take}
use Rattle.write.proofs.WrittenFlow.{written-length}
use Rattle.f24_write.proofs.write_flow.Goals as goal

pub slice_bounds-room-end : goal.slice_bounds-room-end
slice_bounds-room-end c = omega (arith, (written-length _ _ _ (sym c.write.ensures.0 ∙ c.in-Ok.is)).2)

pub slice_bounds-deliver-end : goal.slice_bounds-deliver-end
slice_bounds-deliver-end c = rw length-take (omega (arith, (written-length _ _ _ (sym c.write.ensures.0 ∙ c.in-Ok.is)).2))
