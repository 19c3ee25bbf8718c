-- `write_cases::make` is safe: the length answered lies within the room.
use native.Mathlib.Omega.{arith}
use lib.ListN.{length-take}
use Rattle.write.proofs.WrittenFlow.{written-within}
use Rattle.write_cases.proofs.make.Goals as goal

pub slice_bounds-judge-end : goal.slice_bounds-judge-end
slice_bounds-judge-end c = written-within _ _ _ _ _ c.write.ensures.0 c.write.ensures.1 c.in-Ok.is

pub slice_bounds-judge-end-in-Ok : goal.slice_bounds-judge-end-in-Ok
slice_bounds-judge-end-in-Ok c = rw length-take (omega (arith, written-within _ _ _ _ _ c.write.ensures.0 c.write.ensures.1 c.in-Ok.is))
