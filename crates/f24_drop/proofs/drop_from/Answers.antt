-- `f24_drop::drop_from` is safe and ends: the length that is answered lies within the flow.
use native.Mathlib.Omega.{arith}
use lib.ListN.{length-take}
use Rattle.dropping.proofs.Dropped.{dropped-within}
use Rattle.f24_drop.proofs.drop_from.Goals as goal

pub slice_bounds-deliver-end : goal.slice_bounds-deliver-end
slice_bounds-deliver-end c = dropped-within _ _ _ _ _ c.drop_deleghe.ensures.0 c.drop_deleghe.ensures.1 c.in-Ok.is

pub slice_bounds-deliver-end-in-Ok : goal.slice_bounds-deliver-end-in-Ok
slice_bounds-deliver-end-in-Ok c = rw length-take (omega (arith, dropped-within _ _ _ _ _ c.drop_deleghe.ensures.0 c.drop_deleghe.ensures.1 c.in-Ok.is))
