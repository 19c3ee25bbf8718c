-- `drop_cases::make` is safe: the length that is answered lies within the lent flow.
use native.Mathlib.Omega.{arith}
use lib.ListN.{length-take}
use Rattle.dropping.proofs.Dropped.{dropped-within}
use Rattle.drop_cases.proofs.make.Goals as goal

pub slice_bounds-judge-end : goal.slice_bounds-judge-end
slice_bounds-judge-end c = dropped-within _ _ _ _ _ c.drop_deleghe.ensures.0 c.drop_deleghe.ensures.1 c.in-Ok.is

pub slice_bounds-judge-end-in-Ok : goal.slice_bounds-judge-end-in-Ok
slice_bounds-judge-end-in-Ok c = rw length-take (omega (arith, dropped-within _ _ _ _ _ c.drop_deleghe.ensures.0 c.drop_deleghe.ensures.1 c.in-Ok.is))
