-- `words::pair_at` meets its contract: two bytes are below 256 each, so that their sum fits.
use Prim.Native.Nat.{◌+◌}
use native.Mathlib.Omega.{arith}
use Rattle.words.proofs.pair_at.Goals as goal

pub overflow_cast-result : goal.overflow_cast-result
overflow_cast-result c = omega (arith, c.shared_slice_known-1.given c.args.at)

pub overflow_cast-result-2 : goal.overflow_cast-result-2
overflow_cast-result-2 c =
    let at = c.args.at in
    let g = c.shared_slice_known-2-1.given in
    omega (arith, g at, g (at + 1))

pub overflow_mul-result : goal.overflow_mul-result
overflow_mul-result c =
    let at = c.args.at in
    let g = c.shared_slice_known-2-1.given in
    omega (arith, g at, g (at + 1))

pub overflow_add-result-2 : goal.overflow_add-result-2
overflow_add-result-2 c =
    let at = c.args.at in
    let g = c.shared_slice_known-2-1.given in
    omega (arith, g at, g (at + 1))
