-- `words::four_at` meets its contract: four bytes are below 256 each, so that their sum fits.
use Prim.Native.Nat.{◌+◌}
use native.Mathlib.Omega.{arith}
use Rattle.words.proofs.Fields.{four-word}
use Rattle.words.proofs.four_at.Goals as goal

pub overflow_cast-a : goal.overflow_cast-a
overflow_cast-a c = omega (arith, c.shared_slice_known-1.given c.args.at)

pub overflow_cast-b : goal.overflow_cast-b
overflow_cast-b c = omega (arith, c.shared_slice_known-2-1.given (c.args.at + 1))

pub overflow_cast-c : goal.overflow_cast-c
overflow_cast-c c = omega (arith, c.shared_slice_known-3-1.given (c.args.at + 2))

pub overflow_cast-d : goal.overflow_cast-d
overflow_cast-d c = omega (arith, c.shared_slice_known-4-1.given (c.args.at + 3))

pub overflow_mul-result : goal.overflow_mul-result
overflow_mul-result c =
    let at = c.args.at in
    let g = c.shared_slice_known-4-1.given in
    omega (arith, g at, g (at + 1), g (at + 2), g (at + 3))

pub overflow_add-result : goal.overflow_add-result
overflow_add-result c =
    let at = c.args.at in
    let g = c.shared_slice_known-4-1.given in
    omega (arith, g at, g (at + 1), g (at + 2), g (at + 3))

pub overflow_mul-result-2 : goal.overflow_mul-result-2
overflow_mul-result-2 c =
    let at = c.args.at in
    let g = c.shared_slice_known-4-1.given in
    omega (arith, g at, g (at + 1), g (at + 2), g (at + 3))

pub overflow_add-result-2 : goal.overflow_add-result-2
overflow_add-result-2 c =
    let at = c.args.at in
    let g = c.shared_slice_known-4-1.given in
    omega (arith, g at, g (at + 1), g (at + 2), g (at + 3))

pub overflow_mul-result-3 : goal.overflow_mul-result-3
overflow_mul-result-3 c =
    let at = c.args.at in
    let g = c.shared_slice_known-4-1.given in
    omega (arith, g at, g (at + 1), g (at + 2), g (at + 3))

pub overflow_add-result-3 : goal.overflow_add-result-3
overflow_add-result-3 c =
    let at = c.args.at in
    let g = c.shared_slice_known-4-1.given in
    omega (arith, g at, g (at + 1), g (at + 2), g (at + 3))

pub returns : goal.returns
returns c =
    let s = c in
    let at = s.args.at in
    let g = c.shared_slice_known-4-1.given in (
      omega (arith, four-word s.args.part.now at s.requires),
      omega (arith, g at, g (at + 1), g (at + 2), g (at + 3)),
    )
