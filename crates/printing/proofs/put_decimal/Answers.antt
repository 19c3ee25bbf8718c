-- `printing::put_decimal` meets its contract: a number of 64 bits has at most twenty digits, and it is put in as many as it has.
use native.Mathlib.Omega.{arith}
use Rattle.printing.proofs.Widths.{width-twenty}
use Rattle.printing.proofs.Appending.{append-decimal}
use Rattle.printing.proofs.put_decimal.Goals as goal

pub overflow_add-result : goal.overflow_add-result
overflow_add-result c = omega (arith, width-twenty c.args.n (omega arith))

pub returns : goal.returns
returns c =
    append-decimal c.put_number.ensures.1 c.width_of-width.ensures
    (omega arith) c.requires
