-- `ep_total::put_group` meets its contract: a dot, and a number below 1000 in three digits.
use native.Mathlib.Omega.{arith}
use Rattle.printing.proofs.Appending.{append-on, append-number}
use Rattle.ep_total.proofs.put_group.Goals as goal

pub returns : goal.returns
returns c = append-on c.put_byte-digits.ensures (append-number c.put_number.ensures.1 (omega arith) (omega arith) 3 (omega arith))
