-- `ep_total::put_total` meets its contract: the euros, a comma, and the cents in two digits.
use native.Mathlib.Omega.{arith}
use Rattle.printing.proofs.Appending.{append-on, append-number}
use Rattle.ep_total.specs.Total.{total_text}
use Rattle.ep_total.proofs.put_total.Goals as goal

pub returns : goal.returns
unfolding total_text
returns c = append-on c.put_euros-comma.ensures (append-on c.put_byte-cents.ensures (append-number c.put_number.ensures.1 (omega arith) (omega arith) 2 (omega arith)))
