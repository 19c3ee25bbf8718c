-- `ep_total::put_euros` meets its contract: the dots go from a thousand millions on.
use native.Mathlib.Omega.{arith}
use mathlib.Core.Path.{sym}
use Rattle.printing.proofs.Appending.{append-as}
use Rattle.ep_total.proofs.Dotted.{euros-dotted, euros-plain}
use Rattle.ep_total.proofs.put_euros.Goals as goal

pub returns-then-n-lt1000000000 : goal.returns-then-n-lt1000000000
returns-then-n-lt1000000000 c = append-as c.put_dotted.ensures (sym (euros-dotted _ c.if-n-lt1000000000.true)) (omega arith)

pub returns-else-n-lt1000000000 : goal.returns-else-n-lt1000000000
returns-else-n-lt1000000000 c = append-as c.put_decimal.ensures (sym (euros-plain _ c.if-n-lt1000000000.false)) (omega arith)
