-- `ep_total::put_thousands` meets its contract: no dot below 1000, and else one.
use native.Mathlib.Omega.{arith}
use mathlib.Core.Path.{sym}
use Rattle.printing.proofs.Appending.{append-on, append-as}
use Rattle.ep_total.proofs.Dotted.{dotted-small, one-dot}
use Rattle.ep_total.proofs.put_thousands.Goals as goal

pub returns-then-n-lt1000 : goal.returns-then-n-lt1000
returns-then-n-lt1000 c = append-as c.put_decimal.ensures (sym (dotted-small _ c.if-n-lt1000.true)) (omega arith)

pub returns-else-n-lt1000 : goal.returns-else-n-lt1000
returns-else-n-lt1000 c = append-as (append-on c.put_decimal-end.ensures c.put_group.ensures) (one-dot _ c.if-n-lt1000.false (omega arith)) (omega arith)
