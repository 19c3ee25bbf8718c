-- `ep_total::put_dotted` meets its contract: a dot more than the thousands have.
use native.Mathlib.Omega.{arith}
use mathlib.Core.Path.{sym}
use Rattle.printing.proofs.Appending.{append-on, append-as}
use Rattle.ep_total.proofs.Dotted.{dotted-more}
use Rattle.ep_total.proofs.put_dotted.Goals as goal

pub returns-else-n-lt1000000 : goal.returns-else-n-lt1000000
returns-else-n-lt1000000 c = append-as (append-on c.put_thousands-end.ensures c.put_group.ensures) (sym (dotted-more _ (omega arith))) (omega arith)
