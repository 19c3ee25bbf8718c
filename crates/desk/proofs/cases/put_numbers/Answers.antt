use native.Mathlib.Omega.{arith}
use Rattle.desk.proofs.Listed.{numbers-none, numbers_on}
use Rattle.desk.proofs.cases.put_numbers.Goals as goal

pub loop-i-init : goal.loop-i-init
loop-i-init c = numbers-none _

pub loop-i-preserved : goal.loop-i-preserved
loop-i-preserved c = numbers_on _ c.loop-i.i _ c.loop-i.list (omega arith) c.loop-i.invariant c.number_in.ensures
