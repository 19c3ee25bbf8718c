use native.Mathlib.Omega.{arith}
use Rattle.desk.proofs.Marked.{marks-none, marks-on}
use Rattle.desk.proofs.cases.mark.Goals as goal

pub loop-i-init : goal.loop-i-init
loop-i-init c = marks-none

pub loop-i-preserved : goal.loop-i-preserved
loop-i-preserved c = marks-on c.loop-i.i c.loop-i.list (omega arith) c.loop-i.invariant
