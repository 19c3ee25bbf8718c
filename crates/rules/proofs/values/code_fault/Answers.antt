use Rattle.rules.specs.Values.{code_on}
use Rattle.rules.proofs.values.code_fault.Goals as goal

pub returns-then-right : goal.returns-then-right
unfolding code_on
returns-then-right c = rw c.if-right.true

pub returns : goal.returns
unfolding code_on
returns c = rw c.if-right.false
