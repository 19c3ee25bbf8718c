-- `lenient::tail_fault` meets its contract.
use Rattle.rules.specs.Checks.{tail_name}
use Rattle.lenient.proofs.tail_fault.Goals as goal

pub returns-then-same_bytes : goal.returns-then-same_bytes
unfolding tail_name
returns-then-same_bytes c = rw (← c.same_bytes.ensures, c.if-same_bytes.true)

pub returns : goal.returns
unfolding tail_name
returns c = rw (← c.same_bytes.ensures, c.if-same_bytes.false)
