use Rattle.rules.specs.Checks.{tail_name}
use Rattle.rules.proofs.values.tail_record.Goals as goal

pub returns-then-same_name : goal.returns-then-same_name
unfolding tail_name
returns-then-same_name c = rw (← c.same_name.ensures, c.if-same_name.true) c.tail_fault.ensures

pub returns : goal.returns
unfolding tail_name
returns c = rw (← c.same_name.ensures, c.if-same_name.false)
