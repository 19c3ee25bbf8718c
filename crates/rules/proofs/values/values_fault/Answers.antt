use Rattle.refusal.proofs.Handed.{handed_on}
use Rattle.rules.specs.Values.{values_on}
use Rattle.rules.proofs.values.values_fault.Goals as goal

pub returns-in_err-number_fault : goal.returns-in_err-number_fault
unfolding values_on
returns-in_err-number_fault c = rw (← c.number_fault.ensures, c.in_err-number_fault.was) (handed_on c.from_residual.result c.from_residual.ensures)

pub returns : goal.returns
unfolding values_on
returns c = rw (← c.number_fault.ensures, c.in_ok-number_fault.was) c.amounts_fault.ensures
