-- `lenient::record_fault` meets its contract: 3, then the known misfit, then the other checks.
use Rattle.refusal.proofs.Handed.{handed_on}
use Rattle.lenient.specs.Inner.{lenient_of}
use Rattle.lenient.proofs.record_fault.Goals as goal

pub returns-in_err-char_fault : goal.returns-in_err-char_fault
unfolding lenient_of
returns-in_err-char_fault c = rw (← c.char_fault.ensures, c.in_err-char_fault.was) (handed_on c.from_residual.result c.from_residual.ensures)

pub returns-in_err-misfit_fault : goal.returns-in_err-misfit_fault
unfolding lenient_of
returns-in_err-misfit_fault c =
    rw (← c.char_fault.ensures, c.in_ok-char_fault.was, ← c.misfit_fault.ensures, c.in_err-misfit_fault.was) (handed_on c.from_residual-in_err-misfit_fault.result c.from_residual-in_err-misfit_fault.ensures)

pub returns : goal.returns
unfolding lenient_of
returns c = rw (← c.char_fault.ensures, c.in_ok-char_fault.was, ← c.misfit_fault.ensures, c.in_ok-misfit_fault.was) c.kept_fault.ensures
