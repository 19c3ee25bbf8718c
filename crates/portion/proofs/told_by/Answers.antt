use Rattle.state.specs.Numbers.{state_of}
use Rattle.portion.proofs.told_by.Goals as goal

pub returns : goal.returns
unfolding state_of
returns c = rw (c.examined_by-examined.ensures, c.summary_by-summary.ensures)
