use Rattle.state.specs.Numbers.{state_of}
use Rattle.portion.proofs.summary_of.Goals as goal

pub returns : goal.returns
unfolding state_of
returns c = rw (c.lines_in.ensures, c.sums_at.ensures)
