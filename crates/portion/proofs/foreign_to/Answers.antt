use Rattle.portion.proofs.foreign_to.Goals as goal

pub returns : goal.returns
returns c = rw c.no_summary.ensures
