-- `ep::start` meets its contract.
use Rattle.ep.proofs.Courses.{started}
use Rattle.ep.proofs.stream.start.Goals as goal

pub returns : goal.returns
returns c = started _ c.no_tally.ensures
