-- `delega::used::Used::size` meets its contract.
use Rattle.delega.specs.Used.{size_of}
use Rattle.delega.proofs.used.Used.size.Goals as goal

pub returns : goal.returns
unfolding size_of
returns c = c.from.ensures
