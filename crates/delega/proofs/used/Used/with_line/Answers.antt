-- `delega::used::Used::with_line` meets its contract.
use Rattle.delega.proofs.used.Used.with_line.Goals as goal

pub returns : goal.returns
returns c = rw c.bit_of.ensures
