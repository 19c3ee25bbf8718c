-- `ep::total_in` meets its contract.
use Rattle.ep.specs.Payments.{total_in}
use Rattle.ep.proofs.total_in.Goals as goal

pub returns : goal.returns
unfolding total_in
returns c = c.read_total.ensures
