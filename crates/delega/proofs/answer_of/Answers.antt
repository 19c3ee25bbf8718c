-- `delega::answer_of` meets its contract.
use Rattle.delega.proofs.answer_of.Goals as goal

pub returns : goal.returns
returns c = simp (c.final_of.ensures, c.size.ensures, c.first.ensures)
