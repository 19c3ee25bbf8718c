-- `report::put_pair` meets its contract: a number and a space, and then a number and the end of the line.
use Rattle.report.specs.Printed.{pair_text}
use Rattle.printing.proofs.Appending.{append-on}
use Rattle.report.proofs.put_pair.Goals as goal

pub returns : goal.returns
unfolding pair_text
returns c = append-on c.put_field-end.ensures c.put_field.ensures
