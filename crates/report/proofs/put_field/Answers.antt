-- `report::put_field` meets its contract: the number, and then the byte after it.
use Rattle.report.specs.Printed.{field_text}
use Rattle.printing.proofs.Appending.{append-on}
use Rattle.report.proofs.put_field.Goals as goal

pub returns : goal.returns
unfolding field_text
returns c = append-on c.put_decimal-end.ensures c.put_byte.ensures
