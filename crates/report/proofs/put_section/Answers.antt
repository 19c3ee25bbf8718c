-- `report::put_section` meets its contract: the subtype, a space, and then the two sums.
use Rattle.report.specs.Printed.{section_text}
use Rattle.printing.proofs.Appending.{append-on}
use Rattle.report.proofs.put_section.Goals as goal

pub returns : goal.returns
unfolding section_text
returns c =
    append-on c.put_subtype-word.ensures
    (append-on c.put_byte-end.ensures c.put_pair.ensures)
