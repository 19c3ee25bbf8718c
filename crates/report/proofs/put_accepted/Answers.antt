-- `report::put_accepted` meets its contract: the word, the four numbers of the first line, and then the lines of the sections.
use Rattle.report.specs.Printed.{accepted_text}
use Rattle.printing.proofs.Appending.{append-on}
use Rattle.report.proofs.put_accepted.Goals as goal

pub returns : goal.returns
unfolding accepted_text
returns c =
    append-on c.put_word-word.ensures
    (append-on c.put_field-deleghe.ensures
    (append-on c.put_field-records.ensures
    (append-on c.put_pair-line.ensures c.put_sections.ensures)))
