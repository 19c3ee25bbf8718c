-- `report::put_answered` meets its contract: the word, the five numbers of the first line, and then the lines of the sections.
use Rattle.report.specs.Printed.{answered_text}
use Rattle.printing.proofs.Appending.{append-on}
use Rattle.report.proofs.put_answered.Goals as goal

pub returns : goal.returns
unfolding answered_text
returns c =
    append-on c.put_word-word.ensures
    (append-on c.put_field-which.ensures
    (append-on c.put_field-balance.ensures
    (append-on c.put_field-lines.ensures
    (append-on c.put_pair-line.ensures c.put_sections.ensures))))
