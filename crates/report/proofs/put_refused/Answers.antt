-- `report::put_refused` meets its contract: the word, and then the three numbers.
use Rattle.report.specs.Printed.{refused_text}
use Rattle.printing.proofs.Appending.{append-on}
use Rattle.report.proofs.put_refused.Goals as goal

pub returns : goal.returns
unfolding refused_text
returns c =
    append-on c.put_word-word.ensures
    (append-on c.put_field-end.ensures c.put_pair.ensures)
