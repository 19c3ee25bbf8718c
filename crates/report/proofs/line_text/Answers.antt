-- `report::line_text` meets its contract: a short room is left as it came, and else the word and the number are printed.
use native.Mathlib.Omega.{arith}
use Rattle.report.specs.Printed.{line_text}
use Rattle.printing.proofs.Appending.{append-on}
use Rattle.report.proofs.Appending.{printed-all, printed-none}
use Rattle.report.proofs.line_text.Goals as goal

pub returns-then-room-lt-ROOM : goal.returns-then-room-lt-ROOM
returns-then-room-lt-ROOM c = printed-none (omega arith)

pub returns : goal.returns
unfolding line_text
returns c =
    printed-all (omega arith) (omega arith)
    (append-on c.put_word-word.ensures c.put_field.ensures)
