-- `report::delega_text` meets its contract: a short room is left as it came, and else the text of either answer is printed.
use native.Mathlib.Omega.{arith}
use Rattle.report.specs.Printed.{delega_text}
use Rattle.report.proofs.Appending.{printed-all, printed-none, accepted-text, refused-text}
use Rattle.report.proofs.delega_text.Goals as goal

pub returns-then-room-lt-ROOM : goal.returns-then-room-lt-ROOM
returns-then-room-lt-ROOM c = printed-none (omega arith)

pub returns-in-Ok : goal.returns-in-Ok
unfolding delega_text
returns-in-Ok c =
    rw (accepted-text c.args.answer.verdict _ c.in-Ok.is)
    (printed-all (omega arith) (omega arith) c.put_answered.ensures)

pub returns-in-Err : goal.returns-in-Err
unfolding delega_text
returns-in-Err c =
    rw (refused-text c.args.answer.verdict _ c.in-Err.is)
    (printed-all (omega arith) (omega arith) c.put_refused.ensures)
