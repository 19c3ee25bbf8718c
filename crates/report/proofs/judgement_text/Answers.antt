-- `report::judgement_text` meets its contract: a short room is left as it came, and else the text of either verdict is printed.
use native.Mathlib.Omega.{arith}
use Rattle.report.specs.Printed.{judgement_text}
use Rattle.report.proofs.Appending.{printed-all, printed-none, accepted-text, refused-text}
use Rattle.report.proofs.judgement_text.Goals as goal

pub returns-then-room-lt-ROOM : goal.returns-then-room-lt-ROOM
returns-then-room-lt-ROOM c = printed-none (omega arith)

pub returns-in-Ok : goal.returns-in-Ok
unfolding judgement_text
returns-in-Ok c =
    rw (accepted-text c.args.j.verdict _ c.in-Ok.is)
    (printed-all (omega arith) (omega arith) c.put_accepted.ensures)

pub returns-in-Err : goal.returns-in-Err
unfolding judgement_text
returns-in-Err c =
    rw (refused-text c.args.j.verdict _ c.in-Err.is)
    (printed-all (omega arith) (omega arith) c.put_refused.ensures)
