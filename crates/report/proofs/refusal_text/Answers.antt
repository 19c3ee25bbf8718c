-- `report::refusal_text` meets its contract: a short room is left as it came, and else the refusal is printed.
use native.Mathlib.Omega.{arith}
use Rattle.report.proofs.Appending.{printed-all, printed-none}
use Rattle.report.proofs.refusal_text.Goals as goal

pub returns-then-room-lt-ROOM : goal.returns-then-room-lt-ROOM
returns-then-room-lt-ROOM c = printed-none (omega arith)

pub returns : goal.returns
returns c =
    printed-all (omega arith) (omega arith) c.put_refused.ensures
