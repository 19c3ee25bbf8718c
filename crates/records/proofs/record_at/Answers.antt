use native.Mathlib.Nat.{add-sub_cancel_left}
use Rattle.records.proofs.record_at.Goals as goal

pub returns : goal.returns
returns c = rw (add-sub_cancel_left c.args.at 120)
