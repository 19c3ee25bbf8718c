-- `sheet::record` meets its contract.
-- The record is there.
use native.Mathlib.Omega.{arith}
use native.Mathlib.Nat.{add-sub_cancel_left}
use Prim.Native.Nat.{◌+◌, ◌≤◌}
use lib.ListN.{length}
use Rattle.text.proofs.Bytes.{part_length}
use Rattle.sheet.proofs.Steps.{record-missing, record-entered}
use Rattle.sheet.proofs.record.Goals as goal
use Rattle.sheet.proofs.record.Goals.{Else-source-spot-lt-RECORD}

room : (c : Else-source-spot-lt-RECORD) → c.args.spot.at + 120 ≤ length c.args.source.sheet.now
room c = omega (arith, c.if-source-spot-lt-RECORD.false, c.requires.0.within)

pub returns-then-source-spot-lt-RECORD : goal.returns-then-source-spot-lt-RECORD
returns-then-source-spot-lt-RECORD c =
    let s = c in
    record-missing s.args.source.sheet.now s.args.source.name.now s.args.spot s.args.flow.now s.args.slot s.args.d c.if-source-spot-lt-RECORD.true

pub enter-requires : goal.enter-requires
enter-requires c = record {
  flow_len = (c.requires.0.room, rw (add-sub_cancel_left c.args.spot.at 120) (part_length 120 c.args.spot.at c.args.source.sheet.now (room (goal.at.enter-requires c).Else-source-spot-lt-RECORD)));
  d_bound = (c.requires.1, rw c.beyond-behind.ensures (omega (arith, c.requires.0.few)));
}

pub returns : goal.returns
returns c =
    let s = c in
    record-entered _ _ s.args.spot _ _ _ _ _ _ (room (goal.at.returns c).Else-source-spot-lt-RECORD) (rw (add-sub_cancel_left s.args.spot.at 120)) (rw c.beyond-behind.ensures at c.enter.ensures)
