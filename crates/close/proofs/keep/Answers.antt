-- `close::keep` meets its contract.
use mathlib.Core.Path.{◌≡◌}
use lib.ListN.{length}
use Rattle.records.proofs.Sizes.{record-sized}
use Rattle.close.proofs.Closed.{record-stays, record-goes}
use Rattle.close.proofs.keep.Goals as goal
use Rattle.close.proofs.keep.Goals.{After-record_at-rec}

-- The record that was read has 120 bytes.
sized : (c : After-record_at-rec) → length c.record_at-rec.result.now ≡ 120
sized c = let s = c in rw c.record_at-rec.ensures (record-sized s.args.flow.now s.args.k s.requires.more)

pub kind_in-kind-requires : goal.kind_in-kind-requires
kind_in-kind-requires c = sized c

pub is_kept-requires : goal.is_kept-requires
is_kept-requires c = (sized (goal.at.is_kept-requires c).After-record_at-rec, c.kind_in-kind.ensures)

pub returns-then-is_kept : goal.returns-then-is_kept
returns-then-is_kept c =
    let q = c in
    record-stays _ _ _ _ _ _ _ q.record_at-rec.ensures q.kind_in-kind.ensures q.is_kept.ensures c.if-is_kept.true _ _ c.next_deleghe-deleghe.ensures c.move_record.ensures

pub returns : goal.returns
returns c = record-goes _ _ _ _ _ _ _ c.record_at-rec.ensures c.kind_in-kind.ensures c.is_kept.ensures c.if-is_kept.false
