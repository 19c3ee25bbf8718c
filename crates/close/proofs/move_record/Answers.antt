-- `close::move_record` meets its contract.
use native.Mathlib.Omega.{arith}
use Rattle.text.proofs.Bytes.{part_length}
use Rattle.close.proofs.Closed.{record-moved}
use Rattle.close.proofs.move_record.Goals as goal

pub returns : goal.returns
returns c =
    let s = c in
    record-moved _ _ _ _ _ _ _ _ _ (rw s.record_at.ensures (part_length 120 s.args.from s.args.flow.now s.requires.0)) s.record_at.ensures (omega (arith, s.requires.0, s.requires.1)) s.put_part.ensures.1 c.put_delega.ensures c.put_part-2.ensures.1
