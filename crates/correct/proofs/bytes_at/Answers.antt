-- `correct::bytes_at` meets its contract: fifteen bytes copied into room for fifteen are those bytes.
use lib.ListN.{length, take, drop}
use native.Mathlib.Nat.{add-sub_cancel_left}
use Prim.Native.Nat.{◌+◌, ◌≤◌}
use Rattle.text.proofs.Bytes.{part_length}
use Rattle.text.proofs.Fits.{copied}
use Rattle.correct.proofs.bytes_at.Goals as goal

pub returns : goal.returns
returns c =
    let at = c.args.at in
    let f = c.args.flow.now in
    let h : at + 15 ≤ length f = c.requires in
    copied 15 (take 15 (drop at f)) _ (part_length 15 at f h) (rw (add-sub_cancel_left at 15) at c.put_part.ensures.1)
