-- `ep_total::read_total` meets its contract: the text of the number that the digits say is written, and compared with what was given.
use mathlib.Core.Path.{sym}
use Rattle.ep_total.proofs.Reading.{no_length, too_long, compared, own, other}
use Rattle.ep_total.proofs.read_total.Goals.{else-end-le-TOTAL-via-then-end-le-TOTAL+else-same_bytes, else-end-le-TOTAL-via-else-end-le-TOTAL}
use Rattle.ep_total.proofs.read_total.Goals as goal

pub returns-then-part-ne-TOTAL : goal.returns-then-part-ne-TOTAL
returns-then-part-ne-TOTAL c = sym (no_length _ c.if-part-ne-TOTAL.true)

pub returns-then-same_bytes : goal.returns-then-same_bytes
returns-then-same_bytes c = sym (own _ _ c.if-part-ne-TOTAL.false c.digits_in-n.ensures _ (compared _ _ c.if-part-ne-TOTAL.false c.digits_in-n.ensures _ _ c.put_total-end.ensures _ c.if-end-le-TOTAL.true c.same_bytes.ensures) c.if-same_bytes.true)

pub returns-else-end-le-TOTAL : goal.returns-else-end-le-TOTAL
returns-else-end-le-TOTAL c = elim c.else-end-le-TOTAL.branch [
  | else-end-le-TOTAL-via-then-end-le-TOTAL+else-same_bytes w ↦ sym (other _ _ c.if-part-ne-TOTAL.false c.digits_in-n.ensures _ (compared _ _ c.if-part-ne-TOTAL.false c.digits_in-n.ensures _ _ c.put_total-end.ensures _ w.if-end-le-TOTAL.true w.same_bytes.ensures) w.if-same_bytes.false)
  | else-end-le-TOTAL-via-else-end-le-TOTAL w ↦ sym (too_long _ _ c.if-part-ne-TOTAL.false c.digits_in-n.ensures _ _ c.put_total-end.ensures w.if-end-le-TOTAL.false)
]
