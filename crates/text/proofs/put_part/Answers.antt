-- `text::put_part` meets its contract: the test says whether the part fits, and only then are its bytes written.
use mathlib.Core.Path.{sym, ◌∙◌}
use native.Mathlib.Omega.{arith}
use Rattle.text.proofs.Fits.{part-ends, part-written, part-kept}
use Rattle.text.proofs.Puts.{put_mid-put}
use Rattle.text.proofs.put_part.Goals as goal

pub overflow_add-at : goal.overflow_add-at
overflow_add-at c = let h = part-ends _ _ _ (sym c.part_fits.ensures ∙ c.if-part_fits.true) in omega arith

pub slice_bounds-copy_from_slice-end : goal.slice_bounds-copy_from_slice-end
slice_bounds-copy_from_slice-end c = let h = part-ends _ _ _ (sym c.part_fits.ensures ∙ c.if-part_fits.true) in omega arith

pub returns-then-part_fits : goal.returns-then-part_fits
returns-then-part_fits c =
    let a = c.args in
    let w = part-written a.at a.part.now a.room.now (sym c.part_fits.ensures ∙ c.if-part_fits.true) in
    (sym w.0, rw c.copy_from_slice.ensures.after (put_mid-put a.at _ a.part.now a.room.now (omega arith)) ∙ sym w.1)

pub returns-else-part_fits : goal.returns-else-part_fits
returns-else-part_fits c =
    let a = c.args in
    let w = part-kept a.at a.part.now a.room.now (sym c.part_fits.ensures ∙ c.if-part_fits.false) in
    (sym w.0, sym w.1)
