-- `text::put_number` meets its contract: the test says whether the number fits, and only then are its digits written.
use mathlib.Core.Path.{sym, ◌∙◌}
use Rattle.text.proofs.Fits.{number-ends, number-written, number-kept}
use Rattle.text.proofs.put_number.Goals as goal

pub write_digits-requires : goal.write_digits-requires
write_digits-requires c =
    (number-ends _ _ _ _ (sym c.number_fits.ensures ∙ c.if-number_fits.true)).0

pub returns-then-number_fits : goal.returns-then-number_fits
returns-then-number_fits c =
    let w = number-written _ _ _ _ (sym c.number_fits.ensures ∙ c.if-number_fits.true) in
    (sym w.0, c.write_digits.ensures ∙ sym w.1)

pub returns-else-number_fits : goal.returns-else-number_fits
returns-else-number_fits c =
    let w = number-kept _ _ _ _ (sym c.number_fits.ensures ∙ c.if-number_fits.false) in
    (sym w.0, sym w.1)
