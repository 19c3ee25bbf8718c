-- `text::number_fits` meets its contract: the room is tested, and then the digits.
use mathlib.Core.Path.{sym, ◌∙◌}
use Rattle.text.proofs.Fits.{number-by-digits, number-unfit}
use Rattle.text.proofs.number_fits.Goals as goal

pub returns-then-part_fits : goal.returns-then-part_fits
returns-then-part_fits c =
    c.spelled.ensures
    ∙ sym (number-by-digits _ _ _ _ (sym c.part_fits.ensures ∙ c.if-part_fits.true))

pub returns-else-part_fits : goal.returns-else-part_fits
returns-else-part_fits c = c.if-part_fits.false ∙ sym (number-unfit _ _ _ _ (sym c.part_fits.ensures ∙ c.if-part_fits.false))
