-- An example by computing: the number 0 is printed as one digit.
use mathlib.Core.Path.{◌≡◌, refl}
use mathlib.Core.List.{[], ◌∷◌}
use Rattle.text.specs.Numbers.{digits_of}
use Rattle.printing.specs.Decimal.{width_within, width_of, decimal}

-- "decimal numbers without leading zeros": the number 0 is the digit 0
pub decimal-zero : decimal 0 ≡ 48 ∷ []
unfolding decimal width_of width_within digits_of
decimal-zero = refl
