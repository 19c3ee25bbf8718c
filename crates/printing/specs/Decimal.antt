-- Believed. How a number is printed: in decimal digits, as many as it has.
use Rattle.std.specs.Prelude.{ℕ, zero, suc, ◌+◌, ◌/◌, List, cond, ltb}
use Rattle.text.specs.Numbers.{digits_of}

-- "decimal numbers": how many digits a number of at most k has, one below ten and else one more than a tenth of it
unfoldable pub width_within : ℕ → ℕ → ℕ
width_within zero n = 1
width_within (suc k) n = cond (ltb n 10) 1 (width_within k (n / 10) + 1)

-- "without leading zeros": the number of digits that a number has
unfoldable pub width_of : ℕ → ℕ
width_of n = width_within n n

-- "prints decimal numbers without leading zeros"
unfoldable pub decimal : ℕ → List ℕ
decimal n = digits_of (width_of n) n
