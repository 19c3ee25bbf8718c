-- Believed. What the answers of the functions are called in the definitions.
use Rattle.std.specs.Prelude.{ℕ, Option, None, Some}

-- the amount that the characters of an amount say, or none where one of them is no digit
abbrev pub Fifteen : Type 0
Fifteen = Option ℕ

pattern abbrev pub Amount : ℕ → Fifteen
Amount v = Some v

pattern abbrev pub NonDigit : Fifteen
NonDigit = None
