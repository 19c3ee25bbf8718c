-- Believed. What the answer is called in the definitions.
use Rattle.std.specs.Prelude.{ℕ, Option, None, Some}

-- the number that a word says, or none
abbrev pub Argument : Type 0
Argument = Option ℕ

pattern abbrev pub Number : ℕ → Argument
Number n = Some n

pattern abbrev pub NoNumber : Argument
NoNumber = None
