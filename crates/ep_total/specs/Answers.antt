-- Believed. What the text of a total says is called in the definitions.
use Rattle.std.specs.Prelude.{ℕ, Option, None, Some}

-- the cents that it says, or none
abbrev pub Total : Type 0
Total = Option ℕ

pattern abbrev pub Cents : ℕ → Total
Cents n = Some n

pattern abbrev pub NoTotal : Total
NoTotal = None
