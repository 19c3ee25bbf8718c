-- Believed. What the answer is called in the definitions.
use Rattle.std.specs.Prelude.{ℕ, Result, Ok, Err}
use Rattle.refusal.specs.declared.Refusal.{Refusal}
use Rattle.refusal.specs.Refusals.{refusal}

-- no fault among the checks that stay, or the refusal
abbrev pub Lenient : Type 0
Lenient = Result Unit Refusal

pattern abbrev pub Passed : Lenient
Passed = Ok tt

abbrev pub Refused : ℕ → ℕ → ℕ → Lenient
Refused n r p = Err (refusal n r p)
