-- Believed. What the answer is called in the definitions.
use Rattle.std.specs.Prelude.{ℕ, Result, Ok, Err}
use Rattle.refusal.specs.declared.Refusal.{Refusal}
use Rattle.refusal.specs.Refusals.{refusal}

-- the length of the flow that was written, or the refusal
abbrev pub Writing : Type 0
Writing = Result ℕ Refusal

pattern abbrev pub Written : ℕ → Writing
Written n = Ok n

abbrev pub Refused : ℕ → ℕ → ℕ → Writing
Refused n r p = Err (refusal n r p)
