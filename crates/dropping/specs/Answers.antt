-- Believed. What the answer is called in the definitions.
use Rattle.std.specs.Prelude.{ℕ, Result, Ok, Err}
use Rattle.refusal.specs.declared.Refusal.{Refusal}
use Rattle.refusal.specs.Refusals.{refusal}

-- the new length of the flow, or the refusal
abbrev pub Dropping : Type 0
Dropping = Result ℕ Refusal

pattern abbrev pub Dropped : ℕ → Dropping
Dropped n = Ok n

abbrev pub Refused : ℕ → ℕ → ℕ → Dropping
Refused n r p = Err (refusal n r p)
