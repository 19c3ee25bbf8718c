-- Believed. What the answer is called in the definitions.
use Rattle.std.specs.Prelude.{ℕ, Result, Ok, Err}
use Rattle.refusal.specs.declared.Refusal.{Refusal}
use Rattle.refusal.specs.Refusals.{refusal}

-- the number of fields that changed, or the refusal
abbrev pub Mending : Type 0
Mending = Result ℕ Refusal

pattern abbrev pub Mended : ℕ → Mending
Mended n = Ok n

abbrev pub Refused : ℕ → ℕ → ℕ → Mending
Refused n r p = Err (refusal n r p)
