-- Believed. What the answer is called in the definitions.
use Rattle.std.specs.Prelude.{ℕ, Result, Ok, Err}
use Rattle.refusal.specs.declared.Refusal.{Refusal}
use Rattle.refusal.specs.Refusals.{refusal}

-- the correction is made, or the refusal
abbrev pub Correction : Type 0
Correction = Result Unit Refusal

pattern abbrev pub Made : Correction
Made = Ok tt

abbrev pub Refused : ℕ → ℕ → ℕ → Correction
Refused n r p = Err (refusal n r p)
