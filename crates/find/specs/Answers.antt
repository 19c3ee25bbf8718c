-- Believed. What the answer is called in the definitions.
use Rattle.std.specs.Prelude.{ℕ, Result, Ok, Err}
use Rattle.refusal.specs.declared.Refusal.{Refusal}
use Rattle.refusal.specs.Refusals.{refusal}

-- the number of the line's record, or the refusal
abbrev pub Found : Type 0
Found = Result ℕ Refusal

pattern abbrev pub At : ℕ → Found
At n = Ok n

abbrev pub Refused : ℕ → ℕ → ℕ → Found
Refused n r p = Err (refusal n r p)
