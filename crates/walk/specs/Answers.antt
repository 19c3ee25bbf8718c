-- Believed. What the answer of a step is called in the definitions.
use Rattle.std.specs.Prelude.{ℕ, Option, None, Some, Result, Ok, Err}
use Rattle.refusal.specs.declared.Refusal.{Refusal}
use Rattle.refusal.specs.Refusals.{refusal}

-- the number of the record shown, or that there are no more records; or the refusal of the flow
abbrev pub Answer : Type 0
Answer = Result (Option ℕ) Refusal

pattern abbrev pub Shown : ℕ → Answer
Shown k = Ok (Some k)

pattern abbrev pub NoMore : Answer
NoMore = Ok None

abbrev pub Refused : ℕ → ℕ → ℕ → Answer
Refused n r p = Err (refusal n r p)
