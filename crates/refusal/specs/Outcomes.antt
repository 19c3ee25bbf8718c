-- Believed. The outcome of a check: it passes, or it has a fault with a number and a position.
use Rattle.std.specs.Prelude.{ℕ, Result, Ok, Err}
use Rattle.refusal.specs.declared.Fault.{Fault}

abbrev pub Outcome : Type 0
Outcome = Result Unit Fault

pattern abbrev pub Pass : Outcome
Pass = Ok tt

abbrev pub Fails : ℕ → ℕ → Outcome
Fails n p = Err (record { number = n; position = p })
