-- Believed. What the outcome of a record and the answer are called in the definitions.
use Rattle.std.specs.Prelude.{ℕ, Result, Ok, Err}
use Rattle.refusal.specs.declared.Refusal.{Refusal}
use Rattle.refusal.specs.Refusals.{refusal}
use Rattle.ep.specs.declared.Payments.{Payments}

-- a record passes, or has a failed check, which is told by its number, "with the record's number and position 0"
abbrev pub Outcome : Type 0
Outcome = Result Unit Refusal

pattern abbrev pub Pass : Outcome
Pass = Ok tt

abbrev pub Fault : ℕ → ℕ → Outcome
Fault n at = Err (refusal n at 0)

-- the count of M and the sum of their totals, or the refusal
abbrev pub EpAnswer : Type 0
EpAnswer = Result Payments Refusal

abbrev pub Accepted : ℕ → ℕ → EpAnswer
Accepted c s = Ok (record { count = c; sum = s })

abbrev pub Refused : ℕ → ℕ → ℕ → EpAnswer
Refused n r p = Err (refusal n r p)
