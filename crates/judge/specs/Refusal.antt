-- Believed. The verdict on a flow, and its refusal: what document 01 says of each answer.
use Rattle.std.specs.Prelude.{ℕ, Result, Ok, Err}
use Rattle.refusal.specs.declared.Refusal.{Refusal}
use Rattle.refusal.specs.Refusals.{refusal, no_refusal}

-- accepted, or the refusal
abbrev pub Verdict : Type 0
Verdict = Result Unit Refusal

pattern abbrev pub Accepted : Verdict
Accepted = Ok tt

abbrev pub Refused : ℕ → ℕ → ℕ → Verdict
Refused n r p = Err (refusal n r p)

-- the refusal of a verdict
abbrev pub refusal_of : Verdict → Refusal
refusal_of Accepted = no_refusal
refusal_of (Err why) = why

-- "Every call on a flow judges it first and gives that refusal if there is one"
abbrev pub judged_first : {A : Type 0} → (ℕ → ℕ → ℕ → A) → Verdict → A → A
judged_first refused Accepted a = a
judged_first refused (Err why) a = refused why.number why.«record» why.position
