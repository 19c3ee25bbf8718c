-- Believed. The rules on amounts: a line's, a section's sign and balance, a delega's final balance.
use Rattle.std.specs.Prelude.{ℕ, ◌+◌, ◌-◌, Bool, true, false, cond, eqb, ltb}
use Rattle.layout.specs.Sections.{section_at}
use Rattle.amounts.specs.declared.Sums.{Sums}
use Rattle.refusal.specs.Outcomes.{Outcome, Pass, Fails}

-- "The sign is N when debits are below credits, P in all other cases, zero included"
unfoldable pub sign_of : ℕ → ℕ → ℕ
sign_of d c = cond (ltb d c) 78 80

-- "The balance is their difference without sign"
unfoldable pub apart : ℕ → ℕ → ℕ
apart d c = cond (ltb d c) (c - d) (d - c)

-- "The final balance is all its debits less all its credits"
unfoldable pub final_of : Sums → ℕ
final_of t = t.debit - t.credit

-- "In section 17 the credit must be zero"
unfoldable pub credit_right : ℕ → ℕ → Bool
credit_right s c = cond (section_at s).credit_allowed true (eqb c 0)

-- "The debit must be above zero if the credit is zero, and the credit above zero if the debit is zero. Both above zero is allowed"
unfoldable pub line_right : ℕ → ℕ → ℕ → Bool
line_right s d c = cond (eqb d 0) (cond (eqb c 0) false (credit_right s c)) (credit_right s c)

-- 9, at the "start of debit if both are zero, else of credit"
unfoldable pub line_fault : ℕ → ℕ → ℕ → Outcome
line_fault s d c =
    cond (line_right s d c) Pass
    (cond (eqb d 0) (cond (eqb c 0) (Fails 9 ((section_at s).debit + 1)) (Fails 9 ((section_at s).credit + 1))) (Fails 9 ((section_at s).credit + 1)))
