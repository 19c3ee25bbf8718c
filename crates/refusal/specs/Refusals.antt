-- Believed. The number, the record and the position of a refusal.
use Rattle.std.specs.Prelude.{ℕ}
use Rattle.refusal.specs.declared.Fault.{Fault}
use Rattle.refusal.specs.declared.Refusal.{Refusal}

-- "A refusal is a number, a record counted from 1, and a position"
abbrev pub refusal : ℕ → ℕ → ℕ → Refusal
refusal n r p = record { number = n; «record» = r; position = p }

-- an answer that is no refusal has none: all are zero
abbrev pub no_refusal : Refusal
no_refusal = refusal 0 0 0

-- "within a record": the refusal that a failed check is, told of the r-th record
abbrev pub in_record : Fault → ℕ → Refusal
in_record f r = refusal f.number r f.position
