-- Believed. What the answers of the calls that take a record are called in the definitions.
use Rattle.std.specs.Prelude.{ℕ}
use Rattle.kept.specs.declared.WithSums.{WithSums}

-- the answer to a correction, and the record that is handed back
abbrev pub CorrectionKept : Type 0
CorrectionKept = WithSums Unit

-- the same of a rebalancing, with the number of fields that changed
abbrev pub MendingKept : Type 0
MendingKept = WithSums ℕ

-- the same of a dropping, with the new length of the flow
abbrev pub DroppingKept : Type 0
DroppingKept = WithSums ℕ
