-- Believed. Ask 10 of document 02: the ten section sums of a flow's lines, and the record that is kept of them.
use Rattle.std.specs.Prelude.{ℕ, Bool, true, false, cond, List, [], ◌∷◌, map, eqb}
use Rattle.amounts.specs.declared.Sums.{Sums}
use Rattle.judge.specs.Flow.{records_of}
use Rattle.judge.specs.Plain.{Debit, Credit, section_in}
use Rattle.sums.specs.declared.KeptSums.{KeptSums}

-- the lines of section i: their debits and their credits, added up
abbrev pub section_sums : List (List ℕ) → ℕ → Sums
section_sums rs i = record { debit = section_in Debit i rs; credit = section_in Credit i rs }

-- "the ten section sums", of the lines among records
unfoldable pub sums_in : List (List ℕ) → List Sums
sums_in rs = map (section_sums rs) (0 ∷ 1 ∷ 2 ∷ 3 ∷ 4 ∷ [])

-- "Keep the ten section sums of the flow in a small record": the record of a flow
abbrev pub kept_of : List ℕ → KeptSums
kept_of f = record { sums = sums_in (records_of f) }

-- "its sums match": each debit and each credit is the same
unfoldable pub same_sums : List Sums → List Sums → Bool
same_sums [] [] = true
same_sums [] (y ∷ ys) = false
same_sums (x ∷ xs) [] = false
same_sums (x ∷ xs) (y ∷ ys) = cond (eqb x.debit y.debit) (cond (eqb x.credit y.credit) (same_sums xs ys) false) false

-- "The record stands only for a flow whose lines have those ten sums"
unfoldable pub stands_for : KeptSums → List ℕ → Bool
stands_for k f = same_sums k.sums (kept_of f).sums
