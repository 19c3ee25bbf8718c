-- For theorems. What the answer for one delega is measured by: plain counts and sums over the records that carry its number, the bits of a set, zeros beside a refusal.
use Rattle.std.specs.Prelude.{ℕ, ◌+◌, ◌*◌, ◌/◌, ◌%◌, ◌^◌, cond, List, eqb, ltb, replicate}
use Rattle.layout.specs.Kinds.{of_line, of_balance, of_payment, kind_in}
use Rattle.layout.specs.Fields.{delega_number, final_balance, value_of}
use Rattle.judge.specs.Refusal.{Verdict}
use Rattle.judge.specs.Plain.{sum_over, Side, column_of}
use Rattle.delega.specs.declared.DelegaAnswer.{DelegaAnswer}

-- a number for a record that carries the number d, and 0 for any other
abbrev pub of_delega : ℕ → List ℕ → ℕ → ℕ
of_delega d r n = cond (eqb (value_of r delega_number) d) n 0

-- one side of the lines of section i of delega d, added up
abbrev pub section_of : ℕ → Side → ℕ → List (List ℕ) → ℕ
section_of d x i rs = sum_over (λ r. of_delega d r (of_line 0 (λ s. cond (eqb s i) (value_of r (column_of x i)) 0) (kind_in r))) rs

-- one side of all lines of delega d, added up
abbrev pub lines_of : ℕ → Side → List (List ℕ) → ℕ
lines_of d x rs = sum_over (λ r. of_delega d r (of_line 0 (λ s. value_of r (column_of x s)) (kind_in r))) rs

-- the final balances of the records 50-01 of delega d, added up
abbrev pub finals_of : ℕ → List (List ℕ) → ℕ
finals_of d rs = sum_over (λ r. of_delega d r (of_payment 0 (value_of r final_balance) (kind_in r))) rs

-- the number of records 50-01 of delega d
abbrev pub payments_of : ℕ → List (List ℕ) → ℕ
payments_of d rs = sum_over (λ r. of_delega d r (of_payment 0 1 (kind_in r))) rs

-- the number of lines of delega d
abbrev pub line_count_of : ℕ → List (List ℕ) → ℕ
line_count_of d rs = sum_over (λ r. of_delega d r (of_line 0 (λ s. 1) (kind_in r))) rs

-- the number of its lines of section i
abbrev pub section_count_of : ℕ → ℕ → List (List ℕ) → ℕ
section_count_of d i rs = sum_over (λ r. of_delega d r (of_line 0 (λ s. cond (eqb s i) 1 0) (kind_in r))) rs

-- the number of its balance records
abbrev pub balances_of : ℕ → List (List ℕ) → ℕ
balances_of d rs = sum_over (λ r. of_delega d r (of_balance 0 (λ s. 1) (kind_in r))) rs

-- bit i of a number: 1 or 0
abbrev pub bit_at : ℕ → ℕ → ℕ
bit_at x i = x / 2 ^ i % 2

-- 1 where there is one at least, and 0 where there is none
abbrev pub some_of : ℕ → ℕ
some_of n = cond (ltb 0 n) 1 0

-- "1, 2, 4, 8, 16 added, in 01's order": as often as f says of each section
abbrev pub added_up : (ℕ → ℕ) → ℕ
added_up f = f 0 + 2 * f 1 + 4 * f 2 + 8 * f 3 + 16 * f 4

-- a verdict, with zeros for all that an answer has besides
abbrev pub zeros_beside : Verdict → DelegaAnswer
zeros_beside v = record { verdict = v; balance = 0; lines = 0; set = 0; size = 0; first = 0; sums = replicate 5 (record { debit = 0; credit = 0 }) }
