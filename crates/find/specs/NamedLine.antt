-- For theorems. The n-th line of a section in a delega, over the plain records of a flow: "A line is named by delega number, line
-- subtype and its place in the section, counted from 1."
use Rattle.std.specs.Prelude.{ℕ, ◌+◌, ◌-◌, ◌≤◌, ◌<◌, ◌≡◌, Bool, true, false, cond, List, eqb, length, take}
use Rattle.layout.specs.Sections.{section_at}
use Rattle.layout.specs.Kinds.{of_line, kind_in}
use Rattle.layout.specs.Fields.{delega_number, value_of}
use Rattle.judge.specs.Flow.{records_of}
use Rattle.judge.specs.Plain.{sum_over}
use Rattle.judge.specs.Part.{record_at}

-- "delega number, line subtype": a record is a line of this subtype and carries the number d
unfoldable pub line_with : ℕ → ℕ → List ℕ → Bool
line_with d subtype r = of_line false (λ s. cond (eqb (section_at s).line_subtype subtype) (eqb (value_of r delega_number) d) false) (kind_in r)

-- "its place in the section": how many of some records are such lines
unfoldable pub count_of : ℕ → ℕ → List (List ℕ) → ℕ
count_of d subtype rs = sum_over (λ r. cond (line_with d subtype r) 1 0) rs

-- "counted from 1": record k of a flow is the n-th such line, with n - 1 of them before it
pub record NthLine (f : List ℕ) (d subtype n k : ℕ) : Type 0 where
  pub counted : 0 < k
  pub within : k ≤ length (records_of f)
  pub line : line_with d subtype (record_at f k) ≡ true
  pub before : count_of d subtype (take (k - 1) (records_of f)) + 1 ≡ n
