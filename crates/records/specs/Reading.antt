-- Serves inner functions. How characters and fields are looked at: records up to the first that is not clean, and the values of a record's fields.
use Rattle.std.specs.Prelude.{ℕ, ◌+◌, ◌-◌, ◌*◌, ◌/◌, ◌<◌, ◌≤◌, ◌≡◌, true, false, List, length, take, drop, Err, Result, Ok}
use Rattle.text.specs.Answers.{Digits, Number, NonDigit, TooLong}
use Rattle.text.specs.Characters.{all_allowed}
use Rattle.layout.specs.declared.Field.{Field}
use Rattle.refusal.specs.Outcomes.{Outcome, Pass}
use Rattle.rules.specs.Checks.{bad_fields}
use Rattle.rules.specs.Values.{values_in}

-- the records behind the first m, up to n, are all characters, and the next one, where there is one, is not
pub record Clean (s : List ℕ) (m n : ℕ) : Type 0 where
  pub behind : m ≤ n
  pub ahead : n ≤ length s / 120
  pub clean : all_allowed (take ((n - m) * 120) (drop (m * 120) s)) ≡ true
  pub spoilt : n < length s / 120 → all_allowed (take 120 (drop (n * 120) s)) ≡ false

-- the offset of the first character of a field that is no digit; 0 where none is told
abbrev pub offset_of : Digits → ℕ
offset_of (Number n) = 0
offset_of (NonDigit i) = i
offset_of TooLong = 0

-- its position in the record
abbrev pub non_digit_at : Field → Digits → ℕ
non_digit_at f d = f.start + offset_of d + 1

-- values, or the position of the first character in them that is no digit
abbrev pub Values : Type 0
Values = Result (List ℕ) ℕ

-- values where check 7 passes, else the position that it tells
abbrev pub values_by : Outcome → List ℕ → Values
values_by Pass vs = Ok vs
values_by (Err why) vs = Err why.position

-- the values of the fields of a list, or the position of the first character in them that is no digit
unfoldable pub values_read : List Field → List ℕ → Values
values_read fl r = values_by (bad_fields fl r) (values_in fl r)
