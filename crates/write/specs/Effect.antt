-- For theorems. What the flow written from a sheet is measured by: sums of amounts as they are keyed, the columns that are filled, and the numeric fields that are keyed.
use Rattle.std.specs.Prelude.{ℕ, ◌+◌, ◌≤◌, ◌<◌, ◌≡◌, false, cond, List, [], ◌∷◌, eqb, length, get_or}
use Rattle.layout.specs.declared.Field.{Field}
use Rattle.layout.specs.declared.Kind.{Kind}
use Rattle.layout.specs.declared.Kind.TheVariants.{Head, Taxpayer, Domicile, Line, Balance, Payment, Receipt, Addressee, Tail, Unknown}
use Rattle.layout.specs.Kinds.{of_line, kind_in}
use Rattle.layout.specs.Fields.{columns, creation_date, value_of, in_columns}
use Rattle.judge.specs.Refusal.{Accepted}
use Rattle.judge.specs.Flow.{records_of, judged}
use Rattle.judge.specs.Plain.{Side, Debit, Credit, column_of}
use Rattle.rebalance.specs.Places.{balance_columns}
use Rattle.sheet.specs.Sheet.{Entry, entry}
use Rattle.sheet.specs.Contents.{IsSheet}
use Rattle.write.specs.WhenRefused.{entries_in}

-- A number of each line, by its section and its record as it is keyed, added up.
unfoldable pub keyed_over : (ℕ → List ℕ → ℕ) → List Entry → ℕ
keyed_over f [] = 0
keyed_over f (e ∷ es) = of_line 0 (λ s. f s e.bytes) e.slot + keyed_over f es

-- One side of the lines of section i, added up.
abbrev pub keyed_in : Side → ℕ → List Entry → ℕ
keyed_in x i es = keyed_over (λ s r. cond (eqb s i) (value_of r (column_of x i)) 0) es

-- One side of all lines, added up.
abbrev pub keyed_all : Side → List Entry → ℕ
keyed_all x es = keyed_over (λ s r. value_of r (column_of x s)) es

-- The number of lines.
abbrev pub keyed_lines : List Entry → ℕ
keyed_lines es = keyed_over (λ s r. 1) es

-- The writer "fills delega numbers, final balances and the tail's name, counts and sum", and in a balance record that it makes totals, sign and balance: the columns by slot.
abbrev pub filled_columns : Kind → List Field
filled_columns Head = []
filled_columns Taxpayer = columns 4 10 ∷ []
filled_columns Domicile = columns 4 10 ∷ []
filled_columns (Line x) = columns 4 10 ∷ []
filled_columns (Balance x) = columns 4 10 ∷ balance_columns x
filled_columns Payment = columns 4 10 ∷ columns 36 50 ∷ []
filled_columns Receipt = columns 4 10 ∷ []
filled_columns Addressee = columns 4 10 ∷ []
filled_columns Tail = columns 20 39 ∷ columns 46 52 ∷ columns 53 67 ∷ columns 83 89 ∷ []
filled_columns Unknown = []

-- The numeric fields that are keyed, those that the writer does not fill: the date, and the amounts of a line.
abbrev pub keyed_fields : Kind → List Field
keyed_fields Head = creation_date ∷ []
keyed_fields Taxpayer = []
keyed_fields Domicile = []
keyed_fields (Line x) = column_of Debit x ∷ column_of Credit x ∷ []
keyed_fields (Balance x) = []
keyed_fields Payment = []
keyed_fields Receipt = []
keyed_fields Addressee = []
keyed_fields Tail = []
keyed_fields Unknown = []

-- In a balance record that is made, type and subtype stand besides.
abbrev pub made_columns : ℕ → List Field
made_columns x = columns 2 3 ∷ columns 11 12 ∷ filled_columns (Balance x)

-- The record to be written behind k others; none past the last.
abbrev pub entry_at : List Entry → ℕ → Entry
entry_at es k = get_or es k (entry Unknown 0 [])

-- Records carry those to be written: as many, each of the kind of its slot, and in every column that is not filled the byte that is keyed or made.
pub record Carries (es : List Entry) (rs : List (List ℕ)) : Type 0 where
  pub count : length rs ≡ length es
  pub kinds : (k : ℕ) → k < length es → kind_in (get_or rs k []) ≡ (entry_at es k).slot
  pub bytes : (k i : ℕ) → in_columns i (filled_columns (entry_at es k).slot) ≡ false → get_or (get_or rs k []) i 0 ≡ get_or (entry_at es k).bytes i 0

-- "What it writes is accepted and carries the sheet's records in order, the filled columns apart": a flow that the bytes of a sheet and a room ask for.
pub record Demanded (sheet room flow : List ℕ) : Type 0 where
  pub a-sheet : IsSheet sheet
  pub in-room : length flow ≤ length room
  pub accepted : (judged flow).verdict ≡ Accepted
  pub carries : Carries (entries_in sheet) (records_of flow)
