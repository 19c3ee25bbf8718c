-- Believed; `listed` and `Within` serve inner functions, `in_columns` theorems. The numeric fields of each kind of record, in the order of position, and what they hold.
use Rattle.std.specs.Prelude.{ℕ, ◌+◌, ◌-◌, ◌≤◌, Bool, true, false, cond, List, [], ◌∷◌, ◌++◌, ltb, leb, length, take, drop, replicate}
use Rattle.text.specs.Numbers.{number_of, amount_of}
use Rattle.layout.specs.declared.Field.{Field}
use Rattle.layout.specs.declared.Fields.{Fields}
use Rattle.layout.specs.declared.Kind.{Kind}
use Rattle.layout.specs.declared.Kind.TheVariants.{Head, Taxpayer, Domicile, Line, Balance, Payment, Receipt, Addressee, Tail, Unknown}
use Rattle.layout.specs.Sections.{section_at, at}

-- the field from a first to a last position
abbrev pub columns : ℕ → ℕ → Field
columns first last = record { start = at first; end = last }

-- "fifteen digits": the amount that starts at an index
abbrev pub amount_at : ℕ → Field
amount_at s = record { start = s; end = s + 15 }

-- what stands past the end of a list of fields
abbrev pub nowhere : Field
nowhere = record { start = 0; end = 0 }

-- "delega number at 4-10"
abbrev pub delega_number : Field
delega_number = columns 4 10

-- "F4: creation date at 14-19"
abbrev pub creation_date : Field
creation_date = columns 14 19

-- 10: "The taxpayer's code .. in the columns 000 gives", ask 2 of document 02
abbrev pub tax_code : Field
tax_code = columns 11 26

-- 50-01: the final balance
abbrev pub final_balance : Field
final_balance = columns 36 50

-- "EF: number of deleghe", the sum of all final balances, the number of records
abbrev pub tail_deleghe : Field
tail_deleghe = columns 46 52

abbrev pub tail_sum : Field
tail_sum = columns 53 67

abbrev pub tail_records : Field
tail_records = columns 83 89

-- "F4 and EF: support name"
abbrev pub support_name : Field
support_name = columns 20 39

-- "The numeric fields are the delega number, the creation date, line amounts, totals, balances, the final balance, and the tail's two counts and sum"
abbrev pub fields_of : Kind → List Field
fields_of Head = creation_date ∷ []
fields_of Taxpayer = delega_number ∷ []
fields_of Domicile = delega_number ∷ []
fields_of (Line s) = delega_number ∷ amount_at (section_at s).debit ∷ amount_at (section_at s).credit ∷ []
fields_of (Balance s) =
    delega_number
    ∷ cond (section_at s).totals
    (amount_at (section_at s).total_debit ∷ amount_at (section_at s).total_credit ∷ amount_at (section_at s).balance ∷ [])
    (amount_at (section_at s).balance ∷ [])
fields_of Payment = delega_number ∷ final_balance ∷ []
fields_of Receipt = delega_number ∷ []
fields_of Addressee = delega_number ∷ []
fields_of Tail = tail_deleghe ∷ tail_sum ∷ tail_records ∷ []
fields_of Unknown = []

-- a list of at most four fields as the code hands it out: how many, and room for four
abbrev pub listed : List Field → Fields
listed fl = record { count = length fl; fields = fl ++ replicate (4 - length fl) nowhere }

-- the bytes of a field, and its number
abbrev pub bytes_of : List ℕ → Field → List ℕ
bytes_of r f = take (f.end - f.start) (drop f.start r)

abbrev pub value_of : List ℕ → Field → ℕ
value_of r f = amount_of (number_of (bytes_of r f))

-- a field within a record, and no wider than an amount
pub record Within (f : Field) : Type 0 where
  pub forward : f.start ≤ f.end
  pub inside : f.end ≤ 120
  pub narrow : f.end ≤ f.start + 15

-- an index of a record lies in one of these fields
unfoldable pub in_columns : ℕ → List Field → Bool
in_columns i [] = false
in_columns i (f ∷ fs) = cond (cond (leb f.start i) (ltb i f.end) false) true (in_columns i fs)
