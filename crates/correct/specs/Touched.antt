-- For theorems. "What a correction may touch": columns of the line, of its section's balance record, of its delega's 50-01 and of EF. "Nothing else, fillers and unread fields included."
use Rattle.std.specs.Prelude.{ℕ, ◌+◌, ◌/◌, ◌%◌, Bool, cond, List, [], ◌∷◌, eqb, get_or}
use Rattle.layout.specs.declared.Field.{Field}
use Rattle.layout.specs.declared.Kind.{Kind}
use Rattle.layout.specs.declared.Kind.TheVariants.{Head, Taxpayer, Domicile, Line, Balance, Payment, Receipt, Addressee, Tail, Unknown}
use Rattle.layout.specs.Sections.{section_at}
use Rattle.layout.specs.Kinds.{kind_in}
use Rattle.layout.specs.Fields.{amount_at, delega_number, final_balance, tail_sum, value_of, in_columns}
use Rattle.judge.specs.Flow.{records_of}
use Rattle.rebalance.specs.Places.{balance_columns}
use Rattle.find.specs.Line.{line_of}
use Rattle.correct.specs.Correction.{section_of}

-- "The line's debit and credit" may be touched.
abbrev pub line_columns : ℕ → List Field
line_columns s = amount_at (section_at s).debit ∷ amount_at (section_at s).credit ∷ []

-- So may "totals, sign and balance of that section's balance record; the final balance of that delega; the sum in EF". These are the columns in a record of a kind with delega number n, for a line of section s in delega d.
abbrev pub stored_columns : ℕ → ℕ → Kind → ℕ → List Field
stored_columns d s Head n = []
stored_columns d s Taxpayer n = []
stored_columns d s Domicile n = []
stored_columns d s (Line t) n = []
stored_columns d s (Balance t) n = cond (eqb t s) (cond (eqb n d) (balance_columns s) []) []
stored_columns d s Payment n = cond (eqb n d) (final_balance ∷ []) []
stored_columns d s Receipt n = []
stored_columns d s Addressee n = []
stored_columns d s Tail n = tail_sum ∷ []
stored_columns d s Unknown n = []

-- These are the columns that may be touched in a record behind q others, where the line is the k-th record.
abbrev pub columns_of : ℕ → ℕ → ℕ → ℕ → List ℕ → List Field
columns_of d s k q r = cond (eqb (q + 1) k) (line_columns s) (stored_columns d s (kind_in r) (value_of r delega_number))

-- A correction of the line that is named may touch the byte at an index of the flow.
unfoldable pub may_touch : List ℕ → ℕ → ℕ → ℕ → ℕ → Bool
may_touch f d subtype n i =
    in_columns (i % 120) (columns_of d (section_of subtype) (line_of f d subtype n) (i / 120) (get_or (records_of f) (i / 120) []))
