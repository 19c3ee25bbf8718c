-- Believed. What a record stores of the lines before it: totals, signs, balances, final balances and the tail's values, as one list for each kind of record.
use Rattle.std.specs.Prelude.{ℕ, ◌+◌, Bool, cond, List, [], ◌∷◌, eqb, get_or}
use Rattle.layout.specs.declared.Field.{Field}
use Rattle.layout.specs.declared.Kind.{Kind}
use Rattle.layout.specs.declared.Kind.TheVariants.{Head, Taxpayer, Domicile, Line, Balance, Payment, Receipt, Addressee, Tail, Unknown}
use Rattle.layout.specs.Sections.{section_at}
use Rattle.layout.specs.Fields.{amount_at, final_balance, tail_deleghe, tail_sum, tail_records, value_of}
use Rattle.amounts.specs.declared.Sums.{Sums}
use Rattle.rules.specs.declared.State.{State}
use Rattle.refusal.specs.Outcomes.{Outcome, Pass, Fails}
use Rattle.rules.specs.State.{no_sums}
use Rattle.amounts.specs.Amounts.{sign_of, apart, final_of}

-- a field whose contents follow from the lines: its refusal, where it stands, and the number or the character that it holds
pub data Stored : Type 0 where
  Value : ℕ → Field → ℕ → Stored
  Mark : ℕ → ℕ → ℕ → Stored

-- the sums of section s in the open delega
abbrev pub section_sums : State → ℕ → Sums
section_sums st s = get_or st.money.delega.sections s no_sums

-- 12 and 13: "The sign is N when debits are below credits"; "The balance is their difference without sign"
abbrev pub stored_balance : ℕ → Sums → List Stored
stored_balance s t =
    Mark 12 (section_at s).sign (sign_of t.debit t.credit) ∷ Value 13 (amount_at (section_at s).balance) (apart t.debit t.credit) ∷ []

-- 10 and 11 before them, where the section has totals: "Total debit and total credit are the sums over the section's lines"
abbrev pub stored_section : ℕ → Sums → List Stored
stored_section s t =
    cond (section_at s).totals
    (Value 10 (amount_at (section_at s).total_debit) t.debit ∷ Value 11 (amount_at (section_at s).total_credit) t.credit ∷ stored_balance s t)
    (stored_balance s t)

-- the stored fields of a record of a kind, after the records that led to a state, in the order of their refusals
abbrev pub stored_of : State → Kind → List Stored
stored_of st Head = []
stored_of st Taxpayer = []
stored_of st Domicile = []
stored_of st (Line s) = []
stored_of st (Balance s) = stored_section s (section_sums st s)
stored_of st Payment = Value 15 final_balance (final_of st.money.delega.all) ∷ []
stored_of st Receipt = []
stored_of st Addressee = []
stored_of st Tail = Value 18 tail_deleghe st.deleghe ∷ Value 19 tail_records (st.seen + 1) ∷ Value 20 tail_sum st.money.total ∷ []
stored_of st Unknown = []

-- the field in the record holds what it should
abbrev pub right : Stored → List ℕ → Bool
right (Value n f v) r = eqb (value_of r f) v
right (Mark n c b) r = eqb (get_or r c 0) b

-- 10 to 13, 15, 18 to 20: "differs", at the "start of field"
abbrev pub fault_of : Stored → Outcome
fault_of (Value n f v) = Fails n (f.start + 1)
fault_of (Mark n c b) = Fails n (c + 1)

-- the first stored field that is not right
abbrev pub wrong : List Stored → List ℕ → Outcome
wrong [] r = Pass
wrong (x ∷ xs) r = cond (right x r) (wrong xs r) (fault_of x)
