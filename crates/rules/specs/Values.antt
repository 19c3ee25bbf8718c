-- Serves inner functions. The checks 8 to 20 and 26 of a record whose numeric fields have been read: the same as in Checks, on the values in the order of the fields.
use Rattle.std.specs.Prelude.{ℕ, ◌+◌, ◌-◌, Bool, cond, List, ◌++◌, map, eqb, length, get_or, replicate}
use Rattle.layout.specs.declared.Kind.{Kind}
use Rattle.layout.specs.declared.Kind.TheVariants.{Head, Taxpayer, Domicile, Line, Balance, Payment, Receipt, Addressee, Tail, Unknown}
use Rattle.layout.specs.declared.Field.{Field}
use Rattle.layout.specs.Sections.{section_at}
use Rattle.layout.specs.Fields.{bytes_of, value_of, tax_code, support_name}
use Rattle.amounts.specs.declared.Sums.{Sums}
use Rattle.rules.specs.declared.State.{State}
use Rattle.refusal.specs.Outcomes.{Outcome, Pass, Fails}
use Rattle.amounts.specs.Outcomes.{first}
use Rattle.amounts.specs.Amounts.{sign_of, apart, final_of, line_fault}
use Rattle.taxcode.specs.TaxCodes.{code_right}
use Rattle.rules.specs.Stored.{section_sums}
use Rattle.rules.specs.Checks.{number_fault, negative_fault, head_name, tail_name, date_fault}

-- the values of the fields of a list, in room for four
unfoldable pub values_in : List Field → List ℕ → List ℕ
values_in fl r = map (value_of r) fl ++ replicate (4 - length fl) 0

-- 12 and 13, of the character at the sign's column and the balance
unfoldable pub balance_end : ℕ → Sums → ℕ → ℕ → Outcome
balance_end s t sign bal =
    cond (eqb sign (sign_of t.debit t.credit))
    (cond (eqb bal (apart t.debit t.credit)) Pass (Fails 13 ((section_at s).balance + 1)))
    (Fails 12 ((section_at s).sign + 1))

-- 10 to 13
unfoldable pub balance_on : ℕ → Sums → List ℕ → ℕ → Outcome
balance_on s t vs sign =
    cond (section_at s).totals
    (cond (eqb (get_or vs 1 0) t.debit)
    (cond (eqb (get_or vs 2 0) t.credit) (balance_end s t sign (get_or vs 3 0)) (Fails 11 ((section_at s).total_credit + 1)))
    (Fails 10 ((section_at s).total_debit + 1)))
    (balance_end s t sign (get_or vs 1 0))

-- 14 and 15
unfoldable pub payment_on : Sums → ℕ → Outcome
payment_on t v = first (negative_fault t) (cond (eqb v (final_of t)) Pass (Fails 15 36))

-- 16 and 17
unfoldable pub head_on : List ℕ → ℕ → Outcome
head_on name v = first (head_name name) (date_fault v)

-- 18 to 20: the tail's fields are the deleghe, the sum and the records
unfoldable pub tail_on : State → List ℕ → Outcome
tail_on st vs =
    cond (eqb (get_or vs 0 0) st.deleghe)
    (cond (eqb (get_or vs 2 0) (st.seen + 1)) (cond (eqb (get_or vs 1 0) st.money.total) Pass (Fails 20 53)) (Fails 19 83))
    (Fails 18 46)

-- 26, of a code that can exist or not
unfoldable pub code_on : Bool → Outcome
code_on right = cond right Pass (Fails 26 11)

-- 9 to 20 and 26
unfoldable pub amounts_on : List ℕ → State → Kind → List ℕ → List ℕ → Outcome
amounts_on name st Head vs r = head_on (bytes_of r support_name) (get_or vs 0 0)
amounts_on name st Taxpayer vs r = code_on (code_right (bytes_of r tax_code))
amounts_on name st Domicile vs r = Pass
amounts_on name st (Line s) vs r = line_fault s (get_or vs 1 0) (get_or vs 2 0)
amounts_on name st (Balance s) vs r = balance_on s (section_sums st s) vs (get_or r (section_at s).sign 0)
amounts_on name st Payment vs r = payment_on st.money.delega.all (get_or vs 1 0)
amounts_on name st Receipt vs r = Pass
amounts_on name st Addressee vs r = Pass
amounts_on name st Tail vs r = first (tail_name name (bytes_of r support_name)) (tail_on st vs)
amounts_on name st Unknown vs r = Pass

-- 8 to 20 and 26
unfoldable pub values_on : List ℕ → State → Kind → List ℕ → List ℕ → Outcome
values_on name st k vs r = first (number_fault st.deleghe k (get_or vs 0 0)) (amounts_on name st k vs r)
