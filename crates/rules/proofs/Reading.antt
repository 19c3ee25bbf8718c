-- The checks on the values that were read are the checks on the record.
use Rattle.std.specs.Prelude.{Err}
use Prim.Native.Nat.{ℕ, ◌+◌}
use mathlib.Core.Path.{◌≡◌, refl, sym}
use mathlib.Core.Bool.{Bool, true, false, cond}
use mathlib.Core.List.{List, [], ◌∷◌}
use lib.Dec.{eqb}
use lib.ListN.{get_or}
use Rattle.layout.specs.declared.Field.{Field}
use Rattle.layout.specs.declared.Kind.{Kind}
use Rattle.layout.specs.declared.Kind.TheVariants.{Head, Taxpayer, Domicile, Line, Balance, Payment, Receipt, Addressee, Tail, Unknown}
use Rattle.layout.specs.Sections.{section_at}
use Rattle.layout.specs.Fields.{fields_of, value_of, delega_number, amount_at}
use Rattle.amounts.specs.declared.Sums.{Sums}
use Rattle.rules.specs.declared.State.{State}
use Rattle.refusal.specs.Outcomes.{Outcome, Pass, Fails}
use Rattle.amounts.specs.Outcomes.{first}
use Rattle.rules.specs.Stored.{Value, stored_of, stored_balance, section_sums, wrong}
use Rattle.rules.specs.Checks.{number_fault, code_fault, own_fault}
use Rattle.rules.specs.Values.{values_in, balance_on, balance_end, payment_on, head_on, tail_on, code_on, amounts_on, values_on}
use Rattle.rules.specs.Step.{next_of, line_sums}

-- nothing is stored
first_alone : (o : Outcome) → first o Pass ≡ o
first_alone Pass = refl
first_alone (Err why) = refl

-- a balance record, with totals and without
module _ (s : ℕ) (x : Sums) (r : List ℕ) where
  abbrev total-debit : Field
  total-debit = amount_at (section_at s).total_debit

  abbrev total-credit : Field
  total-credit = amount_at (section_at s).total_credit

  abbrev balance : Field
  balance = amount_at (section_at s).balance

  abbrev checked : Bool → List ℕ → Outcome
  checked t vs =
      cond t
      (cond (eqb (get_or vs 1 0) x.debit)
      (cond (eqb (get_or vs 2 0) x.credit) (balance_end s x (get_or r (section_at s).sign 0) (get_or vs 3 0)) (Fails 11 ((section_at s).total_credit + 1)))
      (Fails 10 ((section_at s).total_debit + 1)))
      (balance_end s x (get_or r (section_at s).sign 0) (get_or vs 1 0))

  balance-read : (t : Bool) →
      checked t (values_in (delega_number ∷ cond t (total-debit ∷ total-credit ∷ balance ∷ []) (balance ∷ [])) r)
      ≡ wrong (cond t (Value 10 total-debit x.debit ∷ Value 11 total-credit x.credit ∷ stored_balance s x) (stored_balance s x)) r
  unfolding values_in balance_end
  balance-read true = refl
  balance-read false = refl

-- 9 to 20 and 26
amounts-read : (name : List ℕ) (st : State) (k : Kind) (r : List ℕ) → amounts_on name st k (values_in (fields_of k) r) r ≡ first (own_fault name st k r) (wrong (stored_of st k) r)
unfolding amounts_on values_in head_on balance_on payment_on tail_on code_on code_fault
amounts-read name st Head r = sym (first_alone _)
amounts-read name st Taxpayer r = sym (first_alone _)
amounts-read name st Domicile r = refl
amounts-read name st (Line s) r = sym (first_alone _)
amounts-read name st (Balance s) r = balance-read s (section_sums st s) r (section_at s).totals
amounts-read name st Payment r = refl
amounts-read name st Receipt r = refl
amounts-read name st Addressee r = refl
amounts-read name st Tail r = refl
amounts-read name st Unknown r = refl

-- the number is the first value, where there is one
number_read : (d : ℕ) (k : Kind) (r : List ℕ) → number_fault d k (get_or (values_in (fields_of k) r) 0 0) ≡ number_fault d k (value_of r delega_number)
unfolding number_fault values_in
number_read d Head r = refl
number_read d Taxpayer r = refl
number_read d Domicile r = refl
number_read d (Line s) r = refl
number_read d (Balance s) r = refl
number_read d Payment r = refl
number_read d Receipt r = refl
number_read d Addressee r = refl
number_read d Tail r = refl
number_read d Unknown r = refl

-- 8 to 20 and 26
pub values-read : (name : List ℕ) (st : State) (k : Kind) (r : List ℕ) →
    values_on name st k (values_in (fields_of k) r) r ≡ first (number_fault st.deleghe k (value_of r delega_number)) (first (own_fault name st k r) (wrong (stored_of st k) r))
unfolding values_on
values-read name st k r = rw (number_read st.deleghe k r, amounts-read name st k r)

-- a line's amounts are the second and third value
abbrev pub pair_of : List ℕ → Sums
pair_of vs = record { debit = get_or vs 1 0; credit = get_or vs 2 0 }

pub step-read : (st : State) (k : Kind) (r : List ℕ) → next_of st k (pair_of (values_in (fields_of k) r)) ≡ next_of st k (line_sums k r)
unfolding values_in
step-read st Head r = refl
step-read st Taxpayer r = refl
step-read st Domicile r = refl
step-read st (Line s) r = refl
step-read st (Balance s) r = refl
step-read st Payment r = refl
step-read st Receipt r = refl
step-read st Addressee r = refl
step-read st Tail r = refl
step-read st Unknown r = refl
