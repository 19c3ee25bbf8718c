-- For theorems. The records as payments: an M, and behind it one or more V. Nothing here is kept from one record to the next.
use Rattle.std.specs.Prelude.{ℕ, suc, ◌+◌, ◌-◌, ◌/◌, ◌%◌, ◌<◌, ◌≤◌, ◌≡◌, cond, List, [], ◌∷◌, ◌++◌, eqb, length, take, drop, get_or}
use Rattle.ep_total.specs.Answers.{Total, Cents, NoTotal}
use Rattle.ep_total.specs.Total.{total_field}
use Rattle.ep_accounts.specs.Printed.{printed_rows, printed_debits, printed_balance, amount_at, used_debits, DigitsAt, UsedDigits, Balanced}
use Rattle.ep.specs.Payments.{total_in, records_in}

-- the first character of a record
abbrev pub first_of : List ℕ → ℕ
first_of r = get_or r 0 0

-- "the count of M": how many records begin with M
unfoldable pub count_m : List (List ℕ) → ℕ
count_m [] = 0
count_m (r ∷ rs) = cond (eqb (first_of r) 77) (suc (count_m rs)) (count_m rs)

-- the used debits of all records that begin with V
unfoldable pub used_in : List (List ℕ) → ℕ
used_in [] = 0
used_in (r ∷ rs) = cond (eqb (first_of r) 86) (used_debits r + used_in rs) (used_in rs)

-- what a total says in cents, 0 where it says nothing
abbrev pub cents_of : Total → ℕ
cents_of (Cents n) = n
cents_of NoTotal = 0

-- "the sum of their totals": what the totals of all records that begin with M say
unfoldable pub totals_in : List (List ℕ) → ℕ
totals_in [] = 0
totals_in (r ∷ rs) = cond (eqb (first_of r) 77) (cents_of (total_in r) + totals_in rs) (totals_in rs)

-- a V whose used debits and final balance are digits, and whose used debits add up to the final balance
pub record RightV (r : List ℕ) : Type 0 where
  pub is-v : first_of r ≡ 86
  pub balanced : Balanced r

-- every record of a list is such a V
abbrev pub AllV : List (List ℕ) → Type 0
AllV [] = Unit {0}
AllV (r ∷ rs) = RightV r × AllV rs

-- "M's total at 1873" is the one text of n cents
abbrev pub States : List ℕ → ℕ → Type 0
States m n = take 15 (drop (1873 - 1) m) ≡ total_field n

-- "each M followed by one or more V"; "It equals the sum over the V records that follow"
pub data Paid : List (List ℕ) → Type 0 where
  none : {rs : List (List ℕ)} → rs ≡ [] → Paid rs
  paid : {rs : List (List ℕ)} (m : List ℕ) (vs rest : List (List ℕ)) → rs ≡ m ∷ (vs ++ rest) → first_of m ≡ 77 → 0 < length vs → AllV vs → States m (used_in vs) → Paid rest → Paid rs

-- no V comes next
abbrev pub NoV : List (List ℕ) → Type 0
NoV [] = Unit {0}
NoV (r ∷ rs) = first_of r ≡ 86 → ⊥

-- where the first fault stands, e its number and k that of its record: behind payments that are right
pub data Stops (rs : List (List ℕ)) (e k : ℕ) : Type 0 where
  -- a V before any M
  early : (v : List ℕ) (rest : List (List ℕ)) → rs ≡ v ∷ rest → first_of v ≡ 86 → e ≡ 31 → k ≡ 1 → Stops rs e k
  -- a record that is neither M nor V
  unknown : (ps : List (List ℕ)) (r : List ℕ) (rest : List (List ℕ)) → rs ≡ ps ++ (r ∷ rest) → Paid ps → (first_of r ≡ 77 → ⊥) → (first_of r ≡ 86 → ⊥) → e ≡ 31 → k ≡ length ps + 1 → Stops rs e k
  -- an M without a V: at the record after it
  alone : (ps : List (List ℕ)) (m : List ℕ) (rest : List (List ℕ)) → rs ≡ ps ++ (m ∷ rest) → Paid ps → first_of m ≡ 77 → NoV rest → e ≡ 31 → k ≡ length ps + 2 → Stops rs e k
  -- a V with a used debit or a balance that is not digits: behind its M and the V's before it
  no-digits : (ps : List (List ℕ)) (m : List ℕ) (vs : List (List ℕ)) (v : List ℕ) (rest : List (List ℕ)) → rs ≡ ps ++ (m ∷ (vs ++ (v ∷ rest))) → Paid ps → first_of m ≡ 77 → AllV vs → first_of v ≡ 86 → (UsedDigits v printed_rows printed_debits → DigitsAt v printed_balance → ⊥) → e ≡ 32 → k ≡ length ps + length vs + 2 → Stops rs e k
  -- a V whose used debits do not add up to its final balance
  no-sum : (ps : List (List ℕ)) (m : List ℕ) (vs : List (List ℕ)) (v : List ℕ) (rest : List (List ℕ)) → rs ≡ ps ++ (m ∷ (vs ++ (v ∷ rest))) → Paid ps → first_of m ≡ 77 → AllV vs → first_of v ≡ 86 → UsedDigits v printed_rows printed_debits × DigitsAt v printed_balance × (amount_at v printed_balance ≡ used_debits v → ⊥) → e ≡ 33 → k ≡ length ps + length vs + 2 → Stops rs e k
  -- an M whose total is not that of its V's: at the M itself
  no-total : (ps : List (List ℕ)) (m : List ℕ) (vs rest : List (List ℕ)) → rs ≡ ps ++ (m ∷ (vs ++ rest)) → Paid ps → first_of m ≡ 77 → 0 < length vs → AllV vs → NoV rest → (States m (used_in vs) → ⊥) → e ≡ 33 → k ≡ length ps + 1 → Stops rs e k

-- the records of any bytes, and lengths that are not refused 30: "length, none or too many records"
abbrev pub records_of : List ℕ → List (List ℕ)
records_of s = records_in (length s / 1900) s

pub record Sized (l : ℕ) : Type 0 where
  pub some : 0 < l
  pub most : l ≤ 19000000
  pub whole : l % 1900 ≡ 0
