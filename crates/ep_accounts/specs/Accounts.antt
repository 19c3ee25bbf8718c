-- Believed. A record V of the F24 EP form: what its 28 rows and its final balance say. Bytes and rows are counted from 0 here.
use Rattle.std.specs.Prelude.{ℕ, zero, suc, ◌+◌, ◌*◌, Bool, true, false, cond, List, eqb, take, drop, get_or}
use Rattle.text.specs.Answers.{Digits, Number, TooLong}
use Rattle.text.specs.Answers as Read
use Rattle.text.specs.Numbers.{number_of, amount_of}
use Rattle.ep_accounts.specs.Answers.{Accounts, Sum, NonDigit, Unequal}

-- "The number of rows is the one 001 prints"
abbrev pub row_count : ℕ
row_count = 28

-- "a blank type"
abbrev pub blank : ℕ
blank = 32

-- "row k starts at 100 + 56(k - 1)", counted from 1
abbrev pub row_start : ℕ → ℕ
row_start k = 99 + 56 * k

-- "type 1, code 6, code 5, identifiers 17, references 6 and 6, debit 15"
abbrev pub type_in : List ℕ → ℕ → ℕ
type_in r k = get_or r (row_start k) 0

abbrev pub debit_field : List ℕ → ℕ → List ℕ
debit_field r k = take 15 (drop (row_start k + 41) r)

-- "a row with a blank type is unused, and its debit isn't read": it adds nothing
unfoldable pub debit_of : List ℕ → ℕ → Digits
debit_of r k = cond (eqb (type_in r k) blank) (Number 0) (number_of (debit_field r k))

-- whether digits say a number
abbrev pub is_number : Digits → Bool
is_number (Number n) = true
is_number (Read.NonDigit i) = false
is_number TooLong = false

-- "digits of a used debit", over the first n rows
unfoldable pub digits_to : ℕ → List ℕ → Bool
digits_to zero r = true
digits_to (suc k) r = cond (is_number (debit_of r k)) (digits_to k r) false

-- "Row sums", over the first n rows
unfoldable pub debits_to : ℕ → List ℕ → ℕ
debits_to zero r = 0
debits_to (suc k) r = debits_to k r + amount_of (debit_of r k)

-- over all rows: "32 digits of a used debit"
unfoldable pub debits_in : List ℕ → Accounts
debits_in r = cond (digits_to row_count r) (Sum (debits_to row_count r)) NonDigit

-- "the final balance that 001 places in V": at 1788 to 1802
abbrev pub balance_start : ℕ
balance_start = 1787

unfoldable pub balance_in : List ℕ → Digits
balance_in r = number_of (take 15 (drop balance_start r))

-- "Row sums must equal the final balance"
abbrev pub balanced : ℕ → Digits → Accounts
balanced s (Number b) = cond (eqb s b) (Sum s) Unequal
balanced s (Read.NonDigit i) = NonDigit
balanced s TooLong = NonDigit

abbrev pub against_balance : Accounts → Digits → Accounts
against_balance (Sum s) b = balanced s b
against_balance NonDigit b = NonDigit
against_balance Unequal b = Unequal

-- "or the final balance, 33 sums": the accounts of a V
unfoldable pub accounts_in : List ℕ → Accounts
accounts_in r = against_balance (debits_in r) (balance_in r)
