-- For theorems. The rows as 001 prints them, position by position, counted from 1: nothing here goes by a rule over the row's number.
use Rattle.std.specs.Prelude.{ℕ, ◌+◌, ◌-◌, ◌≡◌, true, cond, List, [], ◌∷◌, eqb, take, drop, get_or}
use Rattle.text.specs.Answers.{Number}
use Rattle.text.specs.Numbers.{number_of, amount_of}
use Rattle.ep_accounts.specs.Accounts.{is_number}

-- "Tipo riga", fields 11, 18, .. 200 of V: where each row starts
abbrev pub printed_rows : List ℕ
printed_rows =
    100 ∷ 156 ∷ 212 ∷ 268 ∷ 324 ∷ 380 ∷ 436
    ∷ 492 ∷ 548 ∷ 604 ∷ 660 ∷ 716 ∷ 772 ∷ 828
    ∷ 884 ∷ 940 ∷ 996 ∷ 1052 ∷ 1108 ∷ 1164 ∷ 1220
    ∷ 1276 ∷ 1332 ∷ 1388 ∷ 1444 ∷ 1500 ∷ 1556 ∷ 1612
    ∷ []

-- "Importi a debito versati", fields 17, 24, .. 206 of V: where each debit starts
abbrev pub printed_debits : List ℕ
printed_debits =
    141 ∷ 197 ∷ 253 ∷ 309 ∷ 365 ∷ 421 ∷ 477
    ∷ 533 ∷ 589 ∷ 645 ∷ 701 ∷ 757 ∷ 813 ∷ 869
    ∷ 925 ∷ 981 ∷ 1037 ∷ 1093 ∷ 1149 ∷ 1205 ∷ 1261
    ∷ 1317 ∷ 1373 ∷ 1429 ∷ 1485 ∷ 1541 ∷ 1597 ∷ 1653
    ∷ []

-- the fifteen characters from a position on, as a number
abbrev pub amount_at : List ℕ → ℕ → ℕ
amount_at r p = amount_of (number_of (take 15 (drop (p - 1) r)))

-- the debit at d counts where the row at t is used
abbrev pub used_debit : List ℕ → ℕ → ℕ → ℕ
used_debit r t d = cond (eqb (get_or r (t - 1) 0) 32) 0 (amount_at r d)

-- the sum of the used debits after a, over rows at such positions
unfoldable pub used_from : ℕ → List ℕ → List ℕ → List ℕ → ℕ
used_from a r [] ds = a
used_from a r (t ∷ ts) [] = a
used_from a r (t ∷ ts) (d ∷ ds) = used_from (a + used_debit r t d) r ts ds

-- the sum of the used debits of a V, over all that 001 prints
unfoldable pub used_debits : List ℕ → ℕ
used_debits r = used_from 0 r printed_rows printed_debits

-- the fifteen characters from a position on are digits
abbrev pub DigitsAt : List ℕ → ℕ → Type 0
DigitsAt r p = is_number (number_of (take 15 (drop (p - 1) r))) ≡ true

-- the debit of each used row, over rows at such positions, is digits
abbrev pub UsedDigits : List ℕ → List ℕ → List ℕ → Type 0
UsedDigits r [] ds = Unit {0}
UsedDigits r (t ∷ ts) [] = Unit {0}
UsedDigits r (t ∷ ts) (d ∷ ds) = ((get_or r (t - 1) 0 ≡ 32 → ⊥) → DigitsAt r d) × UsedDigits r ts ds

-- "Saldo finale modello F24 EP", field 213 of V
abbrev pub printed_balance : ℕ
printed_balance = 1788

-- a V that breaks no check: the debits of used rows and the final balance are digits, and the final balance is their sum
pub record Balanced (r : List ℕ) : Type 0 where
  pub debits : UsedDigits r printed_rows printed_debits
  pub balance : number_of (take 15 (drop (printed_balance - 1) r)) ≡ Number (used_debits r)
