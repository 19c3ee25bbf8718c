-- What accounts that come to a sum say: every used debit is a number, they add up to the sum, and the final balance is that sum. And the rows are those that 001 prints.
use Prim.Native.Nat.{ℕ, zero, suc, ◌+◌, ◌<◌}
use mathlib.Core.Path.{◌≡◌, refl, sym, ap, ap₂, ◌∙◌}
use mathlib.Core.Bool.{Bool, true, false, cond}
use mathlib.Core.List.{List}
use native.Mathlib.Omega.{arith}
use borrow.Author.Tests.{eq-eqb, eqb-true}
use lib.Dec.{eqb}
use lib.ListN.{length, take, drop}
use Rattle.text.specs.Answers.{Digits, Number, TooLong}
use Rattle.text.specs.Answers as Read
use Rattle.text.specs.Numbers.{amount_of, number_of}
use Rattle.text.proofs.Bytes.{part_length}
use Rattle.text.proofs.Numerals.{number-below}
use Rattle.ep_accounts.specs.Answers.{Sum, NonDigit, Unequal}
use Rattle.ep_accounts.specs.Accounts.{row_count, blank, type_in, debit_field, debit_of, digits_to, debits_to, debits_in, balance_start, balance_in, against_balance, accounts_in}
use Rattle.ep_accounts.specs.Printed.{used_from, used_debits}

-- The debit of a row that is used, over the row's number.
abbrev plain_debit : List ℕ → ℕ → ℕ
plain_debit r k = cond (eqb (type_in r k) blank) 0 (amount_of (number_of (debit_field r k)))

-- A row adds its debit where it is used.
row-adds : (r : List ℕ) (k : ℕ) → amount_of (debit_of r k) ≡ plain_debit r k
unfolding debit_of
row-adds r k = go (eqb (type_in r k) blank)
  where
    go : (t : Bool) → amount_of (cond t (Number 0) (number_of (debit_field r k))) ≡ cond t 0 (amount_of (number_of (debit_field r k)))
    go true = refl
    go false = refl

-- So do the first n rows.
plain_to : ℕ → List ℕ → ℕ
plain_to zero r = 0
plain_to (suc k) r = plain_to k r + plain_debit r k

rows-add : (n : ℕ) (r : List ℕ) → debits_to n r ≡ plain_to n r
unfolding debits_to plain_to
rows-add zero r = refl
rows-add (suc n) r = ap₂ ◌+◌ (rows-add n r) (row-adds r n)

-- The sum over the rows is the sum over the positions that 001 prints.
pub rows-printed : (r : List ℕ) → debits_to row_count r ≡ used_debits r
unfolding used_debits used_from plain_to
rows-printed r = rows-add row_count r

module _ (r : List ℕ) (s : ℕ) where
  -- What must hold for a sum.
  parts : (t : Bool) (d : ℕ) (b : Digits) → against_balance (cond t (Sum d) NonDigit) b ≡ Sum s → (t ≡ true) × (d ≡ s) × (b ≡ Number s)
  parts true d (Number v) e = go (eqb d v) refl e
    where
      go : (q : Bool) → eqb d v ≡ q → cond q (Sum d) Unequal ≡ Sum s → (◌≡◌ {A = Bool} true true) × (d ≡ s) × (Number v ≡ Number s)
      go true p f = let ds : d ≡ s = cc in (refl, ds, ap Number (sym (eqb-true d v p) ∙ ds))
      go false p f = let z : ◌≡◌ {A = ℕ} 0 1 = cc in absurd (omega arith)
  parts true d (Read.NonDigit i) e = let z : ◌≡◌ {A = ℕ} 0 1 = cc in absurd (omega arith)
  parts true d TooLong e = let z : ◌≡◌ {A = ℕ} 0 1 = cc in absurd (omega arith)
  parts false d b e = let z : ◌≡◌ {A = ℕ} 0 1 = cc in absurd (omega arith)

  pub accounts-parts : accounts_in r ≡ Sum s → (digits_to row_count r ≡ true) × (debits_to row_count r ≡ s) × (balance_in r ≡ Number s)
  unfolding accounts_in debits_in
  accounts-parts e = parts (digits_to row_count r) (debits_to row_count r) (balance_in r) e

  -- And it is enough.
  pub parts-accounts : digits_to row_count r ≡ true → debits_to row_count r ≡ s → balance_in r ≡ Number s → accounts_in r ≡ Sum s
  unfolding accounts_in debits_in
  parts-accounts d e b = rw (d, e, b, eq-eqb s s refl)

  -- The sum is that of the used debits.
  pub accounts-used : accounts_in r ≡ Sum s → s ≡ used_debits r
  accounts-used e = sym (accounts-parts e).1 ∙ rows-printed r

  -- A sum has at most fifteen digits, as the balance has.
  pub sum_below : length r ≡ 1900 → accounts_in r ≡ Sum s → s < 1000000000000000
  unfolding balance_in
  sum_below l e =
      let b : amount_of (number_of (take 15 (drop balance_start r))) < 1000000000000000 = number-below 15 (take 15 (drop balance_start r)) (part_length 15 balance_start r (omega arith)) in
      rw (accounts-parts e).2 at b
