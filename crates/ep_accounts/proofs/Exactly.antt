-- The accounts of a V come to a sum exactly where, at the positions that 001 prints, every used debit and the final balance are digits and the balance is the sum of the debits.
use Prim.Native.Nat.{ℕ, zero, suc, ◌+◌, ◌-◌, ◌*◌, ◌<◌, ◌≤◌}
use mathlib.Core.Path.{◌≡◌, refl, sym, ap, ◌∙◌}
use mathlib.Core.Bool.{Bool, true, false, cond, false≢true}
use mathlib.Core.List.{List, [], ◌∷◌}
use native.Mathlib.Omega.{arith}
use native.Mathlib.Decide.{dec_le}
use borrow.Author.Tests.{eqb-false, ne_eqb}
use lib.Dec.{eqb}
use lib.ListN.{take, drop, get_or}
use Rattle.text.specs.Answers.{Digits, Number, TooLong}
use Rattle.text.specs.Answers as Read
use Rattle.text.specs.Numbers.{number_of, amount_of}
use Rattle.text.proofs.Tests.{both_true}
use Rattle.ep_accounts.specs.Answers.{Sum, NonDigit, Unequal}
use Rattle.ep_accounts.specs.Accounts.{row_count, blank, type_in, debit_field, debit_of, is_number, digits_to, debits_to, debits_in, balance_start, balance_in, against_balance, accounts_in}
use Rattle.ep_accounts.specs.Printed.{printed_rows, printed_debits, printed_balance, amount_at, used_debits, DigitsAt, UsedDigits, Balanced}
use Rattle.ep_accounts.proofs.Sums.{rows-printed, accounts-parts, accounts-used, parts-accounts}

module _ (r : List ℕ) where
  -- The debit of row k is digits where the row is used.
  Used : ℕ → Type 0
  Used k = (type_in r k ≡ blank → ⊥) → is_number (number_of (debit_field r k)) ≡ true

  number-used : (k : ℕ) → is_number (debit_of r k) ≡ true → Used k
  unfolding debit_of Used
  number-used k e n = sym (ap is_number (ap (λ (t : Bool). cond t (Number 0) (number_of (debit_field r k))) (ne_eqb _ _ n))) ∙ e

  used-number : (k : ℕ) → Used k → is_number (debit_of r k) ≡ true
  unfolding debit_of Used
  used-number k u = go (eqb (type_in r k) blank) refl
    where
      go : (t : Bool) → eqb (type_in r k) blank ≡ t → is_number (cond t (Number 0) (number_of (debit_field r k))) ≡ true
      go true e = refl
      go false e = u (eqb-false _ _ e)

  -- So it is of all rows.
  each-used : (n : ℕ) → digits_to n r ≡ true → (k : ℕ) → k < n → Used k
  unfolding digits_to
  each-used zero e k h = absurd (omega arith)
  each-used (suc n) e k h = go (dec_le n k) (λ l. each-used n (both_true (is_number (debit_of r n)) (digits_to n r) e).1 k l)
    where
      go : Dec (n ≤ k) → (k < n → Used k) → Used k
      go (yes g) ih = let q : n ≡ k = omega arith in rw (← q) (number-used n (both_true (is_number (debit_of r n)) (digits_to n r) e).0)
      go (no d) ih = ih (omega arith)

  used-each : (n : ℕ) → ((k : ℕ) → k < n → Used k) → digits_to n r ≡ true
  unfolding digits_to
  used-each zero u = refl
  used-each (suc n) u = rw (used-number n (u n (omega arith)), used-each n (λ k h. u k (omega arith)))

  -- The rows from the k-th on, by the rule and by position.
  rows_from : ℕ → ℕ → List ℕ
  rows_from k zero = []
  rows_from k (suc n) = (100 + 56 * k) ∷ rows_from (k + 1) n

  debits_from : ℕ → ℕ → List ℕ
  debits_from k zero = []
  debits_from k (suc n) = (141 + 56 * k) ∷ debits_from (k + 1) n

  all-used : (n k : ℕ) → ((j : ℕ) → k ≤ j → j < k + n → Used j) → UsedDigits r (rows_from k n) (debits_from k n)
  unfolding rows_from debits_from Used
  all-used zero k u = tt
  all-used (suc n) k u =
      let a : 100 + 56 * k - 1 ≡ 99 + 56 * k = omega arith in
      let b : 141 + 56 * k - 1 ≡ 99 + 56 * k + 41 = omega arith in
      ((λ m. ap (λ (x : ℕ). is_number (number_of (take 15 (drop x r)))) b ∙ u k (omega arith) (omega arith) (λ e. m (ap (λ (x : ℕ). get_or r x 0) a ∙ e))), all-used n (k + 1) (λ j g h. u j (omega arith) (omega arith)))

  each_of : (n k : ℕ) → UsedDigits r (rows_from k n) (debits_from k n) → (j : ℕ) → k ≤ j → j < k + n → Used j
  unfolding rows_from debits_from Used
  each_of zero k u j g h = absurd (omega arith)
  each_of (suc n) k u j g h = go (dec_le (k + 1) j) (λ l. each_of n (k + 1) u.1 j l (omega arith))
    where
      here : Used k
      here m =
          let a : 100 + 56 * k - 1 ≡ 99 + 56 * k = omega arith in
          let b : 141 + 56 * k - 1 ≡ 99 + 56 * k + 41 = omega arith in
          sym (ap (λ (x : ℕ). is_number (number_of (take 15 (drop x r)))) b) ∙ u.0 (λ e. m (sym (ap (λ (x : ℕ). get_or r x 0) a) ∙ e))

      go : Dec (k + 1 ≤ j) → (k + 1 ≤ j → Used j) → Used j
      go (yes l) on = on l
      go (no d) on = let q : k ≡ j = omega arith in rw (← q) here

  -- The rule gives the positions that 001 prints, of as many rows.
  rows_are : UsedDigits r (rows_from 0 row_count) (debits_from 0 row_count) → UsedDigits r printed_rows printed_debits
  unfolding rows_from debits_from
  rows_are u = u

  are-rows : UsedDigits r printed_rows printed_debits → UsedDigits r (rows_from 0 row_count) (debits_from 0 row_count)
  unfolding rows_from debits_from
  are-rows u = u

  -- Accounts that come to a sum are balanced, and the sum is that of the used debits.
  pub accounts-balanced : (s : ℕ) → accounts_in r ≡ Sum s → Balanced r × (s ≡ used_debits r)
  unfolding balance_in
  accounts-balanced s e =
      let p = accounts-parts r s e in
      let u = accounts-used r s e in
      (record { debits = rows_are (all-used row_count 0 (λ j g h. each-used row_count p.0 j (omega arith))); balance = p.2 ∙ ap Number u }, u)

  -- Balanced accounts come to the sum of the used debits.
  pub balanced-accounts : Balanced r → accounts_in r ≡ Sum (used_debits r)
  unfolding balance_in
  balanced-accounts b = parts-accounts r (used_debits r) (used-each row_count (λ k h. each_of row_count 0 (are-rows b.debits) k (omega arith) (omega arith))) (rows-printed r) b.balance

  -- Accounts that are refused 32 have a used debit or a balance that is not digits.
  pub accounts-no-digits : accounts_in r ≡ NonDigit → UsedDigits r printed_rows printed_debits → DigitsAt r printed_balance → ⊥
  unfolding accounts_in debits_in balance_in
  accounts-no-digits e u d = go (digits_to row_count r) (used-each row_count (λ k h. each_of row_count 0 (are-rows u) k (omega arith) (omega arith))) (balance_in r) d e
    where
      by : (b : Bool) (s : ℕ) → cond b (Sum s) Unequal ≡ NonDigit → ⊥
      by true s f = let z : ◌≡◌ {A = ℕ} 0 1 = cc in absurd (omega arith)
      by false s f = let z : ◌≡◌ {A = ℕ} 0 1 = cc in absurd (omega arith)

      go : (t : Bool) → t ≡ true → (b : Digits) → is_number b ≡ true → against_balance (cond t (Sum (debits_to row_count r)) NonDigit) b ≡ NonDigit → ⊥
      go true p (Number v) q f = by (eqb (debits_to row_count r) v) (debits_to row_count r) f
      go true p (Read.NonDigit i) q f = absurd (false≢true q)
      go true p TooLong q f = absurd (false≢true q)
      go false p b q f = absurd (false≢true p)

  -- Accounts that are refused 33 have digits everywhere, and a balance that is not the sum of the used debits.
  pub accounts-no-sum : accounts_in r ≡ Unequal → UsedDigits r printed_rows printed_debits × DigitsAt r printed_balance × (amount_at r printed_balance ≡ used_debits r → ⊥)
  unfolding accounts_in debits_in balance_in
  accounts-no-sum e = go (digits_to row_count r) refl (balance_in r) refl e
    where
      by : (v : ℕ) (b : Bool) → eqb (debits_to row_count r) v ≡ b → cond b (Sum (debits_to row_count r)) Unequal ≡ Unequal → v ≡ used_debits r → ⊥
      by v true p f g = let z : ◌≡◌ {A = ℕ} 0 1 = cc in absurd (omega arith)
      by v false p f g = eqb-false _ _ p (rows-printed r ∙ sym g)

      go : (t : Bool) → digits_to row_count r ≡ t → (b : Digits) → number_of (take 15 (drop balance_start r)) ≡ b → against_balance (cond t (Sum (debits_to row_count r)) NonDigit) b ≡ Unequal →
          UsedDigits r printed_rows printed_debits × DigitsAt r printed_balance × (amount_at r printed_balance ≡ used_debits r → ⊥)
      go true p (Number v) q f =
          (rows_are (all-used row_count 0 (λ j g h. each-used row_count p j (omega arith))), ap is_number q, λ g. by v (eqb (debits_to row_count r) v) refl f (sym (ap amount_of q) ∙ g))
      go true p (Read.NonDigit i) q f = let z : ◌≡◌ {A = ℕ} 0 1 = cc in absurd (omega arith)
      go true p TooLong q f = let z : ◌≡◌ {A = ℕ} 0 1 = cc in absurd (omega arith)
      go false p b q f = let z : ◌≡◌ {A = ℕ} 0 1 = cc in absurd (omega arith)
