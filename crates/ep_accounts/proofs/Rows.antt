-- Laws of the rows of a V: what one row says, over the row's number; and the rows so far and one row more.
use Prim.Native.Nat.{ℕ, zero, suc, ◌+◌, ◌-◌, ◌*◌, ◌<◌, ◌≤◌}
use mathlib.Core.Path.{◌≡◌, refl, sym, ap, ◌∙◌}
use mathlib.Core.Bool.{Bool, true, false, cond, false≢true}
use mathlib.Core.List.{List}
use native.Mathlib.Omega.{arith}
use native.Mathlib.Numerals.{add-one}
use native.Mathlib.Decide.{dec_le}
use borrow.Author.Tests.{eq-eqb, ne_eqb}
use lib.Dec.{eqb}
use lib.ListN.{length, take, drop}
use Rattle.std.specs.Prelude.{Err}
use Rattle.std.specs.Result.{IsErr}
use Rattle.text.specs.Answers.{Digits, Number, NonDigit, TooLong}
use Rattle.text.specs.Numbers.{number_of, amount_of, read_number}
use Rattle.text.proofs.Bytes.{part_length}
use Rattle.text.proofs.Numerals.{read-is-number, number-below}
use Rattle.text.proofs.Tests.{either_way}
use Rattle.ep_accounts.specs.declared.AccountsError.{AccountsError}
use Rattle.ep_accounts.specs.declared.AccountsError.TheVariants as Why
use Rattle.ep_accounts.specs.Answers.{Accounts, Sum, Unequal}
use Rattle.ep_accounts.specs.Answers as Faulty
use Rattle.ep_accounts.specs.Accounts.{row_count, blank, row_start, type_in, debit_field, debit_of, is_number, digits_to, debits_to, debits_in, balance_in, balanced, against_balance, accounts_in}

module _ (r : List ℕ) (l : length r ≡ 1900) where
  -- Fifteen characters of a record, read.
  pub fifteen-read : (s w : ℕ) (d : Digits) → s + 15 ≤ 1900 → w ≡ 15 → d ≡ read_number (take w (drop s r)) → d ≡ number_of (take 15 (drop s r))
  fifteen-read s w d h e f =
      let n : length (take 15 (drop s r)) ≡ 15 = part_length 15 s r (omega arith) in
      f ∙ (ap (λ (v : ℕ). read_number (take v (drop s r))) e ∙ read-is-number (take 15 (drop s r)) (omega arith))

  module _ (k : ℕ) (h : k < row_count) where
    -- An unused row adds nothing.
    pub row-unused : type_in r k ≡ blank → debit_of r k ≡ Number 0
    unfolding debit_of
    row-unused e = rw (eq-eqb _ _ e)

    -- A used row adds what its debit says.
    pub row-used : (type_in r k ≡ blank → ⊥) → (d : Digits) → d ≡ read_number (take (row_start k + 56 - (row_start k + 41)) (drop (row_start k + 41) r)) → d ≡ debit_of r k
    unfolding debit_of
    row-used n d f = fifteen-read (row_start k + 41) _ d (omega arith) (let w : row_start k + 56 - (row_start k + 41) ≡ 15 = omega arith in w) f ∙ rw (ne_eqb _ _ n)

    -- A row adds at most fifteen digits.
    pub row_below : amount_of (debit_of r k) < 1000000000000000
    unfolding debit_of
    row_below = either_way (λ (d : Digits). amount_of d < 1000000000000000) (eqb (type_in r k) blank) (Number 0) (number_of (debit_field r k)) (omega arith) (number-below 15 (debit_field r k) (part_length 15 (row_start k + 41) r (omega arith)))

-- Digits that are no number.
pub no_number : (d : Digits) → IsErr d → is_number d ≡ false
no_number (Number v) t = absurd (false≢true t)
no_number (NonDigit i) t = refl
no_number TooLong t = refl

module _ (r : List ℕ) where
  -- A row that says none spoils all.
  pub digits-spoilt : (n k : ℕ) → k < n → is_number (debit_of r k) ≡ false → digits_to n r ≡ false
  unfolding digits_to
  digits-spoilt zero k h e = absurd (omega arith)
  digits-spoilt (suc n) k h e = go (dec_le n k) (λ l. digits-spoilt n k l e)
    where
      none : (t : Bool) → cond t false false ≡ false
      none true = refl
      none false = refl

      go : Dec (n ≤ k) → (k < n → digits_to n r ≡ false) → cond (is_number (debit_of r n)) (digits_to n r) false ≡ false
      go (yes g) ih = let q : k ≡ n = omega arith in ap (λ (t : Bool). cond t (digits_to n r) false) (ap (λ (j : ℕ). is_number (debit_of r j)) (sym q) ∙ e)
      go (no d) ih = rw (ih (omega arith)) (none (is_number (debit_of r n)))

  -- The rows add up to less than as many times 10 ^ 15 as they are.
  pub debits-below : length r ≡ 1900 → (n : ℕ) → n ≤ row_count → debits_to n r ≤ n * 1000000000000000
  unfolding debits_to
  debits-below l zero h = omega arith
  debits-below l (suc n) h = omega (arith, debits-below l n (omega arith), row_below r l n (omega arith))

  -- Where all rows say numbers, their sum is what the debits say.
  pub debits-all : (k s : ℕ) → k ≡ row_count → digits_to k r ≡ true → s ≡ debits_to k r → Sum s ≡ debits_in r
  unfolding debits_in
  debits-all k s e d f = sym (rw (rw e at d) (ap Sum (sym (rw e at f))))

  module _ (k : ℕ) (d : Digits) (e : d ≡ debit_of r k) where
    pub debits-spoilt : k < row_count → IsErr d → Faulty.NonDigit ≡ debits_in r
    unfolding debits_in
    debits-spoilt h t =
        let f : digits_to row_count r ≡ false = digits-spoilt row_count k h (ap is_number (sym e) ∙ no_number d t) in
        sym (ap (λ (b : Bool). cond b (Sum (debits_to row_count r)) Faulty.NonDigit) f)

    module _ (v : ℕ) (is : d ≡ Number v) where
      says : debit_of r k ≡ Number v
      says = sym e ∙ is

      -- One row more that says a number.
      pub digits_more : digits_to k r ≡ true → digits_to (k + 1) r ≡ true
      unfolding digits_to
      digits_more f = rw (add-one, says, f)

      module _ (s : ℕ) (f : s ≡ debits_to k r) where
        pub debits-more : s + v ≡ debits_to (k + 1) r
        unfolding debits_to
        debits-more = rw (add-one, says, f)

        pub sum_fits : length r ≡ 1900 → k < row_count → s + v ≤ 28000000000000000
        sum_fits l h =
            let b : amount_of (debit_of r k) < 1000000000000000 = row_below r l k h in
            omega (arith, f, debits-below l k (omega arith), rw says at b)

-- Debits that say no sum stay what they are against any balance.
pub no-sum : (w : AccountsError) (b : Digits) → against_balance (Err w) b ≡ Err w
no-sum Why.NonDigit b = refl
no-sum Why.Unequal b = refl

-- A balance that is no number spoils every sum.
pub no-balance : (s : ℕ) (b : Digits) → IsErr b → balanced s b ≡ Faulty.NonDigit
no-balance s (Number v) t = absurd (false≢true t)
no-balance s (NonDigit i) t = refl
no-balance s TooLong t = refl

module _ (r : List ℕ) (d : Accounts) (e : d ≡ debits_in r) where
  pub accounts-spoilt : (w : AccountsError) → d ≡ Err w → Err w ≡ accounts_in r
  unfolding accounts_in
  accounts-spoilt w f = sym (ap (λ (a : Accounts). against_balance a (balance_in r)) (sym e ∙ f) ∙ no-sum w (balance_in r))

  module _ (s : ℕ) (is : d ≡ Sum s) (b : Digits) (f : b ≡ balance_in r) where
    against : accounts_in r ≡ balanced s b
    unfolding accounts_in
    against = ap (λ (a : Accounts). against_balance a (balance_in r)) (sym e ∙ is) ∙ ap (balanced s) (sym f)

    pub balance-spoilt : IsErr b → Faulty.NonDigit ≡ accounts_in r
    balance-spoilt t = sym (against ∙ no-balance s b t)

    module _ (v : ℕ) (isv : b ≡ Number v) where
      pub balance-met : s ≡ v → Sum s ≡ accounts_in r
      balance-met q = sym (against ∙ (ap (balanced s) isv ∙ rw (eq-eqb _ _ q)))

      pub balance-missed : (s ≡ v → ⊥) → Unequal ≡ accounts_in r
      balance-missed q = sym (against ∙ (ap (balanced s) isv ∙ rw (ne_eqb _ _ q)))
