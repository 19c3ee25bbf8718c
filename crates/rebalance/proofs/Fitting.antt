-- What fits its field: what the tests on totals, balances and the tail's values say of the stored fields, and the other way round.
use mathlib.Core.Logic.{◌⊎◌, inl, inr}
use Prim.Native.Nat.{ℕ, ◌+◌, ◌-◌, ◌^◌, ◌<◌, ◌≤◌}
use mathlib.Core.Path.{◌≡◌, refl, sym, ap, ◌∙◌}
use mathlib.Core.Bool.{Bool, true, false, cond}
use mathlib.Core.List.{List, [], ◌∷◌}
use native.Mathlib.Omega.{arith}
use native.Mathlib.Nat.{add-sub_cancel_left}
use borrow.Author.Tests.{leb-true, leb-false, ltb-true, lt-ltb, le-ltb}
use lib.Dec.{ltb, leb}
use Rattle.layout.specs.declared.Field.{Field}
use Rattle.layout.specs.declared.Kind.TheVariants.{Tail}
use Rattle.layout.specs.Sections.{section_at}
use Rattle.layout.specs.Fields.{amount_at, final_balance, tail_deleghe, tail_sum, tail_records}
use Rattle.amounts.specs.declared.Sums.{Sums}
use Rattle.rules.specs.declared.State.{State}
use Rattle.amounts.specs.Amounts.{apart}
use Rattle.rules.specs.Stored.{Stored, Value, stored_balance, stored_section, stored_of}
use Rattle.rebalance.specs.Rebalance.{fits_one, fits_all}
use Rattle.text.proofs.Tests.{both_true}

-- A test by itself.
pub alone : (t : Bool) → cond t true false ≡ t
alone true = refl
alone false = refl

-- A number is at most m where it is below the next.
at_most : (m v : ℕ) → leb v m ≡ ltb v (m + 1)
at_most m v = go (leb v m) refl
  where
    go : (t : Bool) → leb v m ≡ t → t ≡ ltb v (m + 1)
    go true p = sym (lt-ltb v (m + 1) (let h : v ≤ m = leb-true v m p in omega arith))
    go false p = sym (le-ltb v (m + 1) (let h : m < v = leb-false v m p in omega arith))

-- A number alone fits where it is at most the largest.
fits-alone : (n : ℕ) (f : Field) (m v : ℕ) → m + 1 ≡ 10 ^ (f.end - f.start) → fits_all (Value n f v ∷ []) ≡ leb v m
unfolding fits_all
fits-alone n f m v e = alone _ ∙ (ap (ltb v) (sym e) ∙ sym (at_most m v))

-- Stored fields do not fit where the first does not.
fits-no : (n : ℕ) (f : Field) (m v : ℕ) (xs : List Stored) → m + 1 ≡ 10 ^ (f.end - f.start) → m < v → fits_all (Value n f v ∷ xs) ≡ false
unfolding fits_all
fits-no n f m v xs e h = rw (le-ltb v (10 ^ (f.end - f.start)) (omega arith))

-- Where the first of stored fields fits, they fit if the others do.
fits_on : (n : ℕ) (f : Field) (m v : ℕ) (xs : List Stored) → m + 1 ≡ 10 ^ (f.end - f.start) → v ≤ m → fits_all (Value n f v ∷ xs) ≡ fits_all xs
unfolding fits_all
fits_on n f m v xs e h = rw (lt-ltb v (10 ^ (f.end - f.start)) (omega arith))

-- The largest amount, of fifteen digits.
fifteen : (s : ℕ) → 999_999_999_999_999 + 1 ≡ 10 ^ (s + 15 - s)
fifteen s = rw (add-sub_cancel_left s 15)

-- The final balance fits where it is at most the largest amount.
pub fits-payment : (v : ℕ) → fits_all (Value 15 final_balance v ∷ []) ≡ leb v 999_999_999_999_999
fits-payment v = fits-alone 15 final_balance 999_999_999_999_999 v refl

-- The sums of a section.
module _ (s : ℕ) (t : Sums) where
  -- The sign always fits, and the balance where it is at most the largest amount.
  fits-ends : fits_all (stored_balance s t) ≡ leb (apart t.debit t.credit) 999_999_999_999_999
  unfolding fits_all
  fits-ends = fits-alone 13 (amount_at (section_at s).balance) 999_999_999_999_999 _ (fifteen _)

  -- A section without totals stores no more.
  pub fits-plain : (section_at s).totals ≡ false → fits_all (stored_section s t) ≡ leb (apart t.debit t.credit) 999_999_999_999_999
  fits-plain e = rw e fits-ends

  -- A section with totals.
  module _ (e : (section_at s).totals ≡ true) where
    abbrev credit-on : List Stored
    credit-on = Value 11 (amount_at (section_at s).total_credit) t.credit ∷ stored_balance s t

    -- It stores the debit first.
    fits-opened : fits_all (stored_section s t) ≡ fits_all (Value 10 (amount_at (section_at s).total_debit) t.debit ∷ credit-on)
    fits-opened = rw e

    -- The total debit is above the largest amount.
    pub fits-debit : 999_999_999_999_999 < t.debit → fits_all (stored_section s t) ≡ false
    fits-debit h = fits-opened ∙ fits-no 10 (amount_at (section_at s).total_debit) 999_999_999_999_999 t.debit credit-on (fifteen _) h

    module _ (h : t.debit ≤ 999_999_999_999_999) where
      -- The total debit fits, so that the rest decides.
      fits-past : fits_all (stored_section s t) ≡ fits_all credit-on
      fits-past = fits-opened ∙ fits_on 10 (amount_at (section_at s).total_debit) 999_999_999_999_999 t.debit credit-on (fifteen _) h

      -- The total credit is above the largest amount.
      pub fits-credit : 999_999_999_999_999 < t.credit → fits_all (stored_section s t) ≡ false
      fits-credit i = fits-past ∙ fits-no 11 (amount_at (section_at s).total_credit) 999_999_999_999_999 t.credit (stored_balance s t) (fifteen _) i

      -- Both totals fit, so that the balance decides.
      pub fits-balance : t.credit ≤ 999_999_999_999_999 → fits_all (stored_section s t) ≡ leb (apart t.debit t.credit) 999_999_999_999_999
      fits-balance i = fits-past ∙ (fits_on 11 (amount_at (section_at s).total_credit) 999_999_999_999_999 t.credit (stored_balance s t) (fifteen _) i ∙ fits-ends)

  -- A total that is too large does not fit, be it of the debits or of the credits.
  pub fits-neither : (section_at s).totals ≡ true → (999_999_999_999_999 < t.debit) ⊎ ((t.debit ≤ 999_999_999_999_999) × (999_999_999_999_999 < t.credit)) → fits_all (stored_section s t) ≡ false
  fits-neither e (inl h) = fits-debit e h
  fits-neither e (inr h) = fits-credit e h.0 h.1

-- The tail's values after the records that led to a state.
module _ (st : State) where
  abbrev sum-on : List Stored
  sum-on = Value 20 tail_sum st.money.total ∷ []

  abbrev records-on : List Stored
  records-on = Value 19 tail_records (st.seen + 1) ∷ sum-on

  -- The number of deleghe has more than seven digits.
  pub fits-deleghe : 9_999_999 < st.deleghe → fits_all (stored_of st Tail) ≡ false
  fits-deleghe h = fits-no 18 tail_deleghe 9_999_999 st.deleghe records-on refl h

  module _ (h : st.deleghe ≤ 9_999_999) where
    -- The number of records has more than seven digits.
    pub fits-records : 9_999_999 < st.seen + 1 → fits_all (stored_of st Tail) ≡ false
    fits-records i = fits_on 18 tail_deleghe 9_999_999 st.deleghe records-on refl h ∙ fits-no 19 tail_records 9_999_999 (st.seen + 1) sum-on refl i

    -- Both counts fit, so that the sum decides.
    pub fits_sum : st.seen + 1 ≤ 9_999_999 → fits_all (stored_of st Tail) ≡ leb st.money.total 999_999_999_999_999
    fits_sum i =
        fits_on 18 tail_deleghe 9_999_999 st.deleghe records-on refl h
        ∙ (fits_on 19 tail_records 9_999_999 (st.seen + 1) sum-on refl i ∙ fits-alone 20 tail_sum 999_999_999_999_999 st.money.total refl)

-- Where stored fields fit, the first does and the others do.
pub fits-first : (n : ℕ) (f : Field) (v : ℕ) (xs : List Stored) → fits_all (Value n f v ∷ xs) ≡ true → (v < 10 ^ (f.end - f.start)) × (fits_all xs ≡ true)
unfolding fits_all
fits-first n f v xs e = let p = both_true (fits_one (Value n f v)) (fits_all xs) e in (ltb-true v (10 ^ (f.end - f.start)) p.0, p.1)

-- Where what a section stores fits, each of its totals does and so does the rest.
pub totals-fit : (s : ℕ) (t : Sums) → (section_at s).totals ≡ true → fits_all (stored_section s t) ≡ true →
    (t.debit < 10 ^ ((section_at s).total_debit + 15 - (section_at s).total_debit)) × (t.credit < 10 ^ ((section_at s).total_credit + 15 - (section_at s).total_credit)) × (fits_all (stored_balance s t) ≡ true)
totals-fit s t e h =
    let p = fits-first 10 (amount_at (section_at s).total_debit) t.debit (credit-on s t e) (sym (fits-opened s t e) ∙ h) in
    let q = fits-first 11 (amount_at (section_at s).total_credit) t.credit (stored_balance s t) p.1 in
    (p.0, q.0, q.1)

-- Where what a section without totals stores fits, its sign and its balance do.
pub plain-fit : (s : ℕ) (t : Sums) → (section_at s).totals ≡ false → fits_all (stored_section s t) ≡ true → fits_all (stored_balance s t) ≡ true
plain-fit s t e h = rw e at h

-- Where the sign and the balance of a section fit, the balance does.
pub ends-fit : (s : ℕ) (t : Sums) → fits_all (stored_balance s t) ≡ true → apart t.debit t.credit < 10 ^ ((section_at s).balance + 15 - (section_at s).balance)
unfolding fits_all
ends-fit s t e = (fits-first 13 (amount_at (section_at s).balance) (apart t.debit t.credit) [] e).0

-- Where what the tail stores fits, each of its values does.
pub tail-fit : (st : State) → fits_all (stored_of st Tail) ≡ true → (st.deleghe < 10_000_000) × (st.seen + 1 < 10_000_000) × (st.money.total < 1_000_000_000_000_000)
tail-fit st e =
    let p = fits-first 18 tail_deleghe st.deleghe (records-on st) e in
    let q = fits-first 19 tail_records (st.seen + 1) (sum-on st) p.1 in
    (p.0, q.0, (fits-first 20 tail_sum st.money.total [] q.1).0)
