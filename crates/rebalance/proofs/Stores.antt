-- The stores of a record: one after the other they write its stored fields.
use Prim.Native.Nat.{ℕ, ◌+◌, ◌-◌, ◌<◌}
use mathlib.Core.Path.{◌≡◌, sym, ap, ◌∙◌}
use mathlib.Core.Bool.{true, false}
use mathlib.Core.List.{List, [], ◌∷◌, ◌++◌}
use native.Mathlib.Omega.{arith}
use native.Mathlib.Numerals.{add-one}
use lib.ListN.{length, take, drop, set}
use lib.Seq.{set_split}
use Rattle.text.specs.Numbers.{digits_of}
use Rattle.text.specs.Placing.{put_at}
use Rattle.layout.specs.declared.Field.{Field}
use Rattle.layout.specs.declared.Section.{Section}
use Rattle.layout.specs.declared.Kind.{Kind}
use Rattle.layout.specs.declared.Kind.TheVariants.{Tail}
use Rattle.layout.specs.Sections.{section_at}
use Rattle.layout.specs.Kinds.{kind_in}
use Rattle.layout.specs.Fields.{amount_at, tail_deleghe, tail_sum, tail_records}
use Rattle.layout.proofs.Table.{near-rule}
use Rattle.amounts.specs.declared.Sums.{Sums}
use Rattle.rules.specs.declared.State.{State}
use Rattle.amounts.specs.Amounts.{sign_of, apart}
use Rattle.rules.specs.Stored.{stored_balance, stored_section, stored_of}
use Rattle.rebalance.specs.Rebalance.{put_all, emit}

-- A number in the digits of a field.
abbrev pub written : Field → ℕ → List ℕ → List ℕ
written f v r = put_at f.start (digits_of (f.end - f.start) v) r

-- One byte put is one byte stored.
put_byte : (i b : ℕ) (l : List ℕ) → i < length l → put_at i (b ∷ []) l ≡ set l i b
unfolding put_at
put_byte i b l h = ap (λ (n : ℕ). take i l ++ b ∷ drop n l) (add-one i) ∙ sym (set_split l i b h)

-- The row x of a section, its sums, and the record before the stores.
module _ (s : ℕ) (t : Sums) (r : List ℕ) (x : Section) (ex : x ≡ section_at s) where
  -- The sign is stored, and then the balance is written.
  pub ends-written : (f : Field) (g v : ℕ) (ys : List ℕ) → length r ≡ 120 → f ≡ amount_at x.balance → g ≡ sign_of t.debit t.credit → v ≡ apart t.debit t.credit →
      ys ≡ written f v (set r x.sign g) → ys ≡ put_all (stored_balance s t) r
  unfolding put_all
  ends-written f g v ys l ef eg ev e =
      e ∙ rw (put_byte (section_at s).sign (sign_of t.debit t.credit) r (omega (arith, near-rule s)), ef, eg, ev, ex)

  -- The totals are written, and then the rest.
  pub totals-written : x.totals ≡ true → (f g : Field) (l m ys : List ℕ) → f ≡ amount_at x.total_debit → g ≡ amount_at x.total_credit →
      l ≡ written f t.debit r → m ≡ written g t.credit l → ys ≡ put_all (stored_balance s t) m → ys ≡ put_all (stored_section s t) r
  unfolding put_all
  totals-written e f g l m ys ef eg el em ey = rw (← ex, e) (ey ∙ rw (em, el, ef, eg, ex))

  -- A section without totals has only the rest.
  pub plain-written : x.totals ≡ false → (ys : List ℕ) → ys ≡ put_all (stored_balance s t) r → ys ≡ put_all (stored_section s t) r
  plain-written e ys ey = rw (ap (λ (y : Section). y.totals) (sym ex) ∙ e) ey

-- The tail's two counts are written, and then its sum.
pub tail_written : (st : State) (r l m ys : List ℕ) → l ≡ written tail_deleghe st.deleghe r → m ≡ written tail_records (st.seen + 1) l → ys ≡ written tail_sum st.money.total m → ys ≡ put_all (stored_of st Tail) r
unfolding put_all
tail_written st r l m ys el em ey = ey ∙ rw (em, el)

-- A record whose stored fields are written is rebalanced.
pub emit-by : (st : State) (k : Kind) (r ys : List ℕ) → k ≡ kind_in r → ys ≡ put_all (stored_of st k) r → ys ≡ emit st r
unfolding emit
emit-by st k r ys e f = rw (← e) f
