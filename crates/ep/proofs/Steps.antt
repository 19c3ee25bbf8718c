-- What one record comes to, by its kind, put together from what the code works out; and that the numbers of a tally stay small.
use Prim.Native.Nat.{ℕ, ◌+◌, ◌<◌}
use mathlib.Core.Path.{◌≡◌, refl, sym, ap, ◌∙◌}
use mathlib.Core.List.{List}
use native.Mathlib.Omega.{arith}
use lib.ListN.{length}
use Rattle.std.specs.Result.{result_unwrap_or}
use Rattle.ep_total.specs.Answers.{Total}
use Rattle.ep_accounts.specs.Answers.{Accounts, Sum, NonDigit, Unequal}
use Rattle.ep_accounts.specs.Accounts.{accounts_in}
use Rattle.ep_accounts.proofs.Sums.{sum_below}
use Rattle.ep.specs.declared.Kind.{Kind}
use Rattle.ep.specs.declared.Kind.TheVariants.{RecordM, RecordV, OtherRecord}
use Rattle.ep.specs.Answers.{Outcome}
use Rattle.ep.specs.declared.Tally.{Tally}
use Rattle.ep.specs.declared.Step.{Step}
use Rattle.ep.specs.Payments.{kind_of, total_in, no_tally, here, closing, v_fault, after_other, fault_by, fault, added, with_accounts, with_payment, with_other, next_by, next, stepped}
use Rattle.ep.specs.Bounds.{Small}

module _ (t : Tally) (r : List ℕ) where
  -- A step is that of the record's kind.
  stepped_by : (k : Kind) → kind_of r ≡ k → stepped t r ≡ record { tally = next_by k t r; outcome = fault_by k t r }
  unfolding stepped next fault
  stepped_by k e = ap (λ (q : Kind). record { tally = next_by q t r; outcome = fault_by q t r }) e

  module _ (u : Tally) (o : Outcome) where
    both : (v : Tally) (p : Outcome) → u ≡ v → o ≡ p → ◌≡◌ {A = Step} (record { tally = u; outcome = o }) (record { tally = v; outcome = p })
    both v p e f = rw (e, f)

    pub step-m : kind_of r ≡ RecordM → (m : Total) → o ≡ closing t (here t) → m ≡ total_in r → u ≡ with_payment t m → record { tally = u; outcome = o } ≡ stepped t r
    step-m k m c e f = both (next_by RecordM t r) (fault_by RecordM t r) (f ∙ ap (with_payment t) e) c ∙ sym (stepped_by RecordM k)

    pub step-v : kind_of r ≡ RecordV → (a : Accounts) → a ≡ accounts_in r → o ≡ v_fault t a → u ≡ with_accounts t a → record { tally = u; outcome = o } ≡ stepped t r
    step-v k a e c f = both (next_by RecordV t r) (fault_by RecordV t r) (f ∙ ap (with_accounts t) e) (c ∙ ap (v_fault t) e) ∙ sym (stepped_by RecordV k)

    pub step_other : kind_of r ≡ OtherRecord → (b : Outcome) → b ≡ closing t (here t) → o ≡ after_other (here t) b → u ≡ with_other t → record { tally = u; outcome = o } ≡ stepped t r
    step_other k b e c f = both (next_by OtherRecord t r) (fault_by OtherRecord t r) f (c ∙ ap (after_other (here t)) e) ∙ sym (stepped_by OtherRecord k)

-- What a V adds has at most fifteen digits.
pub added-below : (r : List ℕ) → length r ≡ 1900 → (a : Accounts) → a ≡ accounts_in r → added a < 1000000000000000
added-below r l (Sum s) e = sum_below r s l (sym e)
added-below r l NonDigit e = omega arith
added-below r l Unequal e = omega arith

-- What a V adds is its sum, where it has one.
pub added-or : (a : Accounts) → result_unwrap_or a 0 ≡ added a
added-or (Sum s) = refl
added-or NonDigit = refl
added-or Unequal = refl

-- The record that comes next is counted.
pub seen_next : (t : Tally) (r : List ℕ) → (next t r).seen ≡ t.seen + 1
unfolding next with_payment with_accounts with_other
seen_next t r = go (kind_of r)
  where
    go : (k : Kind) → (next_by k t r).seen ≡ t.seen + 1
    go RecordM = refl
    go RecordV = refl
    go OtherRecord = refl

-- Numbers are small at first.
pub small-start : (t : Tally) → t ≡ no_tally → Small t
small-start t e = rw e (record { few = omega arith; counted = omega arith; all-added = omega arith; own-added = omega arith })

-- Numbers stay small.
pub small-next : (t : Tally) (r : List ℕ) → length r ≡ 1900 → Small t → t.seen < 10000 → Small (next t r)
unfolding next with_payment with_accounts with_other
small-next t r l s h = go (kind_of r) (added-below r l (accounts_in r) refl)
  where
    go : (k : Kind) → added (accounts_in r) < 1000000000000000 → Small (next_by k t r)
    go RecordM b = record { few = omega arith; counted = omega (arith, s.counted); all-added = omega (arith, s.all-added); own-added = omega arith }
    go RecordV b = record { few = omega arith; counted = omega (arith, s.counted); all-added = omega (arith, s.all-added); own-added = omega (arith, s.own-added) }
    go OtherRecord b = record { few = omega arith; counted = omega (arith, s.counted); all-added = omega (arith, s.all-added); own-added = omega (arith, s.own-added) }
