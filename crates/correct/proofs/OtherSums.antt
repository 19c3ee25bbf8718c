-- The sums of two flows that differ in one line: only its section's, its delega's and the flow's differ.
use Prim.Native.Nat.{ℕ, ◌+◌}
use mathlib.Core.Path.{◌≡◌, refl, sym, ap, ap₂, ◌∙◌}
use mathlib.Core.List.{List}
use native.Mathlib.Decide.{ℕ_discrete}
use native.Mathlib.Omega.{arith}
use lib.ListN.{get_or, set}
use lib.Seq.{get_or-set_other, set-set, set_comm}
use Rattle.layout.specs.declared.Kind.{Kind}
use Rattle.layout.specs.declared.Kind.TheVariants.{Head, Taxpayer, Domicile, Line, Balance, Payment, Receipt, Addressee, Tail, Unknown}
use Rattle.layout.specs.Kinds.{kind_in}
use Rattle.amounts.specs.declared.Sums.{Sums}
use Rattle.rules.specs.declared.DelegaSums.{DelegaSums}
use Rattle.rules.specs.declared.Money.{Money}
use Rattle.rules.specs.declared.State.{State}
use Rattle.rules.specs.State.{no_sums}
use Rattle.rules.specs.Step.{added, added_at, next_deleghe, next_money, line_sums, next}
use Rattle.correct.proofs.Mended.{Near, near_on}

-- Two states after the same records but for a line of section s in delega d: they differ in money only, not in other sections' sums, and not in a delega's sums but d's.
pub record Off (d s : ℕ) (a b : State) : Type 0 where
  pub near : Near a b
  pub others : set a.money.delega.sections s no_sums ≡ set b.money.delega.sections s no_sums
  pub elsewhere : (a.deleghe ≡ d → ⊥) → a.money.delega ≡ b.money.delega

-- Sums that differ in section s only are equal at any other.
pub blank-at : (s t : ℕ) (l m : List Sums) → (t ≡ s → ⊥) → set l s no_sums ≡ set m s no_sums → get_or l t no_sums ≡ get_or m t no_sums
blank-at s t l m h e = sym (get_or-set_other l s t no_sums no_sums h) ∙ (ap (λ (z : List Sums). get_or z t no_sums) e ∙ get_or-set_other m s t no_sums no_sums h)

-- They do so after a line is added to both.
added-blank : (s t : ℕ) (x : Sums) (l m : List Sums) → set l s no_sums ≡ set m s no_sums → set (added_at l t x) s no_sums ≡ set (added_at m t x) s no_sums
unfolding added_at
added-blank s t x l m e = go (ℕ_discrete t s)
  where
    go : Dec (t ≡ s) → set (set l t (added (get_or l t no_sums) x)) s no_sums ≡ set (set m t (added (get_or m t no_sums) x)) s no_sums
    go (yes h) = rw h (set-set l s _ no_sums ∙ (e ∙ sym (set-set m s _ no_sums)))
    go (no h) = set_comm l t s _ no_sums h ∙ (ap₂ (λ (z : List Sums) (v : Sums). set z t (added v x)) e (blank-at s t l m h e) ∙ sym (set_comm m t s _ no_sums h))

-- What the money of two states has in common stays so after a record.
off-money : (d s n : ℕ) (a b : Money) (k : Kind) (x : Sums) → set a.delega.sections s no_sums ≡ set b.delega.sections s no_sums → ((n ≡ d → ⊥) → a.delega ≡ b.delega) →
    (set (next_money a k x).delega.sections s no_sums ≡ set (next_money b k x).delega.sections s no_sums) × ((next_deleghe n k ≡ d → ⊥) → (next_money a k x).delega ≡ (next_money b k x).delega)
off-money d s n a b Head x e f = (e, f)
off-money d s n a b Taxpayer x e f = (refl, λ h. refl)
off-money d s n a b Domicile x e f = (e, f)
off-money d s n a b (Line t) x e f = (
  added-blank s t x a.delega.sections b.delega.sections e,
  λ h. ap (λ (m : DelegaSums). record { sections = added_at m.sections t x; all = added m.all x }) (f h),
)
off-money d s n a b (Balance t) x e f = (e, f)
off-money d s n a b Payment x e f = (refl, λ h. refl)
off-money d s n a b Receipt x e f = (e, f)
off-money d s n a b Addressee x e f = (e, f)
off-money d s n a b Tail x e f = (e, f)
off-money d s n a b Unknown x e f = (e, f)

-- A delega's sums after a record depend on those before it, and not on the rest of the state.
pub next-delega : (a b : State) (r : List ℕ) → a.money.delega ≡ b.money.delega → (next a r).money.delega ≡ (next b r).money.delega
unfolding next
next-delega a b r e = go (kind_in r) (line_sums (kind_in r) r)
  where
    go : (k : Kind) (x : Sums) → (next_money a.money k x).delega ≡ (next_money b.money k x).delega
    go k x = (off-money (next_deleghe 0 k + 1) 0 0 a.money b.money k x (ap (λ (t : DelegaSums). set t.sections 0 no_sums) e) (λ h. e)).1 (λ h. omega arith)

-- What two states have in common stays so after a record.
pub off-on : (d s : ℕ) (a b : State) (r : List ℕ) → Off d s a b → Off d s (next a r) (next b r)
unfolding next
off-on d s a b r o =
    let m = off-money d s a.deleghe a.money b.money (kind_in r) (line_sums (kind_in r) r) o.others o.elsewhere in
    record { near = near_on a b (kind_in r) _ _ o.near; others = m.0; elsewhere = m.1 }

-- They have it in common after the line, whatever its amounts.
pub off-line : (d s : ℕ) (st : State) (r t : List ℕ) → st.deleghe ≡ d → kind_in r ≡ Line s → kind_in t ≡ Line s → Off d s (next st r) (next st t)
unfolding next added_at
off-line d s st r t n e f =
    rw (e, f)
    (record {
      near = near_on st st (Line s) _ _ (record { stages = refl; numbers = refl; counts = refl });
      others = set-set st.money.delega.sections s _ no_sums ∙ sym (set-set st.money.delega.sections s _ no_sums);
      elsewhere = λ h. absurd (h n);
    })
