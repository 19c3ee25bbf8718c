-- Along records that pass, the count of lines that the order of records keeps is that of the lines that carry the open delega's number: all records of a
-- delega carry its number, and a section stands in it at most once.
use Prim.Native.Nat.{ℕ, ◌+◌, ◌<◌, ◌≤◌}
use mathlib.Core.Path.{◌≡◌, refl, sym, ap, ◌∙◌}
use mathlib.Core.Bool.{Bool, true, false, cond, false≢true}
use mathlib.Core.List.{List, [], ◌∷◌}
use mathlib.Core.Logic.{inl, inr}
use native.Mathlib.Omega.{arith}
use native.Mathlib.Decide.{ℕ_discrete}
use borrow.Author.Tests.{ltb-true, eqb-true, eq-eqb, ne_eqb}
use lib.Dec.{eqb, ltb}
use Rattle.layout.specs.declared.Kind.{Kind}
use Rattle.layout.specs.declared.Kind.TheVariants.{Head, Taxpayer, Domicile, Line, Balance, Payment, Receipt, Addressee, Tail, Unknown}
use Rattle.layout.specs.Kinds.{of_line, kind_in}
use Rattle.layout.specs.Fields.{delega_number, value_of}
use Rattle.layout.proofs.OtherKinds.{no_line}
use Rattle.refusal.specs.Outcomes.{Pass}
use Rattle.order.specs.declared.Stage.{Stage}
use Rattle.rules.specs.declared.State.{State}
use Rattle.order.specs.Stages.{stage_at, at_start, after_taxpayer, after_domicile, after_line, after_balance}
use Rattle.order.specs.Order.{stands, next_stage}
use Rattle.rules.specs.Checks.{number_fault}
use Rattle.rules.specs.Step.{next_deleghe, next}
use Rattle.judge.specs.Plain.{NoFault}
use Rattle.judge.proofs.Accepted.{right_of, carried-number}
use Rattle.find.specs.Line.{is_line, line_from}
use Rattle.find.proofs.Subtypes.{LineOrOther, line-or-other}
use Rattle.find.proofs.NthIn.{one_if, count_to}

-- where a line of section t may stand: first in the delega, behind a line of its section, or behind the balance of a section before it
data LineStands (p : Stage) (t : ℕ) : Type 0 where
  First : p.phase ≡ after_domicile → LineStands p t
  Further : p.phase ≡ after_line → t ≡ p.section → LineStands p t
  Next : p.phase ≡ after_balance → p.section < t → LineStands p t

line-stands : (p : Stage) (t : ℕ) → stands p (Line t) ≡ true → LineStands p t
unfolding stands
line-stands p t e = go (eqb p.phase after_domicile) (eqb p.phase after_line) (eqb p.phase after_balance) (ltb p.section t) refl refl refl refl e
  where
    go : (x y z w : Bool) → eqb p.phase after_domicile ≡ x → eqb p.phase after_line ≡ y → eqb p.phase after_balance ≡ z → ltb p.section t ≡ w →
        cond x true (cond y (eqb t p.section) (cond z (cond w (ltb t 4) false) false)) ≡ true → LineStands p t
    go true y z w i j k l f = First (eqb-true _ _ i)
    go false true z w i j k l f = Further (eqb-true _ _ j) (eqb-true _ _ f)
    go false false true true i j k l f = Next (eqb-true _ _ k) (ltb-true _ _ l)
    go false false true false i j k l f = absurd (false≢true f)
    go false false false w i j k l f = absurd (false≢true f)

-- a balance stands behind a line of its section
balance-stands : (p : Stage) (t : ℕ) → stands p (Balance t) ≡ true → (p.phase ≡ after_line) × (t ≡ p.section)
unfolding stands
balance-stands p t e = go (eqb p.phase after_line) refl e
  where
    go : (x : Bool) → eqb p.phase after_line ≡ x → cond x (eqb t p.section) false ≡ true → (p.phase ≡ after_line) × (t ≡ p.section)
    go true i f = (eqb-true _ _ i, eqb-true _ _ f)
    go false i f = absurd (false≢true f)

-- a record of kind k that carries v is a line of section s in delega d
abbrev pub line_in : ℕ → ℕ → Kind → ℕ → Bool
line_in d s k v = of_line false (λ t. cond (eqb t s) (eqb v d) false) k

-- c lines of section s in delega d came before stage p of delega e. Of a section that is closed nothing is said: no line of it can follow in its delega
pub record SoFar (d s : ℕ) (p : Stage) (e c : ℕ) : Type 0 where
  pub not_yet : e < d → c ≡ 0
  pub no-section-yet : e ≡ d → p.phase ≤ after_domicile → c ≡ 0
  pub earlier-section : e ≡ d → after_line ≤ p.phase → p.phase ≤ after_balance → p.section < s → c ≡ 0
  pub its-section : e ≡ d → p.phase ≡ after_line → p.section ≡ s → c ≡ p.lines
  pub no_lines : (p.phase ≡ after_line → ⊥) → p.lines ≡ 0

-- before the first record
pub so-far-starts : (d s : ℕ) → SoFar d s (stage_at at_start 0 0) 0 0
so-far-starts d s = record { not_yet = λ h. refl; no-section-yet = λ h i. refl; earlier-section = λ h i j l. refl; its-section = λ h i j. refl; no_lines = λ h. refl }

module _ (d s : ℕ) (p : Stage) (e c : ℕ) (h : SoFar d s p e c) where
  -- where a line of the section may stand, those before it in the delega are the lines that the order of records counts
  counts : e ≡ d → LineStands p s → c ≡ p.lines
  counts i (First j) = h.no-section-yet i (omega arith) ∙ sym (h.no_lines (λ l. omega arith))
  counts i (Further j t) = h.its-section i j (sym t)
  counts i (Next j t) = h.earlier-section i (omega arith) (omega arith) t ∙ sym (h.no_lines (λ l. omega arith))

  -- where a line of a section before it may stand, none of the section came yet
  none_yet : (t : ℕ) → e ≡ d → LineStands p t → t < s → c ≡ 0
  none_yet t i (First j) l = h.no-section-yet i (omega arith)
  none_yet t i (Further j u) l = h.earlier-section i (omega arith) (omega arith) (omega arith)
  none_yet t i (Next j u) l = h.earlier-section i (omega arith) (omega arith) (omega arith)

  -- a record before the sections of delega g
  begins : (g x : ℕ) → x ≤ after_domicile → (g ≤ d → c ≡ 0) → SoFar d s (stage_at x 0 0) g (c + 0)
  begins g x b z =
      record {
        not_yet = λ i. omega (arith, z (omega arith));
        no-section-yet = λ i j. omega (arith, z (omega arith));
        earlier-section = λ i j k l. absurd (omega arith);
        its-section = λ i j k. absurd (omega arith);
        no_lines = λ i. refl;
      }

  -- a record behind the sections of a delega
  ends : (x : ℕ) → after_balance < x → SoFar d s (stage_at x 0 0) e (c + 0)
  ends x b =
      record {
        not_yet = λ i. omega (arith, h.not_yet i);
        no-section-yet = λ i j. absurd (omega arith);
        earlier-section = λ i j k l. absurd (omega arith);
        its-section = λ i j k. absurd (omega arith);
        no_lines = λ i. refl;
      }

  -- before the sections there is no line of the delega, nor of any that is still to come
  none_before : p.phase ≤ after_domicile → e ≤ d → c ≡ 0
  none_before b l = go (ℕ_discrete e d)
    where
      go : Dec (e ≡ d) → c ≡ 0
      go (yes i) = h.no-section-yet i b
      go (no i) = h.not_yet (omega arith)

  -- a line of section t, which carries the number of the open delega
  a-line : (t v : ℕ) → LineStands p t → v ≡ e → SoFar d s (stage_at after_line t (p.lines + 1)) e (c + one_if (cond (eqb t s) (eqb v d) false))
  a-line t v o n =
      record {
        not_yet = λ i. omega (arith, h.not_yet i, other-delega (omega arith));
        no-section-yet = λ i j. absurd (omega arith);
        earlier-section = λ i j k l. omega (arith, none_yet t i o l, other-section (omega arith));
        its-section = λ i j k. omega (arith, counts i (rw k at o), its_own k (omega arith));
        no_lines = λ i. absurd (i refl);
      }
    where
      other-section : (t ≡ s → ⊥) → one_if (cond (eqb t s) (eqb v d) false) ≡ 0
      other-section x = rw (ne_eqb t s x)

      other-delega : (v ≡ d → ⊥) → one_if (cond (eqb t s) (eqb v d) false) ≡ 0
      other-delega x = rw (ne_eqb v d x) (go (eqb t s))
        where
          go : (b : Bool) → one_if (cond b false false) ≡ 0
          go true = refl
          go false = refl

      its_own : t ≡ s → v ≡ d → one_if (cond (eqb t s) (eqb v d) false) ≡ 1
      its_own x y = rw (eq-eqb t s x, eq-eqb v d y)

  -- a balance, which closes section t
  a-balance : (t : ℕ) → p.phase ≡ after_line → t ≡ p.section → SoFar d s (stage_at after_balance t 0) e (c + 0)
  a-balance t x y =
      record {
        not_yet = λ i. omega (arith, h.not_yet i);
        no-section-yet = λ i j. absurd (omega arith);
        earlier-section = λ i j k l. omega (arith, h.earlier-section i (omega arith) (omega arith) (omega arith));
        its-section = λ i j k. absurd (omega arith);
        no_lines = λ i. refl;
      }

  -- any record that may stand here and carries the number that it should
  step : (k : Kind) (v : ℕ) → stands p k ≡ true → number_fault e k v ≡ Pass → SoFar d s (next_stage p k) (next_deleghe e k) (c + one_if (line_in d s k v))
  unfolding stands number_fault
  step Head v o n = let x = eqb-true p.phase at_start o in begins e _ (omega arith) (none_before (omega arith))
  step Taxpayer v o n = begins (e + 1) _ (omega arith) (λ l. h.not_yet (omega arith))
  step Domicile v o n = let x = eqb-true p.phase after_taxpayer o in begins e _ (omega arith) (none_before (omega arith))
  step (Line t) v o n = a-line t v (line-stands p t o) (carried-number e v n)
  step (Balance t) v o n = let x = balance-stands p t o in a-balance t x.0 x.1
  step Payment v o n = ends _ (omega arith)
  step Receipt v o n = ends _ (omega arith)
  step Addressee v o n = ends _ (omega arith)
  step Tail v o n = ends _ (omega arith)
  step Unknown v o n = absurd (false≢true o)

  -- by the count that the order of records keeps, a line is the n-th of its section exactly where n - 1 came before it
  line-nth : (n t v : ℕ) → LineStands p t → v ≡ e → cond (eqb t s) (cond (eqb e d) (eqb (p.lines + 1) n) false) false ≡ cond (cond (eqb t s) (eqb v d) false) (eqb (c + 1) n) false
  line-nth n t v o m = rw m (go (eqb t s) (eqb e d) refl refl)
    where
      go : (a b : Bool) → eqb t s ≡ a → eqb e d ≡ b → cond a (cond b (eqb (p.lines + 1) n) false) false ≡ cond (cond a b false) (eqb (c + 1) n) false
      go true true x y = ap (λ (l : ℕ). eqb (l + 1) n) (sym (counts (eqb-true e d y) (rw (eqb-true t s x) at o)))
      go true false x y = refl
      go false b x y = refl

  is-nth : (n : ℕ) (k : Kind) (v : ℕ) → stands p k ≡ true → number_fault e k v ≡ Pass → is_line d s n p e k ≡ cond (line_in d s k v) (eqb (c + 1) n) false
  unfolding number_fault
  is-nth n k v o m = go (line-or-other k)
    where
      go : LineOrOther k → is_line d s n p e k ≡ cond (line_in d s k v) (eqb (c + 1) n) false
      go (inl x) = rw x.1 (line-nth n x.0 v (line-stands p x.0 (rw x.1 at o)) (carried-number e v (rw x.1 at m)))
      go (inr x) = rw (no_line false _ k x, no_line false _ k x)

-- so the search for a line counts the lines of its section that carry its delega's number, by any test P that tells them
module _ (name : List ℕ) (d s n : ℕ) (P : List ℕ → Bool) (tells : (r : List ℕ) → P r ≡ line_in d s (kind_in r) (value_of r delega_number)) where
  pub search-counts : (st : State) (c k : ℕ) (rs : List (List ℕ)) → SoFar d s st.stage st.deleghe c → NoFault name st rs →
      line_from d s n st.stage st.deleghe k rs ≡ count_to P n c k rs
  unfolding line_from next
  search-counts st c k [] h f = refl
  search-counts st c k (r ∷ rs) h f =
      let v = value_of r delega_number in
      let o = (right_of name st r f.0).ordered in
      let m = (right_of name st r f.0).numbered in
      rw (tells r, is-nth d s st.stage st.deleghe c h n (kind_in r) v o m, search-counts (next st r) (c + one_if (line_in d s (kind_in r) v)) (k + 1) rs (step d s st.stage st.deleghe c h (kind_in r) v o m) f.1)
