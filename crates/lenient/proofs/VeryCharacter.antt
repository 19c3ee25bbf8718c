-- Refusal 7 of the lenient judgement names the very character: the first, in a numeric field that is not stored, that is no digit.
use Rattle.std.specs.Prelude.{Option, None, Some}
use Prim.Native.Nat.{ℕ, ◌+◌}
use mathlib.Core.Path.{◌≡◌, sym, ap, ◌∙◌}
use mathlib.Core.Bool.{Bool, true, false, cond}
use mathlib.Core.List.{List}
use mathlib.Core.Logic.{◌↔◌}
use native.Mathlib.Omega.{arith}
use lib.Dec.{eqb}
use lib.ListN.{length}
use Rattle.refusal.proofs.Parts.{fails-parts}
use Rattle.text.specs.Answers.{Allowed}
use Rattle.text.specs.Characters.{first_bad}
use Rattle.layout.specs.Kinds.{type_in, kind_in}
use Rattle.layout.specs.Fields.{delega_number, value_of}
use Rattle.refusal.specs.Outcomes.{Outcome, Pass, Fails}
use Rattle.amounts.specs.Outcomes.{first}
use Rattle.amounts.proofs.Outcomes.{first-assoc}
use Rattle.order.specs.Order.{standing}
use Rattle.rules.specs.declared.State.{State}
use Rattle.rules.specs.Stored.{stored_of, wrong}
use Rattle.rules.specs.Checks.{char_fault, number_fault, own_fault}
use Rattle.rules.specs.NonDigits.{FirstNonDigit}
use Rattle.judge.proofs.ChecksInOrder.{other-fault, rest-number}
use Rattle.judge.proofs.VeryCharacter.{NoSeven, no-seven-characters, seven-index, seven-when}
use Rattle.rebalance.specs.Rebalance.{kept_fields, kept_fault}
use Rattle.lenient.specs.declared.Misfit.{Misfit}
use Rattle.lenient.specs.Lenient.{misfit_fault, lenient_fault}
use Rattle.lenient.proofs.KeptFields.{kept-in-order}

-- The misfit has 4.
no-seven-misfit : (m : Option Misfit) (n : ℕ) → NoSeven (misfit_fault m n)
unfolding misfit_fault
no-seven-misfit None n q = λ e. let z : ◌≡◌ {A = ℕ} 0 1 = cc in omega arith
no-seven-misfit (Some m) n q = go (eqb m.at (n + 1))
  where
    go : (b : Bool) → cond b (Fails 4 m.position) Pass ≡ Fails 7 q → ⊥
    go true e = let z : ◌≡◌ {A = ℕ} 4 7 = (fails-parts e).0 in omega arith
    go false e = let z : ◌≡◌ {A = ℕ} 0 1 = cc in omega arith

module _ (name : List ℕ) (st : State) (r : List ℕ) (l : length r ≡ 120) where
  abbrev number : Outcome
  number = number_fault st.deleghe (kind_in r) (value_of r delega_number)

  abbrev own : Outcome
  own = own_fault name st (kind_in r) r

  abbrev stored : Outcome
  stored = wrong (stored_of st (kind_in r)) r

  no-seven-behind : NoSeven (first number own)
  no-seven-behind q e = let h = rest-number name st r (sym (first-assoc number own stored) ∙ ap (λ (o : Outcome). first o stored) e) in omega arith

  -- Of the checks that rebalancing leaves alone it is told exactly where a record's characters and its place in the order are right.
  pub kept-seven-exactly : (i : ℕ) → (kept_fault name st r ≡ Fails 7 (i + 1)) ↔ ((first_bad r ≡ Allowed) × (standing st.stage (type_in r) (kind_in r) ≡ Pass) × FirstNonDigit (kept_fields (kind_in r)) r i)
  unfolding kept_fault
  kept-seven-exactly i = seven-when st.stage r l (kept_fields (kind_in r)) (kept-in-order r) (first number own) no-seven-behind i

  -- So it is behind an index.
  pub kept-seven-at : {q : ℕ} → kept_fault name st r ≡ Fails 7 q → (i : ℕ) × (q ≡ i + 1) × FirstNonDigit (kept_fields (kind_in r)) r i
  unfolding kept_fault
  kept-seven-at e = seven-index st.stage r l (kept_fields (kind_in r)) (kept-in-order r) (first number own) no-seven-behind e

  -- In the lenient judgement, where besides the record is not the known misfit.
  pub lenient-seven-exactly : (m : Option Misfit) (i : ℕ) →
      (lenient_fault name m st r ≡ Fails 7 (i + 1)) ↔ ((misfit_fault m st.seen ≡ Pass) × (first_bad r ≡ Allowed) × (standing st.stage (type_in r) (kind_in r) ≡ Pass) × FirstNonDigit (kept_fields (kind_in r)) r i)
  unfolding lenient_fault
  lenient-seven-exactly m i = (there, λ h. rw (h.1, h.0) ((kept-seven-exactly i).1 (h.1, h.2, h.3)))
    where
      there : lenient_fault name m st r ≡ Fails 7 (i + 1) → (misfit_fault m st.seen ≡ Pass) × (first_bad r ≡ Allowed) × (standing st.stage (type_in r) (kind_in r) ≡ Pass) × FirstNonDigit (kept_fields (kind_in r)) r i
      there e =
          let a = other-fault (char_fault (first_bad r)) (no-seven-characters (first_bad r)) e in
          let b = other-fault (misfit_fault m st.seen) (no-seven-misfit m st.seen) a.1 in
          let k = (kept-seven-exactly i).0 b.1 in
          (b.0, k.0, k.1, k.2)
