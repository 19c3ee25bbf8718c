-- The lenient judgement and the others: records that pass it are mended by rebalancing, where what that writes fits; records that pass every check pass it.
use Rattle.std.specs.Prelude.{Err, Option, None}
use Prim.Native.Nat.{ℕ, ◌+◌}
use mathlib.Core.Path.{◌≡◌, refl, ◌∙◌}
use mathlib.Core.Bool.{true}
use mathlib.Core.List.{List, [], ◌∷◌}
use native.Mathlib.Omega.{arith}
use native.Mathlib.Decide.{ℕ_discrete}
use borrow.Author.Tests.{eq-eqb, ne_eqb}
use Rattle.text.specs.Characters.{first_bad}
use Rattle.layout.specs.Kinds.{kind_in}
use Rattle.refusal.specs.Outcomes.{Outcome, Pass}
use Rattle.amounts.specs.Outcomes.{first}
use Rattle.amounts.proofs.Outcomes.{first-pass}
use Rattle.order.specs.Stages.{after_tail}
use Rattle.rules.specs.declared.State.{State}
use Rattle.rules.specs.Checks.{char_fault}
use Rattle.rules.specs.Stored.{stored_of}
use Rattle.rules.specs.Step.{next}
use Rattle.judge.specs.Plain.{NoFault, state_after}
use Rattle.rebalance.specs.Rebalance.{kept_fault, fits_all, all_fit, Sized, Mendable}
use Rattle.text.proofs.Tests.{both_true}
use Rattle.rebalance.proofs.Emit.{fault-kept}
use Rattle.lenient.specs.declared.Misfit.{Misfit}
use Rattle.lenient.specs.Answers.{Lenient, Passed, Refused}
use Rattle.lenient.specs.Lenient.{misfit_fault, lenient_fault, or_refused, ended, lenient_from}

-- Where the records that are left pass, the next one does, and those behind it.
passed_on : (o : Outcome) (n : ℕ) (x : Lenient) → or_refused o n x ≡ Passed → (o ≡ Pass) × (x ≡ Passed)
passed_on Pass n x e = (refl, e)
passed_on (Err why) n x e = let z : ◌≡◌ {A = ℕ} 0 1 = cc in absurd (omega arith)

-- Where the judgement ends with no refusal, the last record was EF.
passed-end : (st : State) → ended st ≡ Passed → st.stage.phase ≡ after_tail
unfolding ended
passed-end st e = go (ℕ_discrete st.stage.phase after_tail)
  where
    go : Dec (st.stage.phase ≡ after_tail) → st.stage.phase ≡ after_tail
    go (yes h) = h
    go (no h) = let f : Refused 5 (st.seen + 1) 0 ≡ Passed = rw (ne_eqb _ _ h) at e in let z : ◌≡◌ {A = ℕ} 0 1 = cc in absurd (omega arith)

-- A record that passes leniently passes the checks that rebalancing leaves alone.
passed-kept : (name : List ℕ) (m : Option Misfit) (st : State) (r : List ℕ) → lenient_fault name m st r ≡ Pass → kept_fault name st r ≡ Pass
unfolding lenient_fault
passed-kept name m st r e = (first-pass (misfit_fault m st.seen) (kept_fault name st r) (first-pass (char_fault (first_bad r)) _ e).1).1

-- Records that pass leniently are mended by rebalancing, where all that it writes fits.
pub lenient-mends : (name : List ℕ) (m : Option Misfit) (st : State) (rs : List (List ℕ)) → Sized rs → lenient_from name m st rs ≡ Passed → all_fit st rs ≡ true → Mendable name st rs
unfolding lenient_from all_fit
lenient-mends name m st [] l e f = passed-end st e
lenient-mends name m st (r ∷ rs) l e f =
    let a = passed_on (lenient_fault name m st r) st.seen _ e in
    let b = both_true (fits_all (stored_of st (kind_in r))) (all_fit (next st r) rs) f in
    (l.0, passed-kept name m st r a.0, b.0, lenient-mends name m (next st r) rs l.1 a.1 b.1)

-- A check that has passed says nothing when it is made again.
first-twice : (a b : Outcome) → first a (first a b) ≡ first a b
first-twice Pass b = refl
first-twice (Err why) b = refl

-- Where no record is known to be a misfit, the checks that rebalancing leaves alone speak.
pub lenient-kept : (name : List ℕ) (st : State) (r : List ℕ) → lenient_fault name None st r ≡ kept_fault name st r
unfolding lenient_fault misfit_fault kept_fault
lenient-kept name st r = first-twice (char_fault (first_bad r)) _

-- Records that pass every check, up to and with the tail, pass leniently.
pub strict-lenient : (name : List ℕ) (st : State) (rs : List (List ℕ)) → Sized rs → NoFault name st rs → (state_after st rs).stage.phase ≡ after_tail → lenient_from name None st rs ≡ Passed
unfolding lenient_from state_after ended
strict-lenient name st [] l n e = rw (eq-eqb _ _ e)
strict-lenient name st (r ∷ rs) l n e = rw (lenient-kept name st r ∙ fault-kept st r l.0 name n.0) (strict-lenient name (next st r) rs l.1 n.1 e)
