-- The taxpayers' codes: in an accepted flow each can exist, and 26 is told where one cannot, at its record and 11, and nowhere else.
use Prim.Native.Nat.{ℕ, zero, suc, ◌+◌}
use mathlib.Core.Path.{◌≡◌, refl, sym}
use mathlib.Core.Bool.{Bool, true, false, cond}
use mathlib.Core.List.{List, [], ◌∷◌}
use mathlib.Core.Logic.{◌↔◌}
use native.Mathlib.Omega.{arith}
use borrow.Author.Tests.{eq-eqb}
use lib.ListN.{get_or, take, drop}
use Rattle.text.specs.Answers.{Allowed}
use Rattle.text.specs.Characters.{first_bad}
use Rattle.layout.specs.declared.RecordType.TheVariants.{T10}
use Rattle.layout.specs.declared.Kind.TheVariants.{Taxpayer}
use Rattle.layout.specs.Kinds.{same, type_of, type_in, kind_in}
use Rattle.layout.specs.Fields.{delega_number, fields_of, value_of}
use Rattle.refusal.proofs.Parts.{fails-parts}
use Rattle.refusal.specs.Outcomes.{Pass, Fails}
use Rattle.amounts.specs.Outcomes.{first}
use Rattle.taxcode.specs.TaxCodes.{code_right}
use Rattle.order.specs.Order.{stands, full, standing}
use Rattle.rules.specs.declared.State.{State}
use Rattle.rules.specs.State.{start_state}
use Rattle.rules.specs.Stored.{stored_of, wrong}
use Rattle.rules.specs.Checks.{bad_fields, carried, number_fault, code_fault, own_fault, fault}
use Rattle.rules.specs.Step.{next}
use Rattle.judge.specs.Refusal.{Accepted, refusal_of}
use Rattle.refusal.specs.Refusals.{refusal}
use Rattle.judge.specs.Flow.{records_of, head_name_of, judged}
use Rattle.judge.specs.Part.{record_at}
use Rattle.judge.specs.Plain.{state_after, NoFault, NoSuchCode, FirstFault, FaultAt}
use Rattle.judge.proofs.Accepted.{stands_of, right_of, carried-number, accepted-means-no-fault}
use Rattle.judge.proofs.Counts.{deleghe-after, taxpayer-is-ten}
use Rattle.judge.proofs.PlainSums.{cond-true}
use Rattle.judge.proofs.FirstFault.{record-fault, refused-exactly}
use Rattle.judge.proofs.OwnNumbers.{fault-behind, twenty-six-is-taxpayer}

-- a record of type 10 is the taxpayer's
pub ten-is-taxpayer : (r : List ℕ) → type_in r ≡ T10 → kind_in r ≡ Taxpayer
unfolding kind_in
ten-is-taxpayer r e = rw e

-- what 26 says of a record 10
pub code-twenty-six : (name : List ℕ) (st : State) (r : List ℕ) {q : ℕ} → first (own_fault name st Taxpayer r) (wrong (stored_of st Taxpayer) r) ≡ Fails 26 q → (q ≡ 11) × (code_right (take 16 (drop 10 r)) ≡ false)
unfolding code_fault
code-twenty-six name st r {q} e = go (code_right (take 16 (drop 10 r))) refl e
  where
    go : (b : Bool) → code_right (take 16 (drop 10 r)) ≡ b → first (cond b Pass (Fails 26 11)) Pass ≡ Fails 26 q → (q ≡ 11) × (code_right (take 16 (drop 10 r)) ≡ false)
    go true c e = let z : ◌≡◌ {A = ℕ} 0 1 = cc in absurd (omega arith)
    go false c e = (sym (fails-parts e).1, c)

code-right-of : (name : List ℕ) (st : State) (r : List ℕ) → own_fault name st Taxpayer r ≡ Pass → code_right (take 16 (drop 10 r)) ≡ true
unfolding code_fault
code-right-of name st r e = cond-true (code_right (take 16 (drop 10 r))) 26 11 e

no_record : type_in [] ≡ T10 → ⊥
unfolding type_of same
no_record e = let z : ◌≡◌ {A = ℕ} 0 1 = cc in omega arith

codes-right : (name : List ℕ) (st : State) (rs : List (List ℕ)) → NoFault name st rs → (i : ℕ) → type_in (get_or rs i []) ≡ T10 → code_right (take 16 (drop 10 (get_or rs i []))) ≡ true
codes-right name st [] h i e = absurd (no_record e)
codes-right name st (r ∷ rs) h zero e = code-right-of name st r (rw (ten-is-taxpayer r e) at (right_of name st r h.0).own)
codes-right name st (r ∷ rs) h (suc i) e = codes-right name (next st r) rs h.1 i e

-- "The taxpayer's code must be checked": every record of type 10 of an accepted flow has at 11 to 26 a code that can exist
pub accepted-codes : (s : List ℕ) → (judged s).verdict ≡ Accepted → (k : ℕ) → type_in (record_at s k) ≡ T10 → code_right (take 16 (drop 10 (record_at s k))) ≡ true
unfolding record_at
accepted-codes s e zero t = absurd (no_record t)
accepted-codes s e (suc i) t = codes-right (head_name_of s) start_state (records_of s) (accepted-means-no-fault s e).passes i t

-- a record 10 of which no check before 26 fails is refused for its code
code-fails : (name : List ℕ) (st : State) (r : List ℕ) → first_bad r ≡ Allowed → type_in r ≡ T10 → stands st.stage Taxpayer ≡ true → bad_fields (fields_of Taxpayer) r ≡ Pass →
    value_of r delega_number ≡ st.deleghe + 1 → code_right (take 16 (drop 10 r)) ≡ false → fault name st r ≡ Fails 26 11
unfolding fault standing full number_fault carried code_fault
code-fails name st r a t o d n c = rw (a, ten-is-taxpayer r t, o, d, eq-eqb _ _ n, c)

carried_on : (d v : ℕ) → number_fault d Taxpayer v ≡ Pass → v ≡ d + 1
unfolding number_fault
carried_on d v e = carried-number (d + 1) v e

-- 26 is the refusal of a flow exactly where it is whole records and the first with a fault is a record 10 of which the checks before 26 pass and the code cannot exist, and it is at that record and 11
pub twenty-six-exactly : (s : List ℕ) (k p : ℕ) → (refusal_of (judged s).verdict ≡ refusal 26 k p) ↔ ((p ≡ 11) × NoSuchCode s k)
unfolding start_state
twenty-six-exactly s k p = (means, told)
  where
    means : refusal_of (judged s).verdict ≡ refusal 26 k p → (p ≡ 11) × NoSuchCode s k
    means e =
        let x = record-fault s (refusal 26 k p) e (omega arith) in
        let f = x.1 in
        let st = state_after start_state f.before in
        let t = fault-behind (head_name_of s) st f.here (omega arith) f.fails in
        let g = twenty-six-is-taxpayer (head_name_of s) st (kind_in f.here) f.here t.rest in
        let y = code-twenty-six (head_name_of s) st f.here (rw g at t.rest) in (
          y.0,
          record {
            whole = x.0;
            before = f.before;
            here = f.here;
            behind = f.behind;
            split = f.split;
            counted = f.counted;
            passes = f.passes;
            characters = t.characters;
            taxpayer = taxpayer-is-ten f.here g;
            ordered = rw g at (stands_of _ _ _ t.ordered);
            digits = rw g at t.digits;
            number = omega (arith, carried_on st.deleghe (value_of f.here delega_number) (rw g at t.numbered), deleghe-after start_state f.before);
            code = y.1;
          },
        )

    told : (p ≡ 11) × NoSuchCode s k → refusal_of (judged s).verdict ≡ refusal 26 k p
    told z =
        let d = z.1 in
        let n : value_of d.here delega_number ≡ (state_after start_state d.before).deleghe + 1 = omega (arith, d.number, deleghe-after start_state d.before) in
        let f : FirstFault (head_name_of s) start_state (records_of s) 26 k 11 = record { before = d.before; here = d.here; behind = d.behind; split = d.split; counted = d.counted; passes = d.passes; fails = code-fails (head_name_of s) _ d.here d.characters d.taxpayer d.ordered d.digits n d.code } in
        rw z.0 ((refused-exactly s (refusal 26 k 11)).1 (FaultAt d.whole f)).0
