-- The head's date: an accepted flow has one that exists, and 17 is told where it has none, at 1, 14, and nowhere else.
use Prim.Native.Nat.{ℕ, ◌/◌, ◌<◌}
use mathlib.Core.Path.{◌≡◌, refl, sym, ap, ◌∙◌}
use mathlib.Core.Bool.{Bool, true, false, cond}
use mathlib.Core.List.{List, [], ◌∷◌}
use mathlib.Core.Logic.{◌↔◌}
use native.Mathlib.Omega.{arith}
use borrow.Author.Tests.{eqb-true}
use lib.ListN.{length, get_or, drop}
use Rattle.layout.specs.declared.Kind.{Kind}
use Rattle.layout.specs.declared.Kind.TheVariants.{Head, Taxpayer, Domicile, Line, Balance, Payment, Receipt, Addressee, Tail, Unknown}
use Rattle.layout.specs.Kinds.{kind_in}
use Rattle.layout.specs.Fields.{creation_date, support_name, fields_of, bytes_of, value_of}
use Rattle.refusal.proofs.Parts.{fails-parts}
use Rattle.refusal.specs.Outcomes.{Pass, Fails}
use Rattle.amounts.specs.Outcomes.{first}
use Rattle.amounts.specs.Dates.{date_right}
use Rattle.amounts.specs.Names.{name_right}
use Rattle.order.specs.declared.Stage.{Stage}
use Rattle.order.specs.Stages.{at_start}
use Rattle.order.specs.Order.{stands, full, standing, next_stage}
use Rattle.rules.specs.declared.State.{State}
use Rattle.rules.specs.State.{start_state}
use Rattle.rules.specs.Stored.{stored_of, wrong}
use Rattle.rules.specs.Checks.{bad_fields, number_fault, head_name, date_fault, own_fault, fault}
use Rattle.rules.specs.Step.{next}
use Rattle.amounts.proofs.Outcomes.{first-pass}
use Rattle.judge.specs.Refusal.{Accepted, refusal_of}
use Rattle.refusal.specs.Refusals.{refusal}
use Rattle.judge.specs.Flow.{records_of, head_name_of, judged}
use Rattle.judge.specs.Part.{record_at}
use Rattle.judge.specs.Plain.{state_after, NoFault, Whole, NoSuchDay, FirstFault, FaultAt}
use Rattle.judge.proofs.Records.{length-chunks, record-number}
use Rattle.judge.proofs.Accepted.{stands_of, right_of, head-stands, accepted-means-no-fault}
use Rattle.judge.proofs.PlainSums.{cond-true}
use Rattle.judge.proofs.FirstFault.{record-fault, refused-exactly}
use Rattle.judge.proofs.OwnNumbers.{fault-behind, seventeen-is-head}

-- what 17 says of a head
head-seventeen : (name : List ℕ) (st : State) (r : List ℕ) {q : ℕ} → first (own_fault name st Head r) (wrong (stored_of st Head) r) ≡ Fails 17 q →
    (q ≡ 14) × (name_right (bytes_of r support_name) ≡ true) × (date_right (value_of r creation_date) ≡ false)
unfolding head_name date_fault
head-seventeen name st r {q} e = go (name_right (bytes_of r support_name)) (date_right (value_of r creation_date)) refl refl e
  where
    go : (a b : Bool) → name_right (bytes_of r support_name) ≡ a → date_right (value_of r creation_date) ≡ b → first (first (cond a Pass (Fails 16 20)) (cond b Pass (Fails 17 14))) Pass ≡ Fails 17 q →
        (q ≡ 14) × (name_right (bytes_of r support_name) ≡ true) × (date_right (value_of r creation_date) ≡ false)
    go true true n d e = let z : ◌≡◌ {A = ℕ} 0 1 = cc in absurd (omega arith)
    go true false n d e = (sym (fails-parts e).1, n, d)
    go false b n d e = let z : ◌≡◌ {A = ℕ} 16 17 = (fails-parts e).0 in absurd (omega arith)

-- behind a record that passed, no stage is the start again
stage-left : (p : Stage) (k : Kind) → stands p k ≡ true → (next_stage p k).phase ≡ at_start → ⊥
unfolding stands
stage-left p Head h e = omega arith
stage-left p Taxpayer h e = omega arith
stage-left p Domicile h e = omega arith
stage-left p (Line s) h e = omega arith
stage-left p (Balance s) h e = omega arith
stage-left p Payment h e = omega arith
stage-left p Receipt h e = omega arith
stage-left p Addressee h e = omega arith
stage-left p Tail h e = omega arith
stage-left p Unknown h e = let z : ◌≡◌ {A = ℕ} 0 1 = cc in omega arith

start_left : (name : List ℕ) (st : State) (r : List ℕ) (rs : List (List ℕ)) → NoFault name st (r ∷ rs) → (state_after st (r ∷ rs)).stage.phase ≡ at_start → ⊥
unfolding state_after next
start_left name st r [] h e = stage-left st.stage (kind_in r) (right_of name st r h.0).ordered e
start_left name st r (x ∷ xs) h e = start_left name (next st r) x xs h.1 e

none_before : (name : List ℕ) (bs : List (List ℕ)) → NoFault name start_state bs → stands (state_after start_state bs).stage Head ≡ true → bs ≡ []
unfolding stands
none_before name [] h e = refl
none_before name (b ∷ bs) h e = absurd (start_left name start_state b bs h (eqb-true _ _ e))

-- the first record of those of a flow
front : (rs : List (List ℕ)) → 0 < length rs → rs ≡ get_or rs 0 [] ∷ drop 1 rs
front [] l = absurd (omega arith)
front (r ∷ rs) l = refl

first-record : (s : List ℕ) → Whole s → records_of s ≡ record_at s 1 ∷ drop 1 (records_of s)
first-record s w =
    let n : length (records_of s) ≡ length s / 120 = length-chunks (length s / 120) s in
    let a = w.some in
    let b = w.even in
    rw (record-number s 1 (omega arith)) (front (records_of s) (omega arith))

head-fails : (s : List ℕ) → NoSuchDay s → fault (head_name_of s) start_state (record_at s 1) ≡ Fails 17 14
unfolding fault standing stands full start_state number_fault head_name date_fault
head-fails s d = rw (d.characters, d.head, d.digits, d.name, d.day)

-- "A date is valid only if the day exists in that month": an accepted flow has such a date
pub accepted-date : (s : List ℕ) → (judged s).verdict ≡ Accepted → date_right (value_of (record_at s 1) creation_date) ≡ true
unfolding date_fault start_state
accepted-date s e =
    let x = accepted-means-no-fault s e in
    let p : NoFault (head_name_of s) start_state (record_at s 1 ∷ drop 1 (records_of s)) = rw (first-record s x.whole) at x.passes in
    let y = right_of (head_name_of s) start_state (record_at s 1) p.0 in
    own-date (head_name_of s) (record_at s 1) (rw (head-stands start_state.stage (kind_in (record_at s 1)) refl y.ordered) at y.own)
  where
    own-date : (name r : List ℕ) → own_fault name start_state Head r ≡ Pass → date_right (value_of r creation_date) ≡ true
    own-date name r e = cond-true (date_right (value_of r creation_date)) 17 14 (first-pass (head_name (bytes_of r support_name)) _ e).1

-- 17 is the refusal of a flow exactly where its head has no fault of a smaller number and its date is none, and it is at 1, 14
pub seventeen-exactly : (s : List ℕ) (k p : ℕ) → (refusal_of (judged s).verdict ≡ refusal 17 k p) ↔ ((k ≡ 1) × (p ≡ 14) × NoSuchDay s)
unfolding state_after start_state
seventeen-exactly s k p = (means, told)
  where
    means : refusal_of (judged s).verdict ≡ refusal 17 k p → (k ≡ 1) × (p ≡ 14) × NoSuchDay s
    means e =
        let x = record-fault s (refusal 17 k p) e (omega arith) in
        let f = x.1 in
        let st = state_after start_state f.before in
        let t = fault-behind (head_name_of s) st f.here (omega arith) f.fails in
        let g = seventeen-is-head (head_name_of s) st (kind_in f.here) f.here t.rest in
        let y = head-seventeen (head_name_of s) st f.here (rw g at t.rest) in
        let b = none_before (head_name_of s) f.before f.passes (rw g at (stands_of _ _ _ t.ordered)) in
        let a : records_of s ≡ f.here ∷ f.behind = rw b at f.split in
        let h : f.here ≡ record_at s 1 = ap (λ (x : List (List ℕ)). get_or x 0 []) (sym a ∙ first-record s x.0) in
        let c = f.counted in
        let l : length f.before ≡ 0 = ap length b in
        let d : bad_fields (fields_of Head) f.here ≡ Pass = rw g at t.digits in (
          omega arith,
          y.0,
          record {
            whole = x.0;
            characters = rw h at t.characters;
            head = rw h at g;
            digits = rw h at d;
            name = rw h at y.1;
            day = rw h at y.2;
          },
        )

    told : (k ≡ 1) × (p ≡ 14) × NoSuchDay s → refusal_of (judged s).verdict ≡ refusal 17 k p
    told z =
        let d = z.2 in
        let f : FirstFault (head_name_of s) start_state (records_of s) 17 1 14 = record { before = []; here = record_at s 1; behind = drop 1 (records_of s); split = first-record s d.whole; counted = refl; passes = tt; fails = head-fails s d } in
        rw (z.0, z.1) ((refused-exactly s (refusal 17 1 14)).1 (FaultAt d.whole f)).0
