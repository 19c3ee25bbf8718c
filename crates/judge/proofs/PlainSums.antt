-- The sums of an accepted flow: each section's debits and credits are those of its lines, and the flow's sum is that of its final balances, all debits less all credits.
use Prim.Native.Nat.{ℕ, zero, suc, ◌+◌, ◌<◌}
use mathlib.Core.Path.{◌≡◌, refl, ap, ◌∙◌}
use mathlib.Core.Bool.{Bool, true, false, cond, false≢true}
use mathlib.Core.List.{List, [], ◌∷◌}
use native.Mathlib.Omega.{arith}
use native.Mathlib.Decide.{ℕ_discrete}
use borrow.Author.Tests.{ltb-false, eqb-true, eq-eqb, ne_eqb}
use lib.Dec.{eqb}
use lib.ListN.{length, get_or, replicate, length-set}
use lib.Seq.{get_or-set_same, get_or-set_other}
use Rattle.layout.specs.declared.Kind.{Kind}
use Rattle.layout.specs.declared.Kind.TheVariants.{Head, Taxpayer, Domicile, Line, Balance, Payment, Receipt, Addressee, Tail, Unknown}
use Rattle.layout.specs.Kinds.{of_line, of_payment, kind_in}
use Rattle.layout.specs.Fields.{final_balance, value_of}
use Rattle.amounts.specs.declared.Sums.{Sums}
use Rattle.rules.specs.declared.Money.{Money}
use Rattle.refusal.specs.Outcomes.{Pass, Fails}
use Rattle.rules.specs.declared.State.{State}
use Rattle.rules.specs.State.{no_sums, start_state}
use Rattle.order.specs.Stages.{at_start, after_head, after_taxpayer, after_line, after_balance, after_payment, after_receipt, after_addressee}
use Rattle.text.specs.Among.{among}
use Rattle.order.specs.Order.{stands, next_stage}
use Rattle.amounts.specs.Amounts.{final_of}
use Rattle.rules.specs.Stored.{stored_of, wrong}
use Rattle.rules.specs.Checks.{own_fault, negative_fault}
use Rattle.rules.specs.Step.{added, added_at, line_sums, next_money, next}
use Rattle.judge.specs.Refusal.{Accepted}
use Rattle.judge.specs.declared.Judgement.{Judgement}
use Rattle.judge.specs.Flow.{records_of, head_name_of, judged}
use Rattle.judge.specs.Plain.{sum_over, Side, Debit, Credit, side_of, column_of, lines_in, section_in, finals_in, state_after, NoFault}
use Rattle.judge.proofs.Accepted.{right_of, accepted-means-no-fault, sound-phase, sound-judged}
use Rattle.judge.proofs.Counts.{accepted-adds}

-- a line adds to its own section on both sides, and to no other
pub side-line : (x : Side) (s : ℕ) (r : List ℕ) → side_of x (line_sums (Line s) r) ≡ value_of r (column_of x s)
side-line Debit s r = refl
side-line Credit s r = refl

pub side-added : (x : Side) (t u : Sums) → side_of x (added t u) ≡ side_of x t + side_of x u
side-added Debit t u = refl
side-added Credit t u = refl

pub no-side : (x : Side) (n i : ℕ) → side_of x (get_or (replicate n no_sums) i no_sums) ≡ 0
no-side Debit zero i = refl
no-side Credit zero i = refl
no-side Debit (suc n) zero = refl
no-side Credit (suc n) zero = refl
no-side x (suc n) (suc i) = no-side x n i

module _ (x : Side) (i : ℕ) (r : List ℕ) where
  -- sums before and after a record
  abbrev Grown : List Sums → List Sums → ℕ → Type 0
  Grown l m n = (length m ≡ length l) × (side_of x (get_or m i no_sums) ≡ side_of x (get_or l i no_sums) + n)

  line-adds : (s : ℕ) (l : List Sums) → i < length l → Grown l (added_at l s (line_sums (Line s) r)) (cond (eqb s i) (value_of r (column_of x i)) 0)
  unfolding added_at
  line-adds s l h = go (ℕ_discrete i s)
    where
      go : Dec (i ≡ s) → Grown l (added_at l s (line_sums (Line s) r)) (cond (eqb s i) (value_of r (column_of x i)) 0)
      go (yes e) =
          let k : s < length l = omega arith in
          rw (e, length-set, get_or-set_same l s _ no_sums k, eq-eqb s s refl) (refl, omega (arith, side-added x (get_or l s no_sums) (line_sums (Line s) r), side-line x s r))
      go (no e) = rw (length-set, get_or-set_other l s i _ no_sums e, ne_eqb s i (omega arith)) (refl, omega arith)

  section-adds : (k : Kind) (m : Money) → i < length m.flow → Grown m.flow (next_money m k (line_sums k r)).flow (of_line 0 (λ s. cond (eqb s i) (value_of r (column_of x i)) 0) k)
  section-adds Head m h = (refl, omega arith)
  section-adds Taxpayer m h = (refl, omega arith)
  section-adds Domicile m h = (refl, omega arith)
  section-adds (Line s) m h = line-adds s m.flow h
  section-adds (Balance s) m h = (refl, omega arith)
  section-adds Payment m h = (refl, omega arith)
  section-adds Receipt m h = (refl, omega arith)
  section-adds Addressee m h = (refl, omega arith)
  section-adds Tail m h = (refl, omega arith)
  section-adds Unknown m h = (refl, omega arith)

-- a 50-01 that passes holds the debits of its delega less the credits, which are not above them
pub cond-true : (b : Bool) (n p : ℕ) → cond b Pass (Fails n p) ≡ Pass → b ≡ true
cond-true true n p e = refl
cond-true false n p e = cc

pub cond-false : (b : Bool) (n p : ℕ) → cond b (Fails n p) Pass ≡ Pass → b ≡ false
cond-false true n p e = cc
cond-false false n p e = refl

total-adds : (st : State) (k : Kind) (r : List ℕ) → wrong (stored_of st k) r ≡ Pass → (next_money st.money k (line_sums k r)).total ≡ st.money.total + of_payment 0 (value_of r final_balance) k
total-adds st Head r e = omega arith
total-adds st Taxpayer r e = omega arith
total-adds st Domicile r e = omega arith
total-adds st (Line s) r e = omega arith
total-adds st (Balance s) r e = omega arith
total-adds st Payment r e =
    let q = eqb-true (value_of r final_balance) (final_of st.money.delega.all) (cond-true _ 15 36 e) in
    omega arith
total-adds st Receipt r e = omega arith
total-adds st Addressee r e = omega arith
total-adds st Tail r e = omega arith
total-adds st Unknown r e = omega arith

-- sums of an open delega stand only after a line or a balance
abbrev Off : ℕ → Type 0
Off p = (p ≡ after_line → ⊥) × (p ≡ after_balance → ⊥)

abbrev Settled : ℕ → Sums → Type 0
Settled p t = Off p → (t.debit ≡ 0) × (t.credit ≡ 0)

abbrev Each : (ℕ → Type 0) → List ℕ → Type 0
Each P [] = Unit {0}
Each P (y ∷ ys) = P y × Each P ys

among-each : (P : ℕ → Type 0) (x : ℕ) (ys : List ℕ) → Each P ys → among x ys ≡ true → P x
unfolding among
among-each P x [] h e = absurd (false≢true e)
among-each P x (y ∷ ys) h e = go (eqb x y) refl e (among-each P x ys h.1)
  where
    go : (b : Bool) → eqb x y ≡ b → cond b true (among x ys) ≡ true → (among x ys ≡ true → P x) → P x
    go true q f g = rw (eqb-true x y q) h.0
    go false q f g = g f

-- what a record does to the debits and to the credits, of the flow's sum and of the open delega together
abbrev Balanced : Money → Money → ℕ → ℕ → Type 0
Balanced m n d c = n.total + n.delega.all.debit + (m.delega.all.credit + c) ≡ m.total + m.delega.all.debit + (n.delega.all.credit + d)

module _ (name : List ℕ) (st : State) (r : List ℕ) where
  balance-step : (k : Kind) → stands st.stage k ≡ true → own_fault name st k r ≡ Pass → Settled st.stage.phase st.money.delega.all →
      Settled (next_stage st.stage k).phase (next_money st.money k (line_sums k r)).delega.all
      × Balanced st.money (next_money st.money k (line_sums k r)) (of_line 0 (λ s. value_of r (column_of Debit s)) k) (of_line 0 (λ s. value_of r (column_of Credit s)) k)
  unfolding stands negative_fault final_of
  balance-step Head o f z = let q = eqb-true st.stage.phase at_start o in (λ x. z (omega arith), omega arith)
  balance-step Taxpayer o f z = let w = z (among-each Off st.stage.phase (after_head ∷ after_payment ∷ after_receipt ∷ after_addressee ∷ []) (omega arith) o) in (λ x. (refl, refl), omega arith)
  balance-step Domicile o f z = let q = eqb-true st.stage.phase after_taxpayer o in (λ x. z (omega arith), omega arith)
  balance-step (Line s) o f z = (λ x. absurd (x.0 refl), omega arith)
  balance-step (Balance s) o f z = (λ x. absurd (x.1 refl), omega arith)
  balance-step Payment o f z = (λ x. (refl, refl), let q = ltb-false st.money.delega.all.debit st.money.delega.all.credit (cond-false _ 14 2 f) in omega arith)
  balance-step Receipt o f z = let q = eqb-true st.stage.phase after_payment o in (λ x. z (omega arith), omega arith)
  balance-step Addressee o f z = let q = eqb-true st.stage.phase after_receipt o in (λ x. z (omega arith), omega arith)
  balance-step Tail o f z = (λ x. z (among-each Off st.stage.phase (after_payment ∷ after_receipt ∷ after_addressee ∷ []) (omega arith) o), omega arith)
  balance-step Unknown o f z = absurd (false≢true o)

balance-after : (name : List ℕ) (st : State) (rs : List (List ℕ)) → NoFault name st rs → Settled st.stage.phase st.money.delega.all →
    Settled (state_after st rs).stage.phase (state_after st rs).money.delega.all × Balanced st.money (state_after st rs).money (lines_in Debit rs) (lines_in Credit rs)
unfolding state_after sum_over next
balance-after name st [] h z = (z, omega arith)
balance-after name st (r ∷ rs) h z =
    let p = right_of name st r h.0 in
    let a = balance-step name st r (kind_in r) p.ordered p.own z in
    let b = balance-after name (next st r) rs h.1 a.0 in
    (b.0, omega arith)

-- each section's sums grow by its lines, over any records
pub sections-after : (x : Side) (i : ℕ) (st : State) (rs : List (List ℕ)) → i < length st.money.flow →
    (length (state_after st rs).money.flow ≡ length st.money.flow) × (side_of x (get_or (state_after st rs).money.flow i no_sums) ≡ side_of x (get_or st.money.flow i no_sums) + section_in x i rs)
unfolding state_after sum_over next
sections-after x i st [] h = (refl, omega arith)
sections-after x i st (r ∷ rs) h =
    let a = section-adds x i r (kind_in r) st.money h in
    let b = sections-after x i (next st r) rs (omega (arith, a.0)) in
    (b.0 ∙ a.0, omega arith)

-- "the debit and credit sums for each of the five sections"
pub accepted-section-sums : (s : List ℕ) → (judged s).verdict ≡ Accepted → (x : Side) (i : ℕ) → i < 5 → side_of x (get_or (judged s).summary.sums i no_sums) ≡ section_in x i (records_of s)
unfolding start_state
accepted-section-sums s e x i h =
    let q = ap (λ (j : Judgement). side_of x (get_or j.summary.sums i no_sums)) (sound-judged s (accepted-means-no-fault s e)) in
    omega (arith, q, (sections-after x i start_state (records_of s) h).1, no-side x 5 i)

-- "the sum of final balances", as they stand in the records 50-01
pub accepted-total-finals : (s : List ℕ) → (judged s).verdict ≡ Accepted → (judged s).summary.total ≡ finals_in (records_of s)
unfolding start_state next
accepted-total-finals s e = accepted-adds s e (λ st. Unit {0}) (λ m. m.total) _ (λ st r p f. (tt, total-adds st (kind_in r) r (right_of (head_name_of s) st r p).stored)) tt refl

-- "all its debits less all its credits", over the flow
pub accepted-total-lines : (s : List ℕ) → (judged s).verdict ≡ Accepted → (judged s).summary.total + lines_in Credit (records_of s) ≡ lines_in Debit (records_of s)
unfolding start_state
accepted-total-lines s e =
    let h = accepted-means-no-fault s e in
    let b = balance-after (head_name_of s) start_state (records_of s) h.passes (λ x. (refl, refl)) in
    let l = sound-phase s h in
    let z = b.0 (omega arith) in
    let q = ap (λ (j : Judgement). j.summary.total) (sound-judged s h) in
    omega arith
