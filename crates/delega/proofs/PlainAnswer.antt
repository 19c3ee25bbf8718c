-- For an accepted flow and a number from 1 to the count: the delega is found, its section sums are those of its lines, and its final balance is that of its 50-01, all its debits less all its credits.
use Prim.Native.Nat.{ℕ, ◌+◌, ◌<◌, ◌≤◌}
use mathlib.Core.Path.{◌≡◌, refl, ap, ◌∙◌}
use mathlib.Core.Bool.{Bool, true, false, cond}
use mathlib.Core.List.{List, [], ◌∷◌}
use native.Mathlib.Omega.{arith}
use borrow.Author.Tests.{ltb-false, eqb-true}
use lib.ListN.{length, get_or}
use Rattle.layout.specs.declared.Kind.TheVariants.{Line, Payment}
use Rattle.layout.specs.Kinds.{of_line, of_payment, kind_in}
use Rattle.layout.specs.Fields.{final_balance, value_of}
use Rattle.amounts.specs.declared.Sums.{Sums}
use Rattle.rules.specs.declared.DelegaSums.{DelegaSums}
use Rattle.refusal.specs.Outcomes.{Pass}
use Rattle.rules.specs.declared.State.{State}
use Rattle.rules.specs.State.{no_sums, zero_delega, start_state}
use Rattle.amounts.specs.Amounts.{final_of}
use Rattle.rules.specs.Checks.{negative_fault, fault}
use Rattle.rules.specs.Step.{next}
use Rattle.judge.specs.Refusal.{Accepted}
use Rattle.judge.specs.declared.Judgement.{Judgement}
use Rattle.judge.specs.Flow.{records_of, head_name_of, judged}
use Rattle.judge.specs.Plain.{sum_over, Side, Debit, Credit, side_of, column_of, state_after, NoFault}
use Rattle.judge.proofs.PlainSums.{cond-true, cond-false}
use Rattle.judge.proofs.Accepted.{Right, right_of, accepted-means-no-fault, sound-phase, sound-judged}
use Rattle.delega.specs.declared.used.Used.{Used}
use Rattle.delega.specs.declared.DelegaAnswer.{DelegaAnswer}
use Rattle.delega.specs.Used.{none_used, next_used}
use Rattle.delega.specs.OneDelega.{no_such_delega, answered, closes_at, delega_from, delega_of}
use Rattle.delega.specs.PlainDelega.{of_delega, section_of, lines_of, finals_of, payments_of}
use Rattle.delega.proofs.Asked.{delega-within}
use Rattle.delega.proofs.Moves.{Each, Quiet, standing-of, each-standing}
use Rattle.delega.proofs.OwnRecords.{with_line, at_closing, Ends, own-records}
use Rattle.delega.proofs.Held.{none-side, line-all, closing, closing-section}

-- a 50-01 that passes holds the debits less the credits, which are not above them
module _ (name : List ℕ) (st : State) (r : List ℕ) (k : kind_in r ≡ Payment) (p : Right name st r) where
  not_negative : st.money.delega.all.credit ≤ st.money.delega.all.debit
  unfolding negative_fault
  not_negative = ltb-false _ _ (cond-false _ 14 2 (rw k at p.own))

  stored-final : value_of r final_balance ≡ final_of st.money.delega.all
  stored-final = eqb-true _ _ (cond-true _ 15 36 (rw k at p.stored))

-- the search for a delega takes the answer at its 50-01
pub delega-from-closing : (d : ℕ) (st : State) (u : Used) (rs : List (List ℕ)) → at_closing no_such_delega answered next_used d st u rs ≡ delega_from d st u rs
unfolding delega_from at_closing
delega-from-closing d st u [] = refl
delega-from-closing d st u (r ∷ rs) = ap (cond (closes_at d st.deleghe (kind_in r)) (answered st u)) (delega-from-closing d (next st r) (next_used u (kind_in r)) rs)

-- and its sums are those that are held there
from-sums : (d : ℕ) (st : State) (u : Used) (rs : List (List ℕ)) → (delega_from d st u rs).sums ≡ (closing d st rs).sections
unfolding delega_from at_closing
from-sums d st u [] = refl
from-sums d st u (r ∷ rs) = go (closes_at d st.deleghe (kind_in r)) _ _ (from-sums d (next st r) (next_used u (kind_in r)) rs)
  where
    go : (b : Bool) (rest : DelegaAnswer) (held : DelegaSums) → rest.sums ≡ held.sections → (cond b (answered st u) rest).sums ≡ (cond b st.money.delega held).sections
    go true rest held e = refl
    go false rest held e = e

-- records without a fault
pub each_of : (name : List ℕ) (st : State) (rs : List (List ℕ)) → NoFault name st rs → Each (λ on r. fault name on r ≡ Pass) st rs
each_of name st [] h = tt
each_of name st (r ∷ rs) h = (h.0, each_of name (next st r) rs h.1)

module _ (s : List ℕ) (d : ℕ) (e : (judged s).verdict ≡ Accepted) (lo : 1 ≤ d) (hi : d ≤ (judged s).summary.deleghe) where
  -- an accepted flow has that many deleghe, and ends with EF
  pub ends : Ends d (state_after start_state (records_of s))
  ends =
      let h = accepted-means-no-fault s e in
      record { tail = sound-phase s h; enough = omega (arith, ap (λ (j : Judgement). j.summary.deleghe) (sound-judged s h)) }

  -- two numbers of the delega's sums, what a record adds to each, and what the answer says of the two
  answer-by : (D : Side → DelegaSums → ℕ) (g : Side → List ℕ → ℕ) (Says : DelegaAnswer → ℕ → ℕ → Type 0) →
      ((x : Side) (r : List ℕ) → Quiet (kind_in r) → g x r ≡ 0) → ((x : Side) → D x zero_delega ≡ 0) →
      ((x : Side) (t : DelegaSums) (r : List ℕ) (i : ℕ) → kind_in r ≡ Line i → length t.sections ≡ 5 → D x (with_line t i r) ≡ D x t + g x r) →
      ((st : State) (w : Used) (r : List ℕ) → kind_in r ≡ Payment → Right (head_name_of s) st r → (t u : ℕ) →
      t ≡ D Debit st.money.delega + g Debit r → u ≡ D Credit st.money.delega + g Credit r → Says (answered st w) t u) →
      Says (delega_of s d) (sum_over (λ r. of_delega d r (g Debit r)) (records_of s)) (sum_over (λ r. of_delega d r (g Credit r)) (records_of s))
  answer-by D g Says none blank line pay =
      rw (delega-within s d e (omega arith) hi, ← (delega-from-closing d start_state none_used (records_of s)))
      (own-records no_such_delega answered next_used d D g Says (λ st r. fault (head_name_of s) st r ≡ Pass) (standing-of (head_name_of s)) none blank line
      (λ st w r k f. pay st w r k (right_of (head_name_of s) st r f)) none_used (records_of s) lo (each_of (head_name_of s) start_state (records_of s) (accepted-means-no-fault s e).passes) ends)

  -- what a 50-01 adds: its final balance, and 1
  abbrev of_final : Side → List ℕ → ℕ
  of_final Debit r = of_payment 0 (value_of r final_balance) (kind_in r)
  of_final Credit r = of_payment 0 1 (kind_in r)

  -- the answer by the delega's 50-01
  by-payment : ((delega_of s d).verdict ≡ Accepted) × ((delega_of s d).balance ≡ finals_of d (records_of s)) × (payments_of d (records_of s) ≡ 1)
  by-payment = answer-by (λ x t. 0) of_final (λ a t u. (a.verdict ≡ Accepted) × (a.balance ≡ t) × (u ≡ 1)) none (λ x. refl) line pay
    where
      none : (x : Side) (r : List ℕ) → Quiet (kind_in r) → of_final x r ≡ 0
      none Debit r q = (q (λ i. 0) (value_of r final_balance) true).1
      none Credit r q = (q (λ i. 0) 1 true).1

      line : (x : Side) (t : DelegaSums) (r : List ℕ) (i : ℕ) → kind_in r ≡ Line i → length t.sections ≡ 5 → 0 ≡ 0 + of_final x r
      line Debit t r i k l = rw k
      line Credit t r i k l = rw k

      pay : (st : State) (w : Used) (r : List ℕ) → kind_in r ≡ Payment → Right (head_name_of s) st r → (t u : ℕ) → t ≡ 0 + of_final Debit r → u ≡ 0 + of_final Credit r →
          ((answered st w).verdict ≡ Accepted) × ((answered st w).balance ≡ t) × (u ≡ 1)
      pay st w r k p t u a b =
          (refl, omega (arith, rw k at a, stored-final (head_name_of s) st r k p), omega (arith, rw k at b))

  -- 21 is only for a number that is 0 or above the count
  pub delega-found : (delega_of s d).verdict ≡ Accepted
  delega-found = by-payment.0

  -- the delega has one 50-01
  pub delega-one-payment : payments_of d (records_of s) ≡ 1
  delega-one-payment = by-payment.2

  -- "its final balance", as it stands in its 50-01
  pub delega-balance : (delega_of s d).balance ≡ finals_of d (records_of s)
  delega-balance = by-payment.1

  -- "all its debits less all its credits", over the lines that carry its number
  pub delega-balance-lines : (delega_of s d).balance + lines_of d Credit (records_of s) ≡ lines_of d Debit (records_of s)
  unfolding final_of
  delega-balance-lines = answer-by (λ x t. side_of x t.all) (λ x r. of_line 0 (λ i. value_of r (column_of x i)) (kind_in r)) (λ a t u. a.balance + u ≡ t) (λ x r q. (q _ 0 true).0) none-side (λ x t r i k l. line-all x t r i k) pay
    where
      pay : (st : State) (w : Used) (r : List ℕ) → kind_in r ≡ Payment → Right (head_name_of s) st r → (t u : ℕ) →
          t ≡ st.money.delega.all.debit + of_line 0 (λ i. value_of r (column_of Debit i)) (kind_in r) → u ≡ st.money.delega.all.credit + of_line 0 (λ i. value_of r (column_of Credit i)) (kind_in r) →
          (answered st w).balance + u ≡ t
      pay st w r k p t u a b = omega (arith, rw k at a, rw k at b, not_negative (head_name_of s) st r k p)

  -- "its ten section sums": those of its lines
  pub delega-section-sums : (x : Side) (i : ℕ) → i < 5 → side_of x (get_or (delega_of s d).sums i no_sums) ≡ section_of d x i (records_of s)
  delega-section-sums x i h =
      ap (λ (l : List Sums). side_of x (get_or l i no_sums)) (ap (λ (a : DelegaAnswer). a.sums) (delega-within s d e (omega arith) hi) ∙ from-sums d start_state none_used (records_of s))
      ∙ closing-section d (records_of s) lo (each-standing (head_name_of s) start_state (records_of s) (accepted-means-no-fault s e).passes) ends x i h
