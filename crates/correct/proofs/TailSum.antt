-- The sum of final balances, over records that stand in order and carry their numbers, where no delega is negative: all debits less all credits.
use Prim.Native.Nat.{ℕ, ◌+◌, ◌-◌, ◌≤◌}
use mathlib.Core.Path.{◌≡◌, ap}
use mathlib.Core.Bool.{false}
use mathlib.Core.List.{List, [], ◌∷◌}
use native.Mathlib.Omega.{arith}
use borrow.Author.Tests.{ltb-false}
use Rattle.layout.specs.declared.Kind.TheVariants.{Line, Payment}
use Rattle.layout.specs.Kinds.{kind_in}
use Rattle.layout.specs.Fields.{delega_number, value_of}
use Rattle.rules.specs.declared.DelegaSums.{DelegaSums}
use Rattle.rules.specs.declared.Money.{Money}
use Rattle.rules.specs.declared.State.{State}
use Rattle.rules.specs.State.{start_state}
use Rattle.order.specs.Stages.{after_tail}
use Rattle.amounts.specs.Amounts.{final_of}
use Rattle.rules.specs.Step.{next}
use Rattle.judge.specs.Plain.{sum_over, Side, Debit, Credit, side_of, column_of, lines_in, state_after}
use Rattle.delega.proofs.Moves.{open_at, Between, between_start, Standing, Each, Move, Adds, Pays, Keeps, move-of}
use Rattle.delega.proofs.OwnRecords.{line-delega, payment-delega}
use Rattle.delega.proofs.Held.{line-all}
use Rattle.rebalance.specs.Weigh.{negative_at, any_negative}
use Rattle.rebalance.proofs.Weighed.{neither}
use Rattle.correct.proofs.InOrder.{between-after}

-- The debits and the credits that a state and the records behind it hold together, of the deleghe that are not closed.
abbrev held : Side → State → List (List ℕ) → ℕ
held x st rs = side_of x st.money.delega.all + lines_in x rs

-- A line and a 50-01 leave the sum of final balances, or add to it.
line-total : (st : State) (r : List ℕ) (s : ℕ) → kind_in r ≡ Line s → (next st r).money.total ≡ st.money.total
unfolding next
line-total st r s e = rw e

payment-total : (st : State) (r : List ℕ) → kind_in r ≡ Payment → (next st r).money.total ≡ st.money.total + final_of st.money.delega.all
unfolding next
payment-total st r e = rw e

-- What the sum grows by is what the debits held are more than the credits.
total-after : (n : ℕ) (st : State) (rs : List (List ℕ)) → Between n st → Each Standing st rs → any_negative st rs ≡ false →
    (state_after st rs).money.total + (state_after st rs).money.delega.all.debit + held Credit st rs ≡ st.money.total + held Debit st rs + (state_after st rs).money.delega.all.credit
unfolding state_after sum_over any_negative final_of
total-after n st [] b h p = omega arith
total-after n st (r ∷ rs) b h p = go (move-of n st b r h.0) (λ m c. total-after m (next st r) rs c h.1 (neither (negative_at st (kind_in r)) _ p).1)
  where
    go : Move n st (kind_in r) (value_of r delega_number) (next st r) →
        ((m : ℕ) → Between m (next st r) → (state_after (next st r) rs).money.total + (state_after (next st r) rs).money.delega.all.debit + held Credit (next st r) rs ≡ (next st r).money.total + held Debit (next st r) rs + (state_after (next st r) rs).money.delega.all.credit) →
        (state_after (next st r) rs).money.total + (state_after (next st r) rs).money.delega.all.debit + held Credit st (r ∷ rs) ≡ st.money.total + held Debit st (r ∷ rs) + (state_after (next st r) rs).money.delega.all.credit
    go (Adds s k v c) f =
        let d = ap (λ (t : DelegaSums). t.all.debit) (line-delega st r s k) in
        let e = ap (λ (t : DelegaSums). t.all.credit) (line-delega st r s k) in
        omega (arith, f n c, d, e, line-all Debit st.money.delega r s k, line-all Credit st.money.delega r s k, line-total st r s k)
    go (Pays k v m c) f =
        let d = ap (λ (t : DelegaSums). t.all.debit) (payment-delega st r k) in
        let e = ap (λ (t : DelegaSums). t.all.credit) (payment-delega st r k) in
        let q : st.money.delega.all.credit ≤ st.money.delega.all.debit = ltb-false _ _ (rw k at (neither (negative_at st (kind_in r)) _ p).0) in
        rw k (omega (arith, f (n + 1) c, payment-total st r k))
    go (Keeps k m c) f =
        let d = ap (λ (t : Money). t.delega.all.debit) m in
        let e = ap (λ (t : Money). t.delega.all.credit) m in
        let t = ap (λ (t : Money). t.total) m in
        omega (arith, f n c, (k (λ s. value_of r (column_of Debit s)) 0 false).0, (k (λ s. value_of r (column_of Credit s)) 0 false).0)

-- After EF no delega is open, so nothing else is held.
pub tail-total : (rs : List (List ℕ)) → Each Standing start_state rs → (state_after start_state rs).stage.phase ≡ after_tail → any_negative start_state rs ≡ false → (state_after start_state rs).money.total ≡ lines_in Debit rs - lines_in Credit rs
unfolding start_state
tail-total rs h e p =
    let b = between-after 0 start_state rs between_start h in
    let z = b.2.settled (ap open_at e) in
    let d = ap (λ (t : DelegaSums). t.all.debit) z in
    let c = ap (λ (t : DelegaSums). t.all.credit) z in
    omega (arith, total-after 0 start_state rs between_start h p)
