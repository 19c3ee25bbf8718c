-- The bounds on a state: what a record adds to the sums and counts.
use Prim.Native.Nat.{ℕ, zero, suc, ◌+◌, ◌*◌, ◌≤◌, ◌<◌}
use mathlib.Core.Path.{◌≡◌, refl}
use mathlib.Core.List.{List}
use native.Mathlib.Omega.{arith}
use native.Mathlib.Decide.{dec_lt, ℕ_discrete}
use lib.ListN.{length, get_or, set, replicate, length-set}
use lib.Seq.{get_or-set_same, get_or-set_other, set_out}
use Rattle.layout.specs.declared.Kind.{Kind}
use Rattle.layout.specs.declared.Kind.TheVariants.{Head, Taxpayer, Domicile, Line, Balance, Payment, Receipt, Addressee, Tail, Unknown}
use Rattle.amounts.specs.declared.Sums.{Sums}
use Rattle.order.specs.declared.Stage.{Stage}
use Rattle.rules.specs.declared.Money.{Money}
use Rattle.rules.specs.declared.State.{State}
use Rattle.rules.specs.State.{no_sums, zero_sections, zero_delega, start_state}
use Rattle.rules.specs.Bounds.{Small, SumsBelow, MoneyBelow, StateBelow}
use Rattle.amounts.specs.Amounts.{final_of}
use Rattle.rules.specs.Step.{added, added_at, next_deleghe, next_others, next_money, next_of}
use Rattle.order.specs.Order.{next_stage}

-- the sums of five sections grow by a line's amounts
sums_on : (b : ℕ) (l : List Sums) (s : ℕ) (x : Sums) → SumsBelow b l → Small x → SumsBelow (b + 999_999_999_999_999) (added_at l s x)
unfolding added_at
sums_on b l s x g h = record { five = simp length-set g.five; each = λ i. go i (dec_lt s (length l)) (ℕ_discrete i s) }
  where
    go : (i : ℕ) → Dec (s < length l) → Dec (i ≡ s) → ((get_or (set l s (added (get_or l s no_sums) x)) i no_sums).debit ≤ b + 999_999_999_999_999) × ((get_or (set l s (added (get_or l s no_sums) x)) i no_sums).credit ≤ b + 999_999_999_999_999)
    go i (yes p) (yes q) = let e = g.each s in rw (q, get_or-set_same l s (added (get_or l s no_sums) x) no_sums p) (omega arith, omega arith)
    go i (yes p) (no q) = let e = g.each i in rw (get_or-set_other l s i (added (get_or l s no_sums) x) no_sums q) (omega arith, omega arith)
    go i (no p) d = let e = g.each i in rw (set_out l s (added (get_or l s no_sums) x) (omega arith)) (omega arith, omega arith)

-- a larger bound holds too
pub sums-room : (b c : ℕ) (l : List Sums) → b ≤ c → SumsBelow b l → SumsBelow c l
sums-room b c l h g = record { five = g.five; each = λ i. let e = g.each i in (omega arith, omega arith) }

pub money-room : (b c : ℕ) (m : Money) → b ≤ c → MoneyBelow b m → MoneyBelow c m
money-room b c m h g = record { debits = omega arith; credits = omega arith; delegas = sums-room b c _ h g.delegas; flows = sums-room b c _ h g.flows }

zero-at : (n i : ℕ) → get_or (replicate n no_sums) i no_sums ≡ no_sums
zero-at zero i = refl
zero-at (suc n) zero = refl
zero-at (suc n) (suc i) = zero-at n i

zero-below : SumsBelow 0 zero_sections
zero-below = record { five = refl; each = λ i. rw (zero-at 5 i) (omega arith, omega arith) }

-- a delega that is opened or closed has sums of zero
fresh : (b t : ℕ) (m : Money) → t ≤ b → SumsBelow b m.flow → MoneyBelow b (record { delega = zero_delega; flow = m.flow; total = t })
fresh b t m h g = record { debits = omega arith; credits = omega arith; delegas = sums-room 0 b _ (omega arith) zero-below; flows = g }

money-on : (b : ℕ) (m : Money) (k : Kind) (x : Sums) → MoneyBelow b m → Small x → MoneyBelow (b + 999_999_999_999_999) (next_money m k x)
unfolding final_of
money-on b m Head x g h = money-room b _ m (omega arith) g
money-on b m Taxpayer x g h = fresh _ m.total m (omega arith) (sums-room b _ _ (omega arith) g.flows)
money-on b m Domicile x g h = money-room b _ m (omega arith) g
money-on b m (Line s) x g h =
    record { debits = omega arith; credits = omega arith; delegas = sums_on b _ s x g.delegas h; flows = sums_on b _ s x g.flows h }
money-on b m (Balance s) x g h = money-room b _ m (omega arith) g
money-on b m Payment x g h = fresh _ _ m (omega arith) (sums-room b _ _ (omega arith) g.flows)
money-on b m Receipt x g h = money-room b _ m (omega arith) g
money-on b m Addressee x g h = money-room b _ m (omega arith) g
money-on b m Tail x g h = money-room b _ m (omega arith) g
money-on b m Unknown x g h = money-room b _ m (omega arith) g

lines-on : (n : ℕ) (p : Stage) (k : Kind) → p.lines ≤ n → (next_stage p k).lines ≤ n + 1
lines-on n p Head h = omega arith
lines-on n p Taxpayer h = omega arith
lines-on n p Domicile h = omega arith
lines-on n p (Line s) h = omega arith
lines-on n p (Balance s) h = omega arith
lines-on n p Payment h = omega arith
lines-on n p Receipt h = omega arith
lines-on n p Addressee h = omega arith
lines-on n p Tail h = omega arith
lines-on n p Unknown h = omega arith

-- the counts of deleghe and of records that are no lines grow by one at most
counts-on : (n d o : ℕ) (k : Kind) → d ≤ n → o ≤ n → (next_deleghe d k ≤ n + 1) × (next_others o k ≤ n + 1)
counts-on n d o Head h g = (omega arith, omega arith)
counts-on n d o Taxpayer h g = (omega arith, omega arith)
counts-on n d o Domicile h g = (omega arith, omega arith)
counts-on n d o (Line s) h g = (omega arith, omega arith)
counts-on n d o (Balance s) h g = (omega arith, omega arith)
counts-on n d o Payment h g = (omega arith, omega arith)
counts-on n d o Receipt h g = (omega arith, omega arith)
counts-on n d o Addressee h g = (omega arith, omega arith)
counts-on n d o Tail h g = (omega arith, omega arith)
counts-on n d o Unknown h g = (omega arith, omega arith)

pub deleghe-on : (n d : ℕ) (k : Kind) → d ≤ n → next_deleghe d k ≤ n + 1
deleghe-on n d k h = (counts-on n d 0 k h (omega arith)).0

-- the bounds hold before the first record, and after each record
pub start-below : StateBelow start_state
unfolding start_state
start-below = record { money-below = record { debits = omega arith; credits = omega arith; delegas = zero-below; flows = zero-below }; lines-below = omega arith; deleghe-below = omega arith; others_below = omega arith }

pub state-on : (st : State) (k : Kind) (x : Sums) → StateBelow st → Small x → StateBelow (next_of st k x)
state-on st k x g h =
    record {
      money-below = rw (let e : (st.seen + 1) * 999_999_999_999_999 ≡ st.seen * 999_999_999_999_999 + 999_999_999_999_999 = omega arith in e) (money-on (st.seen * 999_999_999_999_999) st.money k x g.money-below h);
      lines-below = lines-on st.seen st.stage k g.lines-below;
      deleghe-below = deleghe-on st.seen st.deleghe k g.deleghe-below;
      others_below = (counts-on st.seen 0 st.others k (omega arith) g.others_below).1;
    }

-- after fewer than a thousand records a state has room for the step over one more
pub step_room : (st : State) (x : Sums) → StateBelow st → st.seen < 1000 → Small x → (MoneyBelow 1_000_000_000_000_000_000 st.money × Small x) × ((st.stage.lines < 1000) × (st.deleghe < 1000) × (st.others < 1000) × (st.seen < 1000))
step_room st x g f h =
    let l = g.lines-below in
    let d = g.deleghe-below in
    let n = g.others_below in
    ((money-room (st.seen * 999_999_999_999_999) _ st.money (omega arith) g.money-below, h), (omega arith, omega arith, omega arith, f))
