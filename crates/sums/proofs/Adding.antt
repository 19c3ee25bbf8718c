-- The pass that adds the lines up: after its last record the state has the ten sums of the flow's lines, and so has the judgement of an accepted flow.
use Prim.Native.Nat.{ℕ, ◌+◌, ◌*◌, ◌/◌, ◌<◌, ◌≤◌}
use mathlib.Core.Path.{◌≡◌, sym, ap, ap₂, ◌∙◌}
use mathlib.Core.List.{List, ◌∷◌}
use native.Mathlib.Omega.{arith}
use lib.ListN.{length, take, drop, get_or}
use Rattle.amounts.specs.declared.Sums.{Sums}
use Rattle.rules.specs.declared.State.{State}
use Rattle.rules.specs.State.{no_sums, start_state}
use Rattle.rules.specs.Bounds.{StateBelow}
use Rattle.rules.specs.Step.{next}
use Rattle.rules.proofs.Growth.{start-below}
use Rattle.state.proofs.Rooms.{five-of}
use Rattle.judge.specs.declared.Judgement.{Judgement}
use Rattle.judge.specs.Refusal.{Accepted}
use Rattle.judge.specs.Flow.{records_of, rest_of, judged}
use Rattle.judge.specs.Plain.{Side, Debit, Credit, side_of, section_in, state_after}
use Rattle.judge.proofs.Accepted.{accepted-means-no-fault, sound-judged}
use Rattle.judge.proofs.PlainSums.{no-side, sections-after}
use Rattle.rebalance.specs.Weigh.{Turn}
use Rattle.rebalance.proofs.Turns.{next-below, rest-on, rest_end, rest-start}
use Rattle.sums.specs.LineSums.{section_sums, sums_in, kept_of}

-- The state after records has the sums of their lines.
module _ (rs : List (List ℕ)) where
  abbrev after : List Sums
  after = (state_after start_state rs).money.flow

  one_side : (x : Side) (i : ℕ) → i < 5 → side_of x (get_or after i no_sums) ≡ section_in x i rs
  unfolding start_state
  one_side x i h = omega (arith, (sections-after x i start_state rs h).1, no-side x 5 i)

  one-section : (i : ℕ) → i < 5 → get_or after i no_sums ≡ section_sums rs i
  one-section i h = ap₂ (λ d c. record { debit = d; credit = c }) (one_side Debit i h) (one_side Credit i h)

  pub sums-after : (state_after start_state rs).money.flow ≡ sums_in rs
  unfolding start_state sums_in
  sums-after = sym (five-of after (sections-after Debit 0 start_state rs (omega arith)).0) ∙ rw (one-section 0 (omega arith), one-section 1 (omega arith), one-section 2 (omega arith), one-section 3 (omega arith), one-section 4 (omega arith))

-- The record of an accepted flow has the sums that its judgement answers.
pub accepted-sums : (f : List ℕ) → (judged f).verdict ≡ Accepted → (judged f).summary.sums ≡ (kept_of f).sums
accepted-sums f e = ap (λ (j : Judgement). j.summary.sums) (sound-judged f (accepted-means-no-fault f e)) ∙ sums-after (records_of f)

-- The pass has come to a state: those that are left lead to the state after all.
pub record Adding (flow : List ℕ) (st : State) : Type 0 where
  pub below : StateBelow st
  pub rest : state_after st (rest_of flow st.seen) ≡ state_after start_state (records_of flow)

pub adding-start : (flow : List ℕ) → Adding flow start_state
unfolding start_state
adding-start flow = record { below = start-below; rest = ap (state_after start_state) (rest-start flow) }

module _ (flow : List ℕ) (st : State) (w : Adding flow st) where
  pub adding-on : st.seen < length flow / 120 → (r : List ℕ) → r ≡ take 120 (drop (st.seen * 120) flow) → Turn r st → Adding flow (next st r)
  unfolding state_after next
  adding-on more r er t =
      let o : rest_of flow st.seen ≡ r ∷ rest_of flow (st.seen + 1) = rest-on flow st.seen more ∙ ap (λ (x : List ℕ). x ∷ rest_of flow (st.seen + 1)) (sym er) in
      record { below = next-below st r t; rest = sym (ap (state_after st) o) ∙ w.rest }

  pub adding-end : length flow / 120 ≤ st.seen → st.money.flow ≡ (kept_of flow).sums
  unfolding state_after
  adding-end h = ap (λ (s : State). s.money.flow) (sym (ap (state_after st) (rest_end flow st.seen h)) ∙ w.rest) ∙ sums-after (records_of flow)
