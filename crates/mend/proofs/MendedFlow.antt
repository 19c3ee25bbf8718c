-- The flow after rebalancing: it is accepted with the sums of its lines; an accepted flow and its list stay as they came, and so a second rebalancing changes nothing; so does a refusal.
use Rattle.std.specs.Prelude.{None}
use Prim.Native.Nat.{ℕ, ◌*◌, ◌≤◌}
use mathlib.Core.Path.{◌≡◌, refl, sym, ap, ◌∙◌}
use mathlib.Core.Bool.{true}
use mathlib.Core.List.{List, [], ◌∷◌}
use mathlib.Core.Logic.{◌↔◌}
use native.Mathlib.Omega.{arith}
use lib.ListN.{length}
use Rattle.order.specs.Stages.{after_tail}
use Rattle.rules.specs.declared.State.{State}
use Rattle.rules.specs.State.{start_state}
use Rattle.rules.specs.Step.{next}
use Rattle.state.specs.Numbers.{overlay}
use Rattle.judge.specs.declared.Judgement.{Judgement}
use Rattle.judge.specs.Refusal.{Accepted}
use Rattle.judge.specs.Flow.{accepted_with, records_of, head_name_of, judged}
use Rattle.judge.specs.Plain.{state_after}
use Rattle.judge.proofs.Accepted.{accepted-means-no-fault}
use Rattle.rebalance.specs.Rebalance.{rebalanced, all_fit, refreshed, Mendable}
use Rattle.rebalance.proofs.Rebalanced.{sized-rebalanced, mendable-fits, fits-rebalanced}
use Rattle.rebalance.proofs.Flat.{records-flat}
use Rattle.rebalance.proofs.Judged.{sized-records, judged-rebalanced, accepted-untouched, accepted-mends}
use Rattle.lenient.proofs.Mends.{lenient-mends}
use Rattle.changes.specs.Changes.{Place, changed_from, changes_of, place_numbers}
use Rattle.changes.proofs.Listed.{none_from}
use Rattle.mend.specs.Answers.{Mending, Mended, Refused}
use Rattle.mend.specs.Mending.{flow_by, list_by, mending_of, mended_flow, mended_list}
use Rattle.mend.specs.WhenRefused.{NoneRemains, Mends, Answers, TooLong, NotWhole, FaultAt, NoTail, NoFit, ShortList, IsRebalanced}
use Rattle.mend.proofs.Remaining.{remaining-lenient, all-remain}
use Rattle.mend.proofs.Answered.{answered-exactly}

-- In records that rebalancing mends no fault remains, and the last is EF.
mendable-none : (name : List ℕ) (st : State) (rs : List (List ℕ)) → Mendable name st rs → NoneRemains name st rs × ((state_after st rs).stage.phase ≡ after_tail)
unfolding state_after
mendable-none name st [] m = (tt, m)
mendable-none name st (r ∷ rs) m = let h = mendable-none name (next st r) rs m.3 in ((m.1, h.0), h.1)

-- A flow in which no fault remains.
module _ (f : List ℕ) (m : Mends f) where
  -- Where its values fit, it is accepted once it is rebalanced, with the sums of its lines.
  fitting-accepted : all_fit start_state (records_of f) ≡ true → judged (refreshed f) ≡ accepted_with (state_after start_state (records_of f))
  unfolding refreshed
  fitting-accepted b =
      let w = m.whole in
      judged-rebalanced f w (lenient-mends (head_name_of f) None start_state (records_of f) (sized-records f w.even) (remaining-lenient (head_name_of f) start_state (records_of f) ∙ all-remain (head_name_of f) start_state (records_of f) m.passes m.ended) b)

  -- "then 23": its values fit exactly where it is accepted once it is rebalanced.
  pub fits-exactly : (all_fit start_state (records_of f) ≡ true) ↔ ((judged (refreshed f)).verdict ≡ Accepted)
  unfolding refreshed
  fits-exactly = (λ b. ap (λ (j : Judgement). j.verdict) (fitting-accepted b), back)
    where
      back : (judged (refreshed f)).verdict ≡ Accepted → all_fit start_state (records_of f) ≡ true
      back a =
          let z = sized-records f m.whole.even in
          let r : records_of (refreshed f) ≡ rebalanced start_state (records_of f) = records-flat (rebalanced start_state (records_of f)) (sized-rebalanced start_state (records_of f) z) in
          sym (fits-rebalanced start_state (records_of f) z) ∙ (ap (all_fit start_state) (sym r) ∙ mendable-fits (head_name_of (refreshed f)) start_state (records_of (refreshed f)) (accepted-mends (refreshed f) a))

-- A flow that is rebalanced, with n fields listed.
pub record Rebalanced (f list : List ℕ) (n : ℕ) : Type 0 where
  pub mends : Mends f
  pub fits : all_fit start_state (records_of f) ≡ true
  pub counted : n ≡ length (changes_of f)
  pub room : 2 * n ≤ length list

module _ (f list : List ℕ) where
  -- What an answer that is no refusal says.
  pub rebalanced-when : {n : ℕ} → mending_of f list ≡ Mended n → Rebalanced f list n
  rebalanced-when {n} e = way ((answered-exactly f list (Mended n)).0 e) refl
    where
      way : {x : Mending} → Answers f list x → x ≡ Mended n → Rebalanced f list n
      way (TooLong h) c = let z : ◌≡◌ {A = ℕ} 0 1 = cc in absurd (omega arith)
      way (NotWhole h d) c = let z : ◌≡◌ {A = ℕ} 0 1 = cc in absurd (omega arith)
      way (FaultAt w t) c = let z : ◌≡◌ {A = ℕ} 0 1 = cc in absurd (omega arith)
      way (NoTail w h g) c = let z : ◌≡◌ {A = ℕ} 0 1 = cc in absurd (omega arith)
      way (NoFit m g) c = let z : ◌≡◌ {A = ℕ} 0 1 = cc in absurd (omega arith)
      way (ShortList m g h) c = let z : ◌≡◌ {A = ℕ} 0 1 = cc in absurd (omega arith)
      way (IsRebalanced m g h) c = let q : length (changes_of f) ≡ n = cc in record { mends = m; fits = g; counted = sym q; room = omega arith }

  -- The flow and the list afterwards, by the answer.
  pub flow-by : {m : Mending} → mending_of f list ≡ m → mended_flow f list ≡ flow_by m (refreshed f) f
  unfolding mended_flow
  flow-by e = ap (λ (m : Mending). flow_by m (refreshed f) f) e

  pub list-by : {m : Mending} → mending_of f list ≡ m → mended_list f list ≡ list_by m (changes_of f) list
  unfolding mended_list
  list-by e = ap (λ (m : Mending). list_by m (changes_of f) list) e

  -- "After it the flow is accepted", with the sums of its lines.
  pub mended-accepted : {n : ℕ} → mending_of f list ≡ Mended n → judged (mended_flow f list) ≡ accepted_with (state_after start_state (records_of f))
  mended-accepted e = let b = rebalanced-when e in ap judged (flow-by e) ∙ fitting-accepted f b.mends b.fits

  -- "with nothing written"
  pub refused-stays : {n r p : ℕ} → mending_of f list ≡ Refused n r p → (mended_flow f list ≡ f) × (mended_list f list ≡ list)
  refused-stays e = (flow-by e, list-by e)

  -- "An accepted flow comes back untouched with an empty list", whatever room the list has.
  pub accepted-stays : (judged f).verdict ≡ Accepted → (mending_of f list ≡ Mended 0) × (mended_flow f list ≡ f) × (mended_list f list ≡ list)
  unfolding refreshed changes_of overlay place_numbers
  accepted-stays a =
      let m = accepted-mends f a in
      let h = mendable-none (head_name_of f) start_state (records_of f) m in
      let u = accepted-untouched f a in
      let c : changes_of f ≡ [] = ap (λ (s : List ℕ). changed_from 0 (records_of f) (records_of s)) u ∙ none_from 0 (records_of f) in
      let z : length (changes_of f) ≡ 0 = ap length c in
      let r : mending_of f list ≡ Mended (length (changes_of f)) =
      (answered-exactly f list (Mended (length (changes_of f)))).1
      (IsRebalanced (record { whole = (accepted-means-no-fault f a).whole; passes = h.0; ended = h.1 }) (mendable-fits (head_name_of f) start_state (records_of f) m) (omega arith)) in
      (r ∙ ap Mended z, flow-by r ∙ u, list-by r ∙ ap (λ (ps : List Place). overlay (place_numbers ps) list) c)

-- A second rebalancing lists nothing and changes nothing.
pub mended-again : (f list other : List ℕ) {n : ℕ} → mending_of f list ≡ Mended n → let g = mended_flow f list in (mending_of g other ≡ Mended 0) × (mended_flow g other ≡ g) × (mended_list g other ≡ other)
mended-again f list other e = accepted-stays (mended_flow f list) other (ap (λ (j : Judgement). j.verdict) (mended-accepted f list e))
