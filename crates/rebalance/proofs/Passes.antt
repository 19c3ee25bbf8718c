-- The pass that rebalances a flow in place: the records so far are written, and those that are left are as they were.
use Prim.Native.Nat.{ℕ, ◌+◌, ◌-◌, ◌*◌, ◌/◌, ◌<◌, ◌≤◌}
use mathlib.Core.Path.{◌≡◌, refl, sym, ap, ◌∙◌}
use mathlib.Core.Bool.{true}
use mathlib.Core.List.{List, ◌++◌, append_assoc, append-nil}
use native.Mathlib.Omega.{arith}
use native.Mathlib.Nat.{add-sub_cancel_left}
use borrow.Rule.Slice.PartMut.{put_mid, post_of, same_len_mid, mid_len, drop_put}
use lib.ListN.{length, take, drop, length-append}
use lib.Seq.{length-take-le, take_at, take_all}
use Rattle.layout.specs.Kinds.{kind_in}
use Rattle.rules.specs.declared.State.{State}
use Rattle.rules.specs.State.{start_state}
use Rattle.rules.specs.Bounds.{StateBelow}
use Rattle.rules.specs.Stored.{stored_of}
use Rattle.rules.specs.Step.{next}
use Rattle.rules.proofs.Growth.{start-below}
use Rattle.judge.specs.Flow.{records_of, rest_of}
use Rattle.judge.specs.Plain.{Whole}
use Rattle.rebalance.specs.Rebalance.{emit, rebalanced, fits_all, all_fit, flat}
use Rattle.rebalance.specs.Weigh.{Turn}
use Rattle.text.proofs.Tests.{both_true}
use Rattle.rebalance.proofs.Emit.{emit-length}
use Rattle.rebalance.proofs.Turns.{next-below, rest-on, rest_end, rest-start}
use Rattle.records.proofs.Sizes.{record-sized}

-- The whole flow rebalanced is what stands before the state and the rest of the flow rebalanced from the state on, and what is written there fits.
pub record Passing (flow₀ flow : List ℕ) (st : State) : Type 0 where
  pub same : length flow ≡ length flow₀
  pub below : StateBelow st
  pub fit : all_fit st (rest_of flow st.seen) ≡ true
  pub rest : flat (rebalanced start_state (records_of flow₀)) ≡ take (st.seen * 120) flow ++ flat (rebalanced st (rest_of flow st.seen))

-- Before the first record nothing is written.
pub passing-start : (flow : List ℕ) → all_fit start_state (records_of flow) ≡ true → Passing flow flow start_state
unfolding start_state
passing-start flow h =
    record {
      same = refl;
      below = start-below;
      fit = rw (rest-start flow) h;
      rest = ap (λ (rs : List (List ℕ)). flat (rebalanced start_state rs)) (sym (rest-start flow));
    }

module _ (flow₀ flow : List ℕ) (st : State) (w : Passing flow₀ flow st) (whole : Whole flow₀) where
  -- After the last record all is written.
  pub passing-end : length flow / 120 ≤ st.seen → flow ≡ flat (rebalanced start_state (records_of flow₀))
  unfolding rebalanced flat
  passing-end h =
      let l : length flow ≤ st.seen * 120 = omega (arith, w.same, whole.even) in
      sym (w.rest ∙ (rw (rest_end flow st.seen h) (append-nil (take (st.seen * 120) flow)) ∙ take_all (st.seen * 120) flow l))

  -- A record is left.
  module _ (more : st.seen < length flow / 120) where
    abbrev r : List ℕ
    r = take 120 (drop (st.seen * 120) flow)

    -- It has 120 bytes, and the state has room for it.
    pub passing-turn : Turn r st
    passing-turn = record { sized = record-sized flow st.seen more; few = omega (arith, w.same, whole.short); below = w.below }

    -- What is written into it and into those behind it fits.
    opened-fit : (fits_all (stored_of st (kind_in r)) ≡ true) × (all_fit (next st r) (rest_of flow (st.seen + 1)) ≡ true)
    unfolding all_fit
    opened-fit = both_true _ _ (sym (ap (all_fit st) (rest-on flow st.seen more)) ∙ w.fit)

    pub passing-fits : fits_all (stored_of st (kind_in r)) ≡ true
    passing-fits = opened-fit.0

    module _ (ys : List ℕ) (wrote : ys ≡ emit st r) where
      -- The flow with the record written.
      abbrev after : List ℕ
      after = put_mid (st.seen * 120) (st.seen * 120 + 120 - st.seen * 120) flow ys

      room : st.seen * 120 + 120 ≤ length flow
      room = omega arith

      sized : length ys ≡ 120
      sized = ap length wrote ∙ emit-length st r (record-sized flow st.seen more)

      after-length : length after ≡ length flow
      after-length = same_len_mid (st.seen * 120) (st.seen * 120 + 120 - st.seen * 120) flow ys (sized ∙ sym (mid_len (st.seen * 120) (st.seen * 120 + 120) flow room ∙ add-sub_cancel_left (st.seen * 120) 120))

      after-drop : drop ((st.seen + 1) * 120) after ≡ drop ((st.seen + 1) * 120) flow
      after-drop =
          let e : (st.seen + 1) * 120 ≡ st.seen * 120 + 120 = omega arith in
          rw e (drop_put (st.seen * 120) (st.seen * 120 + 120) flow ys (omega arith) room (sized ∙ sym (add-sub_cancel_left (st.seen * 120) 120)))

      after-take : take ((st.seen + 1) * 120) after ≡ take (st.seen * 120) flow ++ ys
      after-take =
          let l : length (take (st.seen * 120) flow) ≡ st.seen * 120 = length-take-le (st.seen * 120) flow (let h = room in omega arith) in
          let z = sized in
          rw (← (append_assoc (take (st.seen * 120) flow) ys (post_of (st.seen * 120) (st.seen * 120 + 120 - st.seen * 120) flow)))
          (take_at (take (st.seen * 120) flow ++ ys) _ ((st.seen + 1) * 120) (omega (arith, length-append (take (st.seen * 120) flow) ys)))

      -- The records behind it are as they were.
      after-rest : rest_of after (st.seen + 1) ≡ rest_of flow (st.seen + 1)
      after-rest = rw (after-length, after-drop)

      opened : flat (rebalanced st (rest_of flow st.seen)) ≡ ys ++ flat (rebalanced (next st r) (rest_of flow (st.seen + 1)))
      unfolding flat rebalanced
      opened = rw (rest-on flow st.seen more, ← wrote)

      -- A record is written, and the pass goes on behind it.
      pub passing-on : Passing flow₀ after (next st r)
      unfolding next
      passing-on =
          record {
            same = after-length ∙ w.same;
            below = next-below st r passing-turn;
            fit = rw after-rest opened-fit.1;
            rest = w.rest ∙ rw (after-take, after-rest, opened, append_assoc (take (st.seen * 120) flow) ys (flat (rebalanced (next st r) (rest_of flow (st.seen + 1)))));
          }
