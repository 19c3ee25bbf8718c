-- The pass that closes a flow up in place: the records so far that stay stand at its front, and behind them it is as it came.
use Prim.Native.Nat.{ℕ, ◌+◌, ◌-◌, ◌*◌, ◌/◌, ◌<◌, ◌≤◌}
use mathlib.Core.Path.{◌≡◌, refl, sym, ap, ◌∙◌}
use mathlib.Core.Bool.{Bool, true, false, cond}
use mathlib.Core.List.{List, [], ◌∷◌, ◌++◌, append_assoc, append-nil}
use native.Mathlib.Omega.{arith}
use lib.ListN.{length, take, drop, replicate, length-append, length-drop}
use lib.Seq.{take_at, drop-append-add, drop-drop}
use Rattle.text.specs.Placing.{put_at, part_bytes}
use Rattle.text.proofs.Fits.{copied, part-put}
use Rattle.text.proofs.Puts.{put_is}
use Rattle.layout.specs.declared.Kind.{Kind}
use Rattle.layout.specs.Kinds.{kind_in}
use Rattle.rules.specs.Step.{next_deleghe}
use Rattle.rules.proofs.Growth.{deleghe-on}
use Rattle.records.proofs.Sizes.{record-sized}
use Rattle.judge.specs.Flow.{rest_of}
use Rattle.judge.specs.Plain.{Whole}
use Rattle.rebalance.specs.Rebalance.{flat}
use Rattle.rebalance.specs.Numbering.{with_number}
use Rattle.rebalance.proofs.Turns.{rest-on, rest_end, rest-start}
use Rattle.rebalance.proofs.Numbered.{length-number}
use Rattle.close.specs.declared.Kept.{Kept}
use Rattle.close.specs.Closing.{stays, kept_of, renumbered, closed_up}
use Rattle.close.specs.Inner.{record_from, kept_after, moved_up, Reached, ClosedSoFar}

-- A record copied, numbered and put at an index.
pub record-moved : (flow r s a b g : List ℕ) (to d : ℕ) (k : Kind) → length s ≡ 120 → s ≡ r → to + 120 ≤ length flow → a ≡ part_bytes 0 s (replicate 120 0) → b ≡ with_number k d a → g ≡ part_bytes to b flow → g ≡ put_at to (with_number k d r) flow
record-moved flow r s a b g to d k l same h p q e =
    let n : b ≡ with_number k d s = q ∙ ap (with_number k d) (copied 120 s a l p) in
    let z : length b ≡ 120 = ap length n ∙ length-number k d s l in
    part-put to b flow g (omega arith) e ∙ ap (λ (x : List ℕ). put_at to x flow) (n ∙ ap (with_number k d) same)

-- A record r, and what was read of it: its bytes, its kind, and whether it stays.
module _ (numbers r s : List ℕ) (k : Kind) (t : Bool) (m : Kept) (f : List ℕ) (same : s ≡ r) (kind : k ≡ kind_in s) (asked : t ≡ stays numbers s) where
  -- One that stays is kept, and put behind those kept before it.
  pub record-stays : t ≡ true → (d : ℕ) (g : List ℕ) → d ≡ next_deleghe m.deleghe k → g ≡ put_at (m.records * 120) (with_number k d r) f → (◌≡◌ {A = Kept} (record { records = m.records + 1; deleghe = d }) (kept_after numbers r m)) × (g ≡ moved_up numbers r m f)
  unfolding kept_after moved_up
  record-stays e d g n p =
      let y : stays numbers r ≡ true = rw (← same) (sym asked ∙ e) in
      let z : k ≡ kind_in r = kind ∙ ap kind_in same in
      (rw (y, n, z), rw y (p ∙ rw (n, z)))

  -- One that goes leaves what is kept, and the flow.
  pub record-goes : t ≡ false → (m ≡ kept_after numbers r m) × (f ≡ moved_up numbers r m f)
  unfolding kept_after moved_up
  record-goes e =
      let y : stays numbers r ≡ false = rw (← same) (sym asked ∙ e) in
      (rw y, rw y)

-- Before the first record none is kept.
pub closed-start : (numbers flow : List ℕ) → ClosedSoFar numbers flow flow 0 (record { records = 0; deleghe = 0 })
unfolding closed_up
closed-start numbers flow =
    record {
      done = [];
      many = refl;
      ahead = omega arith;
      few = omega arith;
      counted = omega arith;
      front = refl;
      rest = rw (rest-start flow);
    }

module _ (numbers flow₀ flow : List ℕ) (k : ℕ) (m : Kept) (w : ClosedSoFar numbers flow₀ flow k m) where
  -- The flow has as many bytes as it came with.
  pub closed-length : length flow ≡ length flow₀
  closed-length =
      let a = w.ahead in
      let b = w.few in
      let l = w.many in
      ap length w.front ∙ rw (length-append, length-drop) (omega arith)

  -- Behind the records kept it is as it came.
  unmoved : (j : ℕ) → m.records * 120 ≤ j → drop j flow ≡ drop j flow₀
  unmoved j h =
      let e : length w.done + (j - m.records * 120) ≡ j = omega (arith, w.many) in
      let g : m.records * 120 + (j - m.records * 120) ≡ j = omega arith in
      ap (drop j) w.front ∙ (ap (λ (n : ℕ). drop n (w.done ++ drop (m.records * 120) flow₀)) (sym e) ∙ (drop-append-add w.done (drop (m.records * 120) flow₀) (j - m.records * 120) ∙ (drop-drop (j - m.records * 120) (m.records * 120) flow₀ ∙ ap (λ (n : ℕ). drop n flow₀) g)))

  -- After the last record the records that stay stand at the front.
  pub closed-end : length flow₀ / 120 ≤ k → (m.records * 120 ≡ length (closed_up numbers flow₀)) × (m.records * 120 ≤ length flow₀) × (flow ≡ closed_up numbers flow₀ ++ drop (m.records * 120) flow₀)
  unfolding kept_of renumbered flat
  closed-end h =
      let e : closed_up numbers flow₀ ≡ w.done = w.rest ∙ rw (rest_end flow₀ k h) (append-nil w.done) in
      (rw e (sym w.many), omega (arith, w.ahead, w.few), rw e w.front)

  -- A record is left.
  module _ (more : k < length flow₀ / 120) where
    abbrev r : List ℕ
    r = record_from flow k

    -- It with its new number.
    abbrev new : List ℕ
    new = with_number (kind_in r) (next_deleghe m.deleghe (kind_in r)) r

    -- It is the one that the flow came with.
    record-unmoved : r ≡ record_from flow₀ k
    record-unmoved = ap (take 120) (unmoved (k * 120) (omega (arith, w.few)))

    -- There is room to keep it.
    pub closed-reached : Whole flow₀ → Reached flow k m
    closed-reached h =
        let l = closed-length in
        record {
          whole = record { short = omega arith; some = omega arith; even = rw l h.even };
          more = rw l more;
          few = w.few;
          counted = w.counted;
        }

    -- With its new number it has 120 bytes still.
    new-sized : length new ≡ 120
    new-sized = length-number (kind_in r) (next_deleghe m.deleghe (kind_in r)) r (rw record-unmoved (record-sized flow₀ k more))

    -- Put behind those kept it is the last of them.
    put-behind : put_at (m.records * 120) new flow ≡ (w.done ++ new) ++ drop ((m.records + 1) * 120) flow₀
    put-behind =
        let e : m.records * 120 + length new ≡ (m.records + 1) * 120 = omega (arith, new-sized) in
        let t : take (m.records * 120) flow ≡ w.done = ap (take (m.records * 120)) w.front ∙ take_at w.done (drop (m.records * 120) flow₀) (m.records * 120) w.many in
        rw (put_is (m.records * 120) new flow, e, t, unmoved ((m.records + 1) * 120) (omega arith), append_assoc)

    -- The records left are this one and those behind it.
    rest_from : rest_of flow₀ k ≡ r ∷ rest_of flow₀ (k + 1)
    rest_from = rest-on flow₀ k more ∙ ap (λ (x : List ℕ). x ∷ rest_of flow₀ (k + 1)) (sym record-unmoved)

    -- It is kept or goes, and the pass goes on behind it.
    pub closed_on : ClosedSoFar numbers flow₀ (moved_up numbers r m flow) (k + 1) (kept_after numbers r m)
    unfolding moved_up kept_after kept_of renumbered flat
    closed_on = go (stays numbers r) refl
      where
        go : (t : Bool) → stays numbers r ≡ t → ClosedSoFar numbers flow₀ (cond t (put_at (m.records * 120) new flow) flow) (k + 1) (cond t (record { records = m.records + 1; deleghe = next_deleghe m.deleghe (kind_in r) }) m)
        go true e =
            record {
              done = w.done ++ new;
              many = rw length-append (omega (arith, w.many, new-sized));
              ahead = omega arith;
              few = omega (arith, w.few);
              counted = deleghe-on k m.deleghe (kind_in r) w.counted;
              front = put-behind;
              rest = w.rest ∙ rw (rest_from, e, append_assoc);
            }
        go false e =
            record {
              done = w.done;
              many = w.many;
              ahead = omega arith;
              few = omega (arith, w.few);
              counted = omega (arith, w.counted);
              front = w.front;
              rest = w.rest ∙ rw (rest_from, e);
            }
