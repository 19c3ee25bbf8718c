-- A call with a record that does not return 0, whether it is refused or a room is too short, leaves the record's room, the flow and the list as they came.
use Rattle.std.specs.Prelude.{Err}
use Prim.Native.Nat.{ℕ, ◌≤◌}
use mathlib.Core.Path.{◌≡◌, refl}
use mathlib.Core.Bool.{Bool, true, false, cond}
use mathlib.Core.List.{List}
use borrow.Author.Tests.{ne_eqb}
use native.Mathlib.Omega.{arith}
use Rattle.refusal.specs.declared.Refusal.{Refusal}
use Rattle.correct.specs.Answers.{Correction}
use Rattle.correct.specs.Answers as Correct
use Rattle.correct.specs.Correction.{refusal_made, bytes_after, corrected_bytes}
use Rattle.mend.specs.Answers.{Mending}
use Rattle.mend.specs.Answers as Mend
use Rattle.mend.specs.Mending as Rebalancing
use Rattle.mend.specs.Mending.{refusal_mended, mended_flow, mended_list}
use Rattle.dropping.specs.Answers.{Dropping}
use Rattle.dropping.specs.Answers as Drop
use Rattle.dropping.specs.Dropping as Shortening
use Rattle.dropping.specs.Dropping.{refusal_dropped, dropped_flow}
use Rattle.sums.specs.declared.KeptSums.{KeptSums}
use Rattle.kept.specs.Keeping.{correction_with, corrected_with, correction_kept, mending_with, mended_with, listed_with, mending_kept, dropping_with, dropped_with, dropping_kept}
use Rattle.f24.specs.LinkedKept.{too_short, code_unless, left_unless, kept_in, kept_written, kept_code, kept_record, correct_kept_code, correct_kept_flow, correct_kept_record, rebalance_kept_code, rebalance_kept_flow, rebalance_kept_list, rebalance_kept_record, drop_kept_code, drop_kept_flow, drop_kept_record}

-- A call that refuses as x says, and does not return 0.
module _ (kept answer : List ℕ) (x : Refusal) {m : ℕ} (h : 1 ≤ m) (e : code_unless kept answer x.number ≡ m) where
  -- What every refusal leaves as it came stays so.
  lent-stays : (old new : List ℕ) → (1 ≤ x.number → new ≡ old) → left_unless kept answer old new ≡ old
  lent-stays old new stays = go (too_short kept answer) e
    where
      go : (b : Bool) → cond b 100 x.number ≡ m → cond b old new ≡ old
      go true i = refl
      go false i = stays (omega arith)

  -- The record's room is such.
  pub refused-room-stays : (k : KeptSums) → left_unless kept answer kept (kept_written x k kept) ≡ kept
  unfolding kept_written
  refused-room-stays k = lent-stays kept _ (λ i. rw (ne_eqb x.number 0 (λ z. omega arith)))

-- So are the flow of a correction, flow and list of a rebalancing, and the flow of a dropping.
made-stays : (a : Correction) (new old : List ℕ) → 1 ≤ (refusal_made a).number → bytes_after a new old ≡ old
made-stays Correct.Made new old h = absurd (omega arith)
made-stays (Err why) new old h = refl

mended-stays : (a : Mending) (new old : List ℕ) → 1 ≤ (refusal_mended a).number → Rebalancing.flow_by a new old ≡ old
mended-stays (Mend.Mended n) new old h = absurd (omega arith)
mended-stays (Err why) new old h = refl

dropped-stays : (a : Dropping) (new old : List ℕ) → 1 ≤ (refusal_dropped a).number → Shortening.flow_by a new old ≡ old
dropped-stays (Drop.Dropped n) new old h = absurd (omega arith)
dropped-stays (Err why) new old h = refl

-- `f24_kept`: the record's room
pub kept-stays : (f kept answer : List ℕ) {m : ℕ} → 1 ≤ m → kept_code f kept answer ≡ m → kept_record f kept answer ≡ kept
unfolding kept_code kept_record
kept-stays f kept answer h e = refused-room-stays kept answer _ h e _

-- `f24_correct_kept`: the record's room, and the flow
pub correct-kept-stays : (f : List ℕ) (d subtype n debit credit : ℕ) (kept answer : List ℕ) {m : ℕ} → 1 ≤ m → correct_kept_code f d subtype n debit credit kept answer ≡ m →
    (correct_kept_record f d subtype n debit credit kept answer ≡ kept) × (correct_kept_flow f d subtype n debit credit kept answer ≡ f)
unfolding correct_kept_code correct_kept_record correct_kept_flow correction_kept corrected_with
correct-kept-stays f d subtype n debit credit kept answer h e =
    let a = correction_with (kept_in kept) f d subtype n debit credit in
    (refused-room-stays kept answer _ h e _, lent-stays kept answer (refusal_made a) h e f _ (made-stays a (corrected_bytes f d subtype n debit credit) f))

-- `f24_rebalance_kept`: the record's room, the flow, and the list
pub rebalance-kept-stays : (f list kept answer : List ℕ) {m : ℕ} → 1 ≤ m → rebalance_kept_code f list kept answer ≡ m →
    (rebalance_kept_record f list kept answer ≡ kept) × (rebalance_kept_flow f list kept answer ≡ f) × (rebalance_kept_list f list kept answer ≡ list)
unfolding rebalance_kept_code rebalance_kept_record rebalance_kept_flow rebalance_kept_list mending_kept mended_with listed_with
rebalance-kept-stays f list kept answer h e =
    let a = mending_with (kept_in kept) f list in
    (refused-room-stays kept answer _ h e _, lent-stays kept answer (refusal_mended a) h e f _ (mended-stays a (mended_flow f list) f), lent-stays kept answer (refusal_mended a) h e list _ (mended-stays a (mended_list f list) list))

-- `f24_drop_kept`: the record's room, and the flow
pub drop-kept-stays : (f numbers kept answer : List ℕ) {m : ℕ} → 1 ≤ m → drop_kept_code f numbers kept answer ≡ m →
    (drop_kept_record f numbers kept answer ≡ kept) × (drop_kept_flow f numbers kept answer ≡ f)
unfolding drop_kept_code drop_kept_record drop_kept_flow dropping_kept dropped_with
drop-kept-stays f numbers kept answer h e =
    let a = dropping_with (kept_in kept) f numbers in
    (refused-room-stays kept answer _ h e _, lent-stays kept answer (refusal_dropped a) h e f _ (dropped-stays a (dropped_flow f numbers) f))
