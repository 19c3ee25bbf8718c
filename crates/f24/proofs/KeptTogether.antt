-- A call with a record that returns 0 leaves the record of the flow in its room: what the next call reads there is the sums of the flow as it is then.
use Rattle.std.specs.Prelude.{Err}
use Prim.Native.Nat.{ℕ, ◌≤◌}
use mathlib.Core.Path.{◌≡◌, refl, sym, ap, ◌∙◌}
use mathlib.Core.Bool.{Bool, true, false, cond}
use mathlib.Core.List.{List}
use borrow.Author.Tests.{eq-eqb}
use native.Mathlib.Omega.{arith}
use lib.ListN.{length, take, get_or}
use Rattle.amounts.specs.declared.Sums.{Sums}
use Rattle.state.specs.Numbers.{overlay, sums_numbers, sums_at}
use Rattle.state.proofs.Rooms.{five-sums, five-of}
use Rattle.judge.specs.Refusal.{Verdict, refusal_of}
use Rattle.judge.specs.Refusal as Judge
use Rattle.refusal.specs.declared.Refusal.{Refusal}
use Rattle.judge.specs.Flow.{judged}
use Rattle.judge.proofs.FirstFault.{judgement-number}
use Rattle.correct.specs.Answers.{Correction}
use Rattle.correct.specs.Answers as Correct
use Rattle.correct.specs.Correction.{refusal_made, correction_of, corrected_bytes}
use Rattle.mend.specs.Answers.{Mending}
use Rattle.mend.specs.Answers as Mend
use Rattle.mend.specs.Mending.{refusal_mended, mending_of, mended_flow, mended_list}
use Rattle.dropping.specs.Answers.{Dropping}
use Rattle.dropping.specs.Answers as Drop
use Rattle.dropping.specs.Dropping.{refusal_dropped, dropping_of, dropped_flow}
use Rattle.sums.specs.declared.KeptSums.{KeptSums}
use Rattle.sums.specs.LineSums.{sums_in, kept_of}
use Rattle.kept.specs.Keeping.{keeping, correction_with, corrected_with, correction_kept, mending_with, mended_with, mending_kept, dropping_with, dropped_with, dropping_kept}
use Rattle.kept.proofs.Answered.{correction-number, mending-number, dropping-number}
use Rattle.kept.proofs.HandedBack.{kept-made, correction-made, mending-made, dropping-made, correction-plain, mending-plain, dropping-plain}
use Rattle.f24.specs.Linked.{answer_numbers, dropped_numbers}
use Rattle.f24.specs.LinkedKept.{too_short, code_unless, left_unless, kept_in, kept_written, kept_code, kept_record, correct_kept_code, correct_kept_flow, correct_kept_record, rebalance_kept_code, rebalance_kept_flow, rebalance_kept_list, rebalance_kept_record, drop_kept_code, drop_kept_flow, drop_kept_record, drop_kept_answer}

-- The record that is written to a room is read back from it.
pub record-back : (s : List Sums) (room : List ℕ) → length s ≡ 5 → kept_in (overlay (sums_numbers s) room) ≡ record { sums = s }
unfolding overlay sums_at
record-back s room h = rw (five-sums s h) (ap (λ (l : List Sums). record { sums = l }) (five-of s h))

-- So is the record of a flow.
flow-back : (f room : List ℕ) → kept_in (overlay (sums_numbers (kept_of f).sums) room) ≡ kept_of f
unfolding sums_in
flow-back f room = record-back (kept_of f).sums room refl

-- A call that refuses as x says, and returns 0.
module _ (kept answer : List ℕ) (x : Refusal) (e : code_unless kept answer x.number ≡ 0) where
  -- It refuses nothing.
  done-number : x.number ≡ 0
  done-number = go (too_short kept answer) e
    where
      go : (b : Bool) → cond b 100 x.number ≡ 0 → x.number ≡ 0
      go true i = absurd (omega arith)
      go false i = i

  -- What is new stands in the memory that it is lent.
  done-new : (old new : List ℕ) → left_unless kept answer old new ≡ new
  done-new old new = go (too_short kept answer) e
    where
      go : (b : Bool) → cond b 100 x.number ≡ 0 → cond b old new ≡ new
      go true i = absurd (omega arith)
      go false i = refl

  -- The record of a flow that it hands back is read from the room.
  room-has : (f : List ℕ) {k : KeptSums} → k ≡ kept_of f → kept_in (left_unless kept answer kept (kept_written x k kept)) ≡ kept_of f
  unfolding kept_written
  room-has f i = ap kept_in (done-new kept _ ∙ rw (eq-eqb x.number 0 done-number, i)) ∙ flow-back f kept

  -- So is that of the flow as it is left.
  room-has-new : (f new : List ℕ) {k : KeptSums} → k ≡ kept_of new → kept_in (left_unless kept answer kept (kept_written x k kept)) ≡ kept_of (left_unless kept answer f new)
  room-has-new f new i = room-has new i ∙ ap kept_of (sym (done-new f new))

-- An answer without refusal: accepted, made, mended or dropped.
none-accepted : (f : List ℕ) → (refusal_of (judged f).verdict).number ≡ 0 → (judged f).verdict ≡ Judge.Accepted
none-accepted f e = go (judged f).verdict refl e
  where
    go : (v : Verdict) → (judged f).verdict ≡ v → (refusal_of v).number ≡ 0 → v ≡ Judge.Accepted
    go Judge.Accepted q i = refl
    go (Err why) q i = absurd (omega (arith, (judgement-number f q).0))

none_made : (a : Correction) → ((n r p : ℕ) → a ≡ Correct.Refused n r p → 1 ≤ n) → (refusal_made a).number ≡ 0 → a ≡ Correct.Made
none_made Correct.Made h e = refl
none_made (Err why) h e = absurd (omega (arith, h why.number why.«record» why.position refl))

none-mended : (a : Mending) → ((n r p : ℕ) → a ≡ Mend.Refused n r p → 1 ≤ n) → (refusal_mended a).number ≡ 0 → (m : ℕ) × (a ≡ Mend.Mended m)
none-mended (Mend.Mended m) h e = (m, refl)
none-mended (Err why) h e = absurd (omega (arith, h why.number why.«record» why.position refl))

none_dropped : (a : Dropping) → ((n r p : ℕ) → a ≡ Drop.Refused n r p → 1 ≤ n) → (refusal_dropped a).number ≡ 0 → (m : ℕ) × (a ≡ Drop.Dropped m)
none_dropped (Drop.Dropped m) h e = (m, refl)
none_dropped (Err why) h e = absurd (omega (arith, h why.number why.«record» why.position refl))

-- `f24_kept`: the room has the record of the flow.
pub kept-own : (f kept answer : List ℕ) → kept_code f kept answer ≡ 0 → kept_in (kept_record f kept answer) ≡ kept_of f
unfolding kept_code kept_record keeping
kept-own f kept answer e =
    let x = refusal_of (judged f).verdict in
    room-has kept answer x e f (kept-made f (none-accepted f (done-number kept answer x e)))

-- `f24_correct_kept`: that of the flow as it is corrected.
pub correct-kept-own : (f : List ℕ) (d subtype n debit credit : ℕ) (kept answer : List ℕ) → correct_kept_code f d subtype n debit credit kept answer ≡ 0 →
    kept_in (correct_kept_record f d subtype n debit credit kept answer) ≡ kept_of (correct_kept_flow f d subtype n debit credit kept answer)
unfolding correct_kept_code correct_kept_record correct_kept_flow correction_kept
correct-kept-own f d subtype n debit credit kept answer e =
    let x = refusal_made (correction_with (kept_in kept) f d subtype n debit credit) in
    let made = none_made (correction_with (kept_in kept) f d subtype n debit credit) (λ m r p. correction-number (kept_in kept) f d subtype n debit credit) (done-number kept answer x e) in
    room-has-new kept answer x e f (corrected_with (kept_in kept) f d subtype n debit credit) (correction-made (kept_in kept) f d subtype n debit credit made).1

-- `f24_rebalance_kept`: that of the flow as it is rebalanced.
pub rebalance-kept-own : (f list kept answer : List ℕ) → rebalance_kept_code f list kept answer ≡ 0 → kept_in (rebalance_kept_record f list kept answer) ≡ kept_of (rebalance_kept_flow f list kept answer)
unfolding rebalance_kept_code rebalance_kept_record rebalance_kept_flow mending_kept
rebalance-kept-own f list kept answer e =
    let x = refusal_mended (mending_with (kept_in kept) f list) in
    let made = none-mended (mending_with (kept_in kept) f list) (λ m r p. mending-number (kept_in kept) f list) (done-number kept answer x e) in
    room-has-new kept answer x e f (mended_with (kept_in kept) f list) (mending-made (kept_in kept) f list made.1).2

-- `f24_drop_kept`: that of the flow that is left, which is as long as the answer says.
pub drop-kept-own : (f numbers kept answer : List ℕ) → drop_kept_code f numbers kept answer ≡ 0 →
    kept_in (drop_kept_record f numbers kept answer) ≡ kept_of (take (get_or (drop_kept_answer f numbers kept answer) 0 0) (drop_kept_flow f numbers kept answer))
unfolding drop_kept_code drop_kept_record drop_kept_flow drop_kept_answer dropping_kept answer_numbers overlay
drop-kept-own f numbers kept answer e =
    let a = dropping_with (kept_in kept) f numbers in
    let x = refusal_dropped a in
    let made = none_dropped a (λ m r p. dropping-number (kept_in kept) f numbers) (done-number kept answer x e) in
    let left = done-new kept answer x e answer _ ∙ ap (λ (b : Dropping). overlay (answer_numbers (refusal_dropped b) (dropped_numbers b)) answer) made.1 in
    room-has kept answer x e (take made.0 (dropped_with (kept_in kept) f numbers)) (dropping-made (kept_in kept) f numbers made.1).1
    ∙ (ap (λ (g : List ℕ). kept_of (take made.0 g)) (sym (done-new kept answer x e f _)) ∙ ap (λ (l : List ℕ). kept_of (take (get_or l 0 0) (drop_kept_flow f numbers kept answer))) (sym left))

-- What the next call with such a room returns and leaves is what the plain call says: a correction
pub next-correct : (f : List ℕ) (d subtype n debit credit : ℕ) (kept answer : List ℕ) → kept_in kept ≡ kept_of f →
    (correct_kept_code f d subtype n debit credit kept answer ≡ code_unless kept answer (refusal_made (correction_of f d subtype n debit credit)).number)
    × (correct_kept_flow f d subtype n debit credit kept answer ≡ left_unless kept answer f (corrected_bytes f d subtype n debit credit))
unfolding correct_kept_code correct_kept_flow correction_kept
next-correct f d subtype n debit credit kept answer e =
    let w = correction-plain (kept_in kept) f d subtype n debit credit e in
    (ap (λ (a : Correction). code_unless kept answer (refusal_made a).number) w.0, ap (left_unless kept answer f) w.1)

-- a rebalancing
pub next-rebalance : (f list kept answer : List ℕ) → kept_in kept ≡ kept_of f →
    (rebalance_kept_code f list kept answer ≡ code_unless kept answer (refusal_mended (mending_of f list)).number)
    × (rebalance_kept_flow f list kept answer ≡ left_unless kept answer f (mended_flow f list))
    × (rebalance_kept_list f list kept answer ≡ left_unless kept answer list (mended_list f list))
unfolding rebalance_kept_code rebalance_kept_flow rebalance_kept_list mending_kept
next-rebalance f list kept answer e =
    let w = mending-plain (kept_in kept) f list e in
    (ap (λ (a : Mending). code_unless kept answer (refusal_mended a).number) w.0, ap (left_unless kept answer f) w.1, ap (left_unless kept answer list) w.2)

-- a dropping
pub next-drop : (f numbers kept answer : List ℕ) → kept_in kept ≡ kept_of f →
    (drop_kept_code f numbers kept answer ≡ code_unless kept answer (refusal_dropped (dropping_of f numbers)).number)
    × (drop_kept_flow f numbers kept answer ≡ left_unless kept answer f (dropped_flow f numbers))
unfolding drop_kept_code drop_kept_flow dropping_kept
next-drop f numbers kept answer e =
    let w = dropping-plain (kept_in kept) f numbers e in
    (ap (λ (a : Dropping). code_unless kept answer (refusal_dropped a).number) w.0, ap (left_unless kept answer f) w.1)
