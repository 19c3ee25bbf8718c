-- `f24::f24_rebalance_kept` meets its contract: where a room is too short all stays as it came; else flow and list are what `rebalance_kept` leaves, the record's room
-- holds the record that it hands back, and the answer's the number of fields listed or the refusal.
use mathlib.Core.Path.{refl, sym, ap, ◌∙◌}
use native.Mathlib.Omega.{arith}
use Rattle.mend.specs.Mending.{refusal_mended}
use Rattle.kept.specs.Answers.{MendingKept}
use Rattle.kept.specs.Keeping.{mending_kept}
use Rattle.kept.proofs.Answered.{mending-number}
use Rattle.f24.specs.LinkedKept.{rebalance_kept_code, rebalance_kept_flow, rebalance_kept_list, rebalance_kept_record, rebalance_kept_answer}
use Rattle.f24.proofs.RecordRooms.{short-record, short-answer, long-enough, done-leaves, refused-leaves, beside-list}
use Rattle.f24.proofs.kept_calls.f24_rebalance_kept.Goals as goal
use Rattle.f24.proofs.kept_calls.f24_rebalance_kept.Goals.{then-kept-lt-SUMS_ROOM-via-then-kept-lt-SUMS_ROOM, then-kept-lt-SUMS_ROOM-via-else-kept-lt-SUMS_ROOM+then-answer-lt-ANSWER_ROOM}

pub returns-then-kept-lt-SUMS_ROOM : goal.returns-then-kept-lt-SUMS_ROOM
unfolding rebalance_kept_code rebalance_kept_flow rebalance_kept_list rebalance_kept_record rebalance_kept_answer
returns-then-kept-lt-SUMS_ROOM c =
    let a = c.args in
    elim c.then-kept-lt-SUMS_ROOM.branch [
      | then-kept-lt-SUMS_ROOM-via-then-kept-lt-SUMS_ROOM w ↦ rw (short-record a.kept.now a.answer.now (omega (arith, w.if-kept-lt-SUMS_ROOM.true))) (refl, refl, refl, refl, refl)
      | then-kept-lt-SUMS_ROOM-via-else-kept-lt-SUMS_ROOM+then-answer-lt-ANSWER_ROOM w ↦ rw (short-answer a.kept.now a.answer.now (omega (arith, w.if-kept-lt-SUMS_ROOM.false)) (omega (arith, w.if-answer-lt-ANSWER_ROOM.true))) (refl, refl, refl, refl, refl)
    ]

pub returns-in-Ok : goal.returns-in-Ok
unfolding rebalance_kept_code rebalance_kept_flow rebalance_kept_list rebalance_kept_record rebalance_kept_answer
returns-in-Ok c =
    let a = c.args in
    let long = long-enough a.kept.now a.answer.now (omega (arith, c.if-kept-lt-SUMS_ROOM.false)) (omega (arith, c.if-answer-lt-ANSWER_ROOM.false)) in
    let d = rw c.sums_at-sums.ensures at c.rebalance_kept-done.ensures in
    let e = ap (λ (a : MendingKept). a.answer) (sym d.0) ∙ c.in-Ok.is in
    beside-list _ _ long _ _ _ _ _ d.1 d.2 (done-leaves _ _ long _ _ _ (ap refusal_mended e) (ap (λ (a : MendingKept). a.kept) d.0) c.put_sums.ensures (rw e c.put.ensures))

pub returns-in-Err : goal.returns-in-Err
unfolding rebalance_kept_code rebalance_kept_flow rebalance_kept_list rebalance_kept_record rebalance_kept_answer mending_kept
returns-in-Err c =
    let a = c.args in
    let long = long-enough a.kept.now a.answer.now (omega (arith, c.if-kept-lt-SUMS_ROOM.false)) (omega (arith, c.if-answer-lt-ANSWER_ROOM.false)) in
    let d = rw c.sums_at-sums.ensures at c.rebalance_kept-done.ensures in
    let e = ap (λ (a : MendingKept). a.answer) (sym d.0) ∙ c.in-Err.is in
    rw c.put_refusal.ensures.number (beside-list _ _ long _ _ _ _ _ d.1 d.2 (refused-leaves _ _ long _ _ _ _ _ _ (ap refusal_mended e) (mending-number _ _ _ e) c.put_refusal.ensures.room))
