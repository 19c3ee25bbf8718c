-- `f24::f24_correct_kept` meets its contract: where a room is too short all stays as it came; else the flow is what `correct_kept` leaves, and the record's room holds
-- the record that it hands back, or the answer's the refusal.
use mathlib.Core.Path.{refl, sym, ap, ◌∙◌}
use native.Mathlib.Omega.{arith}
use Rattle.correct.specs.Correction.{refusal_made}
use Rattle.kept.specs.Answers.{CorrectionKept}
use Rattle.kept.specs.Keeping.{correction_kept}
use Rattle.kept.proofs.Answered.{correction-number}
use Rattle.f24.specs.LinkedKept.{correct_kept_code, correct_kept_flow, correct_kept_record, correct_kept_answer}
use Rattle.f24.proofs.Rooms.{overlay-none}
use Rattle.f24.proofs.RecordRooms.{short-record, short-answer, long-enough, done-leaves, refused-leaves, beside-flow}
use Rattle.f24.proofs.kept_calls.f24_correct_kept.Goals as goal
use Rattle.f24.proofs.kept_calls.f24_correct_kept.Goals.{then-kept-lt-SUMS_ROOM-via-then-kept-lt-SUMS_ROOM, then-kept-lt-SUMS_ROOM-via-else-kept-lt-SUMS_ROOM+then-answer-lt-ANSWER_ROOM}

pub returns-then-kept-lt-SUMS_ROOM : goal.returns-then-kept-lt-SUMS_ROOM
unfolding correct_kept_code correct_kept_flow correct_kept_record correct_kept_answer
returns-then-kept-lt-SUMS_ROOM c =
    let a = c.args in
    elim c.then-kept-lt-SUMS_ROOM.branch [
      | then-kept-lt-SUMS_ROOM-via-then-kept-lt-SUMS_ROOM w ↦ rw (short-record a.kept.now a.answer.now (omega (arith, w.if-kept-lt-SUMS_ROOM.true))) (refl, refl, refl, refl)
      | then-kept-lt-SUMS_ROOM-via-else-kept-lt-SUMS_ROOM+then-answer-lt-ANSWER_ROOM w ↦ rw (short-answer a.kept.now a.answer.now (omega (arith, w.if-kept-lt-SUMS_ROOM.false)) (omega (arith, w.if-answer-lt-ANSWER_ROOM.true))) (refl, refl, refl, refl)
    ]

pub returns-in-Ok : goal.returns-in-Ok
unfolding correct_kept_code correct_kept_flow correct_kept_record correct_kept_answer
returns-in-Ok c =
    let a = c.args in
    let long = long-enough a.kept.now a.answer.now (omega (arith, c.if-kept-lt-SUMS_ROOM.false)) (omega (arith, c.if-answer-lt-ANSWER_ROOM.false)) in
    let d = rw c.sums_at-sums.ensures at c.correct_kept-done.ensures in
    let e = ap (λ (a : CorrectionKept). a.answer) (sym d.0) ∙ c.in-Ok.is in
    beside-flow _ _ long _ _ _ _ d.1 (done-leaves _ _ long _ _ _ (ap refusal_made e) (ap (λ (a : CorrectionKept). a.kept) d.0) c.put_sums.ensures (sym (overlay-none _)))

pub returns-in-Err : goal.returns-in-Err
unfolding correct_kept_code correct_kept_flow correct_kept_record correct_kept_answer correction_kept
returns-in-Err c =
    let a = c.args in
    let long = long-enough a.kept.now a.answer.now (omega (arith, c.if-kept-lt-SUMS_ROOM.false)) (omega (arith, c.if-answer-lt-ANSWER_ROOM.false)) in
    let d = rw c.sums_at-sums.ensures at c.correct_kept-done.ensures in
    let e = ap (λ (a : CorrectionKept). a.answer) (sym d.0) ∙ c.in-Err.is in
    rw c.put_refusal.ensures.number (beside-flow _ _ long _ _ _ _ d.1 (refused-leaves _ _ long _ _ _ _ _ _ (ap refusal_made e) (correction-number _ _ _ _ _ _ _ e) c.put_refusal.ensures.room))
