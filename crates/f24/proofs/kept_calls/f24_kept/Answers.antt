-- `f24::f24_kept` meets its contract: rooms of which one is too short stay as they came; else the record's holds that of an accepted flow, or the answer's the refusal.
use mathlib.Core.Path.{refl, sym, ap, ◌∙◌}
use native.Mathlib.Omega.{arith}
use Rattle.judge.specs.Refusal.{refusal_of}
use Rattle.judge.proofs.FirstFault.{judgement-number}
use Rattle.kept.specs.declared.Keeping.{Keeping}
use Rattle.kept.specs.Keeping.{keeping}
use Rattle.f24.specs.LinkedKept.{kept_code, kept_record, kept_answer}
use Rattle.f24.proofs.Rooms.{overlay-none}
use Rattle.f24.proofs.RecordRooms.{short-record, short-answer, long-enough, done-leaves, refused-leaves}
use Rattle.f24.proofs.kept_calls.f24_kept.Goals as goal
use Rattle.f24.proofs.kept_calls.f24_kept.Goals.{then-kept-lt-SUMS_ROOM-via-then-kept-lt-SUMS_ROOM, then-kept-lt-SUMS_ROOM-via-else-kept-lt-SUMS_ROOM+then-answer-lt-ANSWER_ROOM}

pub returns-then-kept-lt-SUMS_ROOM : goal.returns-then-kept-lt-SUMS_ROOM
unfolding kept_code kept_record kept_answer
returns-then-kept-lt-SUMS_ROOM c =
    let a = c.args in
    elim c.then-kept-lt-SUMS_ROOM.branch [
      | then-kept-lt-SUMS_ROOM-via-then-kept-lt-SUMS_ROOM w ↦ rw (short-record a.kept.now a.answer.now (omega (arith, w.if-kept-lt-SUMS_ROOM.true))) (refl, refl, refl)
      | then-kept-lt-SUMS_ROOM-via-else-kept-lt-SUMS_ROOM+then-answer-lt-ANSWER_ROOM w ↦ rw (short-answer a.kept.now a.answer.now (omega (arith, w.if-kept-lt-SUMS_ROOM.false)) (omega (arith, w.if-answer-lt-ANSWER_ROOM.true))) (refl, refl, refl)
    ]

pub returns-in-Err : goal.returns-in-Err
unfolding kept_code kept_record kept_answer keeping
returns-in-Err c =
    let a = c.args in
    let long = long-enough a.kept.now a.answer.now (omega (arith, c.if-kept-lt-SUMS_ROOM.false)) (omega (arith, c.if-answer-lt-ANSWER_ROOM.false)) in
    let e = ap (λ (k : Keeping). k.verdict) (sym c.keep-made.ensures) ∙ c.in-Err.is in
    rw c.put_refusal.ensures.number (refused-leaves _ _ long _ _ _ _ _ _ (ap refusal_of e) (judgement-number _ e).0 c.put_refusal.ensures.room)

pub returns : goal.returns
unfolding kept_code kept_record kept_answer
returns c =
    let a = c.args in
    let long = long-enough a.kept.now a.answer.now (omega (arith, c.if-kept-lt-SUMS_ROOM.false)) (omega (arith, c.if-answer-lt-ANSWER_ROOM.false)) in
    let e = ap (λ (k : Keeping). k.verdict) (sym c.keep-made.ensures) ∙ c.in_default.is in
    done-leaves _ _ long _ _ _ (ap refusal_of e) (ap (λ (k : Keeping). k.kept) c.keep-made.ensures) c.put_sums.ensures (sym (overlay-none _))
