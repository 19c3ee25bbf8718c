-- `f24::f24_correct` meets its contract: with a room that is too short the flow and the room stay as they came; else the flow is what
-- `correct` leaves, and the room holds the refusal, or what it held where the correction is made.
use mathlib.Core.Path.{sym, ◌∙◌}
use borrow.Author.Tests.{lt-ltb, le-ltb}
use Rattle.f24.specs.Linked.{correct_code, correct_flow, correct_room}
use Rattle.f24.proofs.Rooms.{overlay-none, short-code, short-room, long-code, answer-room, refused-room}
use Rattle.correct.proofs.Refusals.{correction-number}
use Rattle.f24.proofs.f24_correct.Goals as goal

pub returns-then-answer-lt-CORRECT_ROOM : goal.returns-then-answer-lt-CORRECT_ROOM
unfolding correct_code correct_flow correct_room
returns-then-answer-lt-CORRECT_ROOM c = (short-code _ _ c.if-answer-lt-CORRECT_ROOM.true, rw (lt-ltb _ _ c.if-answer-lt-CORRECT_ROOM.true), short-room _ _ c.if-answer-lt-CORRECT_ROOM.true)

pub returns-in-Ok : goal.returns-in-Ok
unfolding correct_code correct_flow correct_room
returns-in-Ok c =
    let e = sym c.correct.ensures.0 ∙ c.in-Ok.is in
    let h = c.if-answer-lt-CORRECT_ROOM.false in
    (long-code _ h (rw e), rw (le-ltb _ _ h) c.correct.ensures.1, rw e (answer-room _ _ h (sym (overlay-none _))))

pub returns-in-Err : goal.returns-in-Err
unfolding correct_code correct_flow correct_room
returns-in-Err c =
    let e = sym c.correct.ensures.0 ∙ c.in-Err.is in
    let h = c.if-answer-lt-CORRECT_ROOM.false in
    (long-code _ h (rw e c.put_refusal.ensures.number), rw (le-ltb _ _ h) c.correct.ensures.1, rw e (refused-room _ _ _ _ _ (correction-number _ _ _ _ _ _ e) h c.put_refusal.ensures.room))
