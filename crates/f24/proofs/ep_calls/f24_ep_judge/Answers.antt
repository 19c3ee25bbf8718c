-- `f24::f24_ep_judge` meets its contract: a room that is too short stays as it came, and a longer one holds the acceptance or the refusal.
use mathlib.Core.Path.{sym, ◌∙◌}
use Rattle.f24.specs.LinkedEp.{ep_code, ep_room}
use Rattle.f24.proofs.Rooms.{short-code, short-room, long-code, long-room}
use Rattle.f24.proofs.ep_calls.f24_ep_judge.Goals as goal

pub returns-then-answer-lt-EP_ROOM : goal.returns-then-answer-lt-EP_ROOM
unfolding ep_code ep_room
returns-then-answer-lt-EP_ROOM c = (short-code _ _ c.if-answer-lt-EP_ROOM.true, short-room _ _ c.if-answer-lt-EP_ROOM.true)

pub returns-in-Ok : goal.returns-in-Ok
unfolding ep_code ep_room
returns-in-Ok c =
    let e = sym c.ep_judge.ensures ∙ c.in-Ok.is in
    let h = c.if-answer-lt-EP_ROOM.false in
    (long-code _ h (rw e), rw e (long-room _ _ h c.put.ensures))

pub returns-in-Err : goal.returns-in-Err
unfolding ep_code ep_room
returns-in-Err c =
    let e = sym c.ep_judge.ensures ∙ c.in-Err.is in
    let h = c.if-answer-lt-EP_ROOM.false in
    (long-code _ h (rw e c.put_refusal.ensures.number), rw e (long-room _ _ h c.put_refusal.ensures.room))
