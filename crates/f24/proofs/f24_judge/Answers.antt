-- `f24::f24_judge` meets its contract: a room that is too short stays as it came, and a longer one holds the refusal or the summary.
use mathlib.Core.Path.{sym, ap, ◌∙◌}
use Rattle.judge.specs.declared.Judgement.{Judgement}
use Rattle.f24.specs.Linked.{judge_code, judge_room}
use Rattle.f24.proofs.Rooms.{short-code, short-room, long-code, accepted-room, refused-room}
use Rattle.judge.proofs.FirstFault.{judgement-number}
use Rattle.f24.proofs.f24_judge.Goals as goal

pub returns-then-answer-lt-JUDGE_ROOM : goal.returns-then-answer-lt-JUDGE_ROOM
unfolding judge_code judge_room
returns-then-answer-lt-JUDGE_ROOM c = (short-code _ _ c.if-answer-lt-JUDGE_ROOM.true, short-room _ _ c.if-answer-lt-JUDGE_ROOM.true)

pub returns-in-Err : goal.returns-in-Err
unfolding judge_code judge_room
returns-in-Err c =
    let e = ap (λ (j : Judgement). j.verdict) (sym c.judge-judgement.ensures) ∙ c.in-Err.is in
    let h = c.if-answer-lt-JUDGE_ROOM.false in
    (long-code _ h (rw e c.put_refusal.ensures.number), rw e (refused-room _ _ _ _ _ (judgement-number _ e).0 h c.put_refusal.ensures.room))

pub returns : goal.returns
unfolding judge_code judge_room
returns c =
    let e = ap (λ (j : Judgement). j.verdict) (sym c.judge-judgement.ensures) ∙ c.in_default.is in
    let h = c.if-answer-lt-JUDGE_ROOM.false in
    (long-code _ h (rw e), accepted-room _ _ _ e h (rw (← c.judge-judgement.ensures, ← c.summary_numbers.ensures) c.put.ensures))
