use mathlib.Core.Path.{refl, ap, ◌∙◌}
use borrow.Author.Tests.{lt-ltb, le-ltb}
use Rattle.portion.specs.declared.Portion.{Portion}
use Rattle.portion.specs.Portion.{portioned}
use Rattle.state.specs.Numbers.{overlay}
use Rattle.answers.specs.Numbers.{course_code, portion_numbers, handed_back}
use Rattle.f24.specs.Linked.{code_or, room_or, portion_code, portion_state, portion_room}
use Rattle.f24.proofs.f24_judge_portion.Goals as goal
use Rattle.f24.proofs.f24_judge_portion.Goals.{then-state-lt-STATE_ROOM-via-then-state-lt-STATE_ROOM, then-state-lt-STATE_ROOM-via-else-state-lt-STATE_ROOM+then-answer-lt-PORTION_ROOM}

pub returns-then-state-lt-STATE_ROOM : goal.returns-then-state-lt-STATE_ROOM
unfolding portion_code portion_state portion_room code_or room_or
returns-then-state-lt-STATE_ROOM c =
    elim c.then-state-lt-STATE_ROOM.branch [
      | then-state-lt-STATE_ROOM-via-then-state-lt-STATE_ROOM w ↦ rw (lt-ltb _ _ w.if-state-lt-STATE_ROOM.true) (refl, refl, refl)
      | then-state-lt-STATE_ROOM-via-else-state-lt-STATE_ROOM+then-answer-lt-PORTION_ROOM w ↦ rw (le-ltb _ _ w.if-state-lt-STATE_ROOM.false, lt-ltb _ _ w.if-answer-lt-PORTION_ROOM.true) (refl, refl, refl)
    ]

pub returns : goal.returns
unfolding portion_code portion_state portion_room code_or room_or
returns c =
    let e = c.judge_portion-part.ensures ∙ ap (portioned c.args.flow.now c.args.portion) c.progress_in.ensures in
    rw (le-ltb _ _ c.if-state-lt-STATE_ROOM.false, le-ltb _ _ c.if-answer-lt-PORTION_ROOM.false) (
      c.course_code.ensures ∙ ap (λ (a : Portion). course_code a.answer) e,
      c.hand_back.ensures ∙ ap (λ (a : Portion). handed_back a c.args.state.now) e,
      c.put_portion.ensures ∙ ap (λ (a : Portion). overlay (portion_numbers a) c.args.answer.now) e,
    )
