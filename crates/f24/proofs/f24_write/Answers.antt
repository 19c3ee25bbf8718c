-- `f24::f24_write` meets its contract: with an answer that is too short the room and the answer stay as they came; else the room is what `write` leaves, and the
-- answer holds the flow's length or the refusal.
use Rattle.std.specs.Prelude.{ℕ, Result}
use mathlib.Core.Path.{refl, ap, ◌∙◌}
use borrow.Author.Tests.{lt-ltb, le-ltb}
use Rattle.write.proofs.NeverEight.{writing-number}
use Rattle.state.specs.Numbers.{overlay}
use Rattle.refusal.specs.declared.Refusal.{Refusal}
use Rattle.answers.specs.Numbers.{answer_code, number_or_refusal}
use Rattle.f24.specs.Linked.{written_numbers, write_code, write_room, write_answer}
use Rattle.write.specs.Writing.{refusal_written}
use Rattle.f24.proofs.Rooms.{short-code, short-room, number-answered}
use Rattle.f24.proofs.f24_write.Goals as goal

pub returns-then-answer-lt-WRITE_ROOM : goal.returns-then-answer-lt-WRITE_ROOM
unfolding write_code write_room write_answer
returns-then-answer-lt-WRITE_ROOM c = (short-code _ _ c.if-answer-lt-WRITE_ROOM.true, rw (lt-ltb _ _ c.if-answer-lt-WRITE_ROOM.true), short-room _ _ c.if-answer-lt-WRITE_ROOM.true)

pub returns : goal.returns
unfolding write_code write_room write_answer
returns c =
    let h = c.if-answer-lt-WRITE_ROOM.false in
    let t = number-answered _ refusal_written written_numbers (λ k. (refl, refl)) (λ why. refl) _ (λ why e. writing-number _ _ e) h (c.put_number.ensures.code ∙ ap answer_code c.write.ensures.0) (c.put_number.ensures.room ∙ ap (λ (a : Result ℕ Refusal). overlay (number_or_refusal a) c.args.answer.now) c.write.ensures.0) in
    (t.0, rw (le-ltb _ _ h) c.write.ensures.1, t.1)
