-- `f24::f24_find` meets its contract: a room that is too short stays as it came, and a longer one holds the refusal or the record's number.
use Rattle.std.specs.Prelude.{ℕ, Result}
use mathlib.Core.Path.{refl, ap, ◌∙◌}
use Rattle.state.specs.Numbers.{overlay}
use Rattle.refusal.specs.declared.Refusal.{Refusal}
use Rattle.answers.specs.Numbers.{answer_code, number_or_refusal}
use Rattle.f24.specs.Linked.{found_numbers, find_code, find_room}
use Rattle.find.specs.Line.{refusal_found}
use Rattle.f24.proofs.Rooms.{short-code, short-room, number-answered}
use Rattle.find.proofs.FoundPart.{found_number}
use Rattle.f24.proofs.f24_find.Goals as goal

pub returns-then-answer-lt-FIND_ROOM : goal.returns-then-answer-lt-FIND_ROOM
unfolding find_code find_room
returns-then-answer-lt-FIND_ROOM c = (short-code _ _ c.if-answer-lt-FIND_ROOM.true, short-room _ _ c.if-answer-lt-FIND_ROOM.true)

pub returns : goal.returns
unfolding find_code find_room
returns c =
    let h = c.if-answer-lt-FIND_ROOM.false in
    let t = number-answered _ refusal_found found_numbers (λ k. (refl, refl)) (λ why. refl) _ (λ why e. found_number _ _ _ _ _ _ _ e) h (c.put_number.ensures.code ∙ ap answer_code c.find.ensures) (c.put_number.ensures.room ∙ ap (λ (a : Result ℕ Refusal). overlay (number_or_refusal a) c.args.answer.now) c.find.ensures) in
    (t.0, t.1)
