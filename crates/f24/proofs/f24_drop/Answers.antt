-- `f24::f24_drop` meets its contract: with an answer that is too short the flow and the answer stay as they came; else the flow is what `drop_deleghe` leaves, and
-- the answer holds the new length or the refusal.
use Rattle.std.specs.Prelude.{ℕ, Result}
use mathlib.Core.Path.{refl, ap, ◌∙◌}
use borrow.Author.Tests.{lt-ltb, le-ltb}
use Rattle.dropping.proofs.Refusals.{dropping-number}
use Rattle.state.specs.Numbers.{overlay}
use Rattle.refusal.specs.declared.Refusal.{Refusal}
use Rattle.answers.specs.Numbers.{answer_code, number_or_refusal}
use Rattle.f24.specs.Linked.{dropped_numbers, drop_code, drop_flow, drop_answer}
use Rattle.dropping.specs.Dropping.{refusal_dropped}
use Rattle.f24.proofs.Rooms.{short-code, short-room, number-answered}
use Rattle.f24.proofs.f24_drop.Goals as goal

pub returns-then-answer-lt-DROP_ROOM : goal.returns-then-answer-lt-DROP_ROOM
unfolding drop_code drop_flow drop_answer
returns-then-answer-lt-DROP_ROOM c = (short-code _ _ c.if-answer-lt-DROP_ROOM.true, rw (lt-ltb _ _ c.if-answer-lt-DROP_ROOM.true), short-room _ _ c.if-answer-lt-DROP_ROOM.true)

pub returns : goal.returns
unfolding drop_code drop_flow drop_answer
returns c =
    let h = c.if-answer-lt-DROP_ROOM.false in
    let t = number-answered _ refusal_dropped dropped_numbers (λ k. (refl, refl)) (λ why. refl) _ (λ why e. dropping-number _ _ e) h (c.put_number.ensures.code ∙ ap answer_code c.drop_deleghe.ensures.0) (c.put_number.ensures.room ∙ ap (λ (a : Result ℕ Refusal). overlay (number_or_refusal a) c.args.answer.now) c.drop_deleghe.ensures.0) in
    (t.0, rw (le-ltb _ _ h) c.drop_deleghe.ensures.1, t.1)
