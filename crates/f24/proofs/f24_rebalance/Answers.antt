-- `f24::f24_rebalance` meets its contract: with an answer that is too short the flow, the list and the answer stay as they came; else flow and list are what `mend`
-- leaves, and the answer holds the number of fields listed or the refusal.
use Rattle.std.specs.Prelude.{ℕ, Result}
use mathlib.Core.Path.{refl, ap, ◌∙◌}
use borrow.Author.Tests.{lt-ltb, le-ltb}
use Rattle.mend.proofs.Answered.{mending-number}
use Rattle.state.specs.Numbers.{overlay}
use Rattle.refusal.specs.declared.Refusal.{Refusal}
use Rattle.answers.specs.Numbers.{answer_code, number_or_refusal}
use Rattle.f24.specs.Linked.{mended_numbers, rebalance_code, rebalance_flow, rebalance_list, rebalance_answer}
use Rattle.mend.specs.Mending.{refusal_mended}
use Rattle.f24.proofs.Rooms.{short-code, short-room, number-answered}
use Rattle.f24.proofs.f24_rebalance.Goals as goal

pub returns-then-answer-lt-REBALANCE_ROOM : goal.returns-then-answer-lt-REBALANCE_ROOM
unfolding rebalance_code rebalance_flow rebalance_list rebalance_answer
returns-then-answer-lt-REBALANCE_ROOM c = (short-code _ _ c.if-answer-lt-REBALANCE_ROOM.true, rw (lt-ltb _ _ c.if-answer-lt-REBALANCE_ROOM.true), rw (lt-ltb _ _ c.if-answer-lt-REBALANCE_ROOM.true), short-room _ _ c.if-answer-lt-REBALANCE_ROOM.true)

pub returns : goal.returns
unfolding rebalance_code rebalance_flow rebalance_list rebalance_answer
returns c =
    let h = c.if-answer-lt-REBALANCE_ROOM.false in
    let t = number-answered _ refusal_mended mended_numbers (λ k. (refl, refl)) (λ why. refl) _ (λ why e. mending-number _ _ e) h (c.put_number.ensures.code ∙ ap answer_code c.mend.ensures.0) (c.put_number.ensures.room ∙ ap (λ (a : Result ℕ Refusal). overlay (number_or_refusal a) c.args.answer.now) c.mend.ensures.0) in
    (t.0, rw (le-ltb _ _ h) c.mend.ensures.1, rw (le-ltb _ _ h) c.mend.ensures.2, t.1)
