-- `f24::f24_delega` meets its contract: a room that is too short stays as it came, and a longer one holds the refusal or the delega's numbers.
use Prim.Native.Nat.{ℕ}
use mathlib.Core.List.{List}
use mathlib.Core.Path.{sym, ap, ◌∙◌}
use Rattle.delega.specs.declared.DelegaAnswer.{DelegaAnswer}
use Rattle.state.specs.Numbers.{overlay}
use Rattle.answers.specs.Numbers.{delega_numbers}
use Rattle.f24.specs.Linked.{delega_code, delega_room}
use Rattle.f24.proofs.Rooms.{short-code, short-room, long-code, accepted-room, refused-room}
use Rattle.delega.proofs.Asked.{delega-number}
use Rattle.f24.proofs.f24_delega.Goals as goal

pub returns-then-answer-lt-DELEGA_ROOM : goal.returns-then-answer-lt-DELEGA_ROOM
unfolding delega_code delega_room
returns-then-answer-lt-DELEGA_ROOM c = (short-code _ _ c.if-answer-lt-DELEGA_ROOM.true, short-room _ _ c.if-answer-lt-DELEGA_ROOM.true)

pub returns-in-Err : goal.returns-in-Err
unfolding delega_code delega_room
returns-in-Err c =
    let e = ap (λ (a : DelegaAnswer). a.verdict) (sym c.delega-one.ensures) ∙ c.in-Err.is in
    let h = c.if-answer-lt-DELEGA_ROOM.false in
    (long-code _ h (rw e c.put_refusal.ensures.number), rw e (refused-room _ _ _ _ _ (delega-number _ _ e) h c.put_refusal.ensures.room))

pub returns : goal.returns
unfolding delega_code delega_room
returns c =
    let e = ap (λ (a : DelegaAnswer). a.verdict) (sym c.delega-one.ensures) ∙ c.in_default.is in
    let h = c.if-answer-lt-DELEGA_ROOM.false in
    (long-code _ h (rw e), accepted-room _ _ _ e h (c.put.ensures ∙ ap (λ (xs : List ℕ). overlay xs c.args.answer.now) (c.delega_numbers.ensures ∙ ap delega_numbers c.delega-one.ensures)))
