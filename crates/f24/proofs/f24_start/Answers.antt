use Prim.Native.Nat.{ℕ}
use mathlib.Core.List.{List}
use Rattle.state.specs.Numbers.{overlay}
use mathlib.Core.Path.{refl, ap, ◌∙◌}
use Rattle.handed.specs.Room.{progress_numbers}
use Rattle.f24.proofs.Rooms.{short-code, short-room, long-code, long-room}
use Rattle.f24.proofs.f24_start.Goals as goal

pub returns-then-state-lt-STATE_ROOM : goal.returns-then-state-lt-STATE_ROOM
returns-then-state-lt-STATE_ROOM c = (short-code _ _ c.if-state-lt-STATE_ROOM.true, short-room _ _ c.if-state-lt-STATE_ROOM.true)

pub returns : goal.returns
returns c = (long-code _ c.if-state-lt-STATE_ROOM.false refl, long-room _ _ c.if-state-lt-STATE_ROOM.false (c.put.ensures ∙ ap (λ (l : List ℕ). overlay l c.args.state.now) (c.progress_numbers.ensures ∙ ap progress_numbers c.start.ensures)))
