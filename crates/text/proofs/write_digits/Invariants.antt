-- `text::write_digits` meets its contract. The loop's invariant: putting the digits that are left into the room as it is now gives what
-- putting all of them into the room as it came gives.
use mathlib.Core.Path.{◌≡◌}
use Rattle.text.specs.Numbers.{digits_of}
use Rattle.text.specs.Placing.{put_at}
use Rattle.text.proofs.write_digits.Given as goal

abbrev pub invariant-loop-i : goal.invariant-loop-i
invariant-loop-i l = put_at l.at (digits_of l.width l.n) l.initial.room ≡ put_at l.at (digits_of l.i l.left) l.room
