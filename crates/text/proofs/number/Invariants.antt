-- `text::number` meets its contract. The loop's invariant: `n` has at most `i` digits, and reading what is left after `n` says what
-- the whole part says.
use Prim.Native.Nat.{◌<◌, ◌^◌}
use mathlib.Core.Path.{◌≡◌}
use lib.ListN.{drop}
use Rattle.text.specs.Numbers.{read_number, number_from}
use Rattle.text.proofs.number.Given as goal

abbrev pub invariant-loop-i : goal.invariant-loop-i
invariant-loop-i l = (l.n < 10 ^ l.i) × (read_number l.part ≡ number_from l.i l.n (drop l.i l.part))
