-- `text::spelled` meets its contract. The loop's invariant: what is left of the number has at most as many digits as turns are left
-- where the number has at most `width`.
use Prim.Native.Nat.{◌-◌, ◌^◌}
use mathlib.Core.Path.{◌≡◌}
use lib.Dec.{ltb}
use Rattle.text.proofs.spelled.Given as goal

abbrev pub invariant-loop : goal.invariant-loop
invariant-loop l = ltb l.n (10 ^ l.width) ≡ ltb l.left (10 ^ (l.width - l.counter))
