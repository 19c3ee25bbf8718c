-- `ep_total::digits_in` meets its contract: reading what is left after `n` says what the whole part says, and `n` has at most as many digits as were read.
use Prim.Native.Nat.{◌<◌, ◌^◌}
use mathlib.Core.Path.{◌≡◌}
use lib.ListN.{drop}
use Rattle.ep_total.specs.Total.{digits_in}
use Rattle.ep_total.proofs.digits_in.Given as goal

abbrev pub invariant-loop-b : goal.invariant-loop-b
invariant-loop-b l = (l.n < 10 ^ l.b-index) × (digits_in 0 l.part ≡ digits_in l.n (drop l.b-index l.part))
