-- `f24_ep::judge_open` meets its contract: whole records have been taken whenever the loop goes on, and a shorter piece is the last.
use mathlib.Core.Path.{◌≡◌}
use lib.ListN.{length}
use Rattle.f24_ep.proofs.Going.{Going}
use Rattle.f24_ep.proofs.judge_open.Given as goal

abbrev pub invariant-loop : goal.invariant-loop
invariant-loop l = Going l.course l.counter × (length l.room ≡ 1900)
