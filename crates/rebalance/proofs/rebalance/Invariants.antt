-- `rebalance::rebalance` meets its contract. The loop's invariant: the part before the state is written, and the rest is as it was.
use mathlib.Core.Path.{◌≡◌}
use Rattle.rebalance.proofs.Passes.{Passing}
use Rattle.rebalance.proofs.rebalance.Given as goal

abbrev pub invariant-loop-k : goal.invariant-loop-k
invariant-loop-k l = record { passing : Passing l.initial.flow l.flow l.st; at : l.k ≡ l.st.seen }
