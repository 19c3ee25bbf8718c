-- `close::move_up` meets its contract. The loop's invariant: the records so far that stay stand at the front, and behind them the flow is as it came.
use Rattle.close.specs.Inner.{ClosedSoFar}
use Rattle.close.proofs.move_up.Given as goal

abbrev pub invariant-loop-k : goal.invariant-loop-k
invariant-loop-k l = ClosedSoFar l.numbers l.initial.flow l.flow l.k l.kept
