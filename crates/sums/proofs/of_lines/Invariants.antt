-- `sums::of_lines` meets its contract. The loop's invariant: the records that are left lead from the state to the state after all of them, and the iterator
-- has what is left of the flow.
use Rattle.judge.proofs.Chunked.{Chunked}
use Rattle.sums.proofs.Adding.{Adding}
use Rattle.sums.proofs.of_lines.Given as goal

abbrev pub invariant-loop-rec : goal.invariant-loop-rec
invariant-loop-rec l = record { adding : Adding l.flow l.st; chunked : Chunked l.flow l.st.seen l.rec-iterator }
