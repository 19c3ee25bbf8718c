-- `lenient::judge_kept` meets its contract. The loop's invariant: the records that are left, from the state on, give the whole answer, and the iterator has
-- what is left of the flow.
use Rattle.judge.proofs.Chunked.{Chunked}
use Rattle.lenient.proofs.Judging.{Judging}
use Rattle.lenient.proofs.judge_kept.Given as goal

abbrev pub invariant-loop-rec : goal.invariant-loop-rec
invariant-loop-rec l = record { judging : Judging l.flow l.misfit l.st; chunked : Chunked l.flow l.st.seen l.rec-iterator }
