-- `rebalance::survey` meets its contract. The loop's invariant: what was found so far and what the records left will show give the whole
-- answer, and the iterator has what is left of the flow.
use Rattle.judge.proofs.Chunked.{Chunked}
use Rattle.rebalance.proofs.Surveys.{Surveying}
use Rattle.rebalance.proofs.survey.Given as goal

abbrev pub invariant-loop-rec : goal.invariant-loop-rec
invariant-loop-rec l = record { surveying : Surveying l.flow l.st l.negative l.fits; chunked : Chunked l.flow l.st.seen l.rec-iterator }
