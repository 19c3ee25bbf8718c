-- `delega::delega_from` meets its contract. The invariant: what the whole search answers, the rest of the records gives from the state, and the iterator has
-- what is left of the flow.
use Rattle.delega.proofs.Search.{Searching}
use Rattle.delega.specs.Used.{none_used}
use Rattle.delega.specs.OneDelega.{delega_from}
use Rattle.judge.specs.Flow.{records_of}
use Rattle.judge.proofs.Chunked.{Chunked}
use Rattle.rules.specs.State.{start_state}
use Rattle.delega.proofs.delega_from.Given as goal

abbrev pub invariant-loop-rec : goal.invariant-loop-rec
invariant-loop-rec l = record { searching : Searching l.flow l.number (delega_from l.number start_state none_used (records_of l.flow)) l.st l.used; chunked : Chunked l.flow l.st.seen l.rec-iterator }
