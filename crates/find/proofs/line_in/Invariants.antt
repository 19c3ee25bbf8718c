-- `find::line_in` meets its contract. The loop's invariant: what is sought in the whole flow, the records that are left give from the stage, the delega and
-- the count that the records before them led to, and the iterator has what is left of the flow.
use Rattle.std.specs.Iterator.Adapters.{enumerate_source, enumerate_count}
use Rattle.judge.proofs.Chunked.{Chunked}
use Rattle.find.proofs.Search.{Searching}
use Rattle.find.proofs.line_in.Given as goal

abbrev pub invariant-loop-k : goal.invariant-loop-k
invariant-loop-k l =
    record {
      searching : Searching l.flow l.delega l.section l.nth l.at l.opened (enumerate_count l.k-iterator);
      chunked : Chunked l.flow (enumerate_count l.k-iterator) (enumerate_source l.k-iterator);
    }
