-- `changes::list_changes` meets its contract. The loop's invariant: the records that are left give the whole answer and the whole list.
use Rattle.changes.proofs.Listing.{Going}
use Rattle.changes.proofs.list_changes.Given as goal

abbrev pub invariant-loop-k : goal.invariant-loop-k
invariant-loop-k l = Going l.old l.new l.initial.list l.list l.n l.k
