-- `changes::list_record` meets its contract. The loop's invariant: the fields that are left give the whole answer and the whole list.
use Rattle.layout.specs.Kinds.{kind_in}
use Rattle.changes.specs.Changes.{written_fields}
use Rattle.changes.proofs.Listing.{Listing}
use Rattle.changes.proofs.list_record.Given as goal

abbrev pub invariant-loop-field : goal.invariant-loop-field
invariant-loop-field l = Listing l.k (written_fields (kind_in l.old)) l.old l.new l.n l.initial.list l.list l.listed l.field-index
