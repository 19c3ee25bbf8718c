-- `sums::same` meets its contract. The loop's invariant: the sections that are left say what all say.
use Rattle.std.specs.Iterator.Adapters.{zip_first, zip_second}
use Rattle.std.specs.Slice.Iter.{iter_rest}
use Rattle.sums.proofs.Comparing.{Comparing}
use Rattle.sums.proofs.same.Given as goal

abbrev pub invariant-loop-x : goal.invariant-loop-x
invariant-loop-x l = Comparing l.fn.a.sums l.fn.b.sums (iter_rest (zip_first l.x-iterator)) (iter_rest (zip_second l.x-iterator))
