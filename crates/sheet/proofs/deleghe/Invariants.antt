-- `sheet::deleghe` meets its contract. The loop's invariant: what is left to be read from the present spot gives what the whole does.
use Prim.Native.Nat.{◌+◌, ◌-◌}
use lib.ListN.{drop}
use Rattle.sheet.specs.Sheet.{deleghe_from}
use Rattle.sheet.proofs.Walks.{Going}
use Rattle.sheet.proofs.deleghe.Given as goal

abbrev pub invariant-loop-d : goal.invariant-loop-d
invariant-loop-d l =
    Going l.source.sheet.now l.source.name.now l.initial.here l.initial.flow (deleghe_from l.n 1 (drop l.initial.here.at l.source.sheet.now)) l.here l.flow (deleghe_from (l.n - l.d) (l.d + 1) (drop l.here.at l.source.sheet.now))
