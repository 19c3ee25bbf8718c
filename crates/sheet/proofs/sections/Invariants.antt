-- `sheet::sections` meets its contract. The loop's invariant: what is left to be read from the present spot gives what the whole does.
use Prim.Native.Nat.{◌-◌}
use lib.ListN.{drop}
use Rattle.sheet.specs.Sheet.{sections_from}
use Rattle.sheet.proofs.Walks.{Going}
use Rattle.sheet.proofs.sections.Given as goal

abbrev pub invariant-loop-x : goal.invariant-loop-x
invariant-loop-x l =
    Going l.source.sheet.now l.source.name.now l.initial.here l.initial.flow (sections_from l.d 5 0 (drop l.initial.here.at l.source.sheet.now)) l.here l.flow (sections_from l.d (5 - l.x) l.x (drop l.here.at l.source.sheet.now))
