-- `sheet::lines` meets its contract. The loop's invariant: what is left to be read from the present spot gives what the whole does.
use Prim.Native.Nat.{◌-◌}
use lib.ListN.{drop}
use Rattle.sheet.specs.Sheet.{lines_from}
use Rattle.sheet.proofs.Walks.{Going}
use Rattle.sheet.proofs.lines.Given as goal

abbrev pub invariant-loop : goal.invariant-loop
invariant-loop l =
    Going l.source.sheet.now l.source.name.now l.initial.here l.initial.flow (lines_from l.x l.d l.n (drop l.initial.here.at l.source.sheet.now)) l.here l.flow (lines_from l.x l.d (l.n - l.counter) (drop l.here.at l.source.sheet.now))
