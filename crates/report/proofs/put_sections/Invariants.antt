-- `report::put_sections` meets its contract. The loop's invariant: the lines of the first `s` sections stand in the room, and each
-- has at most 45 bytes.
use Prim.Native.Nat.{◌*◌}
use Rattle.report.specs.Appended.{Appended}
use Rattle.report.proofs.SectionLines.{first_lines}
use Rattle.report.proofs.put_sections.Given as goal

abbrev pub invariant-loop-s : goal.invariant-loop-s
invariant-loop-s l = Appended l.at (first_lines l.s l.section-items) (45 * l.s) l.initial.room l.room l.end
