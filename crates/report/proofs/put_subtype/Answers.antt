-- `report::put_subtype` meets its contract: every subtype of the table has at most two digits.
use native.Mathlib.Omega.{arith}
use Rattle.report.proofs.SectionLines.{subtype-short}
use Rattle.printing.proofs.Appending.{append-number}
use Rattle.report.proofs.put_subtype.Goals as goal

pub returns : goal.returns
returns c =
    append-number (rw c.section_at.ensures at c.put_number.ensures.1)
    (subtype-short _) c.requires 2 (omega arith)
