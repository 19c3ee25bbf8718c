-- `correct::section_of` meets its contract: a subtype that is not that of a section's lines has the number past the table.
use Rattle.layout.proofs.OtherKinds.{no_line}
use mathlib.Core.Path.{sym}
use borrow.Enum.Refused.{opened}
use Rattle.correct.proofs.section_of.Goals as goal

pub returns-in_default : goal.returns-in_default
returns-in_default c = rw (← c.section_kind.ensures) (sym (no_line _ _ c.section_kind.result (opened c.in_default.in_default-own.keys2)))

pub returns : goal.returns
returns c = rw (← c.section_kind.ensures, c.in-Line.is)
