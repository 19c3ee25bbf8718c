-- `records::lines::line_amounts` meets its contract: both fields of the section's row lie within the record, whatever the section.
use Rattle.layout.proofs.Table.{near-rule}
use Rattle.records.proofs.lines.line_amounts.Goals as goal

pub amount_in-requires : goal.amount_in-requires
amount_in-requires c = (c.requires, rw c.section_at-section.ensures (near-rule c.args.s).0)

pub amount_in-requires-2 : goal.amount_in-requires-2
amount_in-requires-2 c = (c.requires, rw c.section_at-section.ensures (near-rule c.args.s).1.0)
