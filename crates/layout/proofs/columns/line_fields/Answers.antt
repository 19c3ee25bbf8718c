use native.Mathlib.Omega.{arith}
use Rattle.layout.proofs.Table.{near-rule}
use Rattle.layout.proofs.columns.line_fields.Goals as goal

pub amount_at-requires : goal.amount_at-requires
amount_at-requires c = rw c.section_at-section.ensures (omega (arith, near-rule c.args.s))

pub amount_at-requires-2 : goal.amount_at-requires-2
amount_at-requires-2 c = rw c.section_at-section.ensures (omega (arith, near-rule c.args.s))
