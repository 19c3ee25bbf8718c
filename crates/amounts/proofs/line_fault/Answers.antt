use Rattle.std.proofs.Common.{arith}
use Rattle.layout.proofs.Table.{near-rule}
use Rattle.amounts.proofs.line_fault.Goals as goal

pub overflow_add-result : goal.overflow_add-result
overflow_add-result c = rw c.section_at-section.ensures (omega (arith, near-rule c.args.s))

pub overflow_add-result-2 : goal.overflow_add-result-2
overflow_add-result-2 c = rw c.section_at-section.ensures (omega (arith, near-rule c.args.s))
