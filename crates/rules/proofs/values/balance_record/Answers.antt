use native.Mathlib.Omega.{arith}
use Rattle.layout.proofs.Table.{near-rule}
use Rattle.rules.proofs.values.balance_record.Goals as goal

pub bounds-rec-section_at : goal.bounds-rec-section_at
bounds-rec-section_at c = rw c.section_at.ensures (omega (arith, near-rule c.args.s))
