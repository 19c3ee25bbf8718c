use native.Mathlib.Omega.{arith}
use Rattle.layout.proofs.Table.{near-rule}
use Rattle.layout.proofs.columns.balance_fields.Goals as goal

pub amount_at-balance-requires : goal.amount_at-balance-requires
amount_at-balance-requires c = rw c.section_at-section.ensures (omega (arith, near-rule c.args.s))

pub amount_at-debit-requires : goal.amount_at-debit-requires
amount_at-debit-requires c = rw c.section_at-section.ensures (omega (arith, near-rule c.args.s))

pub amount_at-credit-requires : goal.amount_at-credit-requires
amount_at-credit-requires c = rw c.section_at-section.ensures (omega (arith, near-rule c.args.s))
