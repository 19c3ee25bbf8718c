-- `sheet::slots::made_balance` meets its contract.
use Rattle.sheet.proofs.Written.{made_by}
use Rattle.sheet.proofs.slots.made_balance.Goals as goal

pub returns : goal.returns
returns c = made_by _ _ _ _ _ c.section_at-section.ensures c.balance_of-closing.ensures c.put_part.ensures.1 c.put_number.ensures.1
