-- `correct::put_amounts` meets its contract: the credit is put first and the debit over what that leaves.
use Rattle.correct.proofs.Undone.{amounts-written}
use Rattle.correct.proofs.put_amounts.Goals as goal

pub returns : goal.returns
returns c = amounts-written _ _ _ c.requires.0 _ _ _ _ c.requires.1 c.requires.2 c.put_number.ensures.1 c.put_number-2.ensures.1
