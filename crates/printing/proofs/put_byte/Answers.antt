-- `printing::put_byte` meets its contract: a byte stored is a text of one byte.
use Rattle.printing.proofs.Appending.{append-byte}
use Rattle.printing.proofs.put_byte.Goals as goal

pub returns : goal.returns
returns c = append-byte c.requires
