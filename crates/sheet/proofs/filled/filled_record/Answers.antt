-- `sheet::filled::filled_record` meets its contract.
use Rattle.text.proofs.Fits.{copied}
use Rattle.sheet.proofs.Written.{start_fits, start-few, filled-by}
use borrow.Author.Rules.{rules}
use Rattle.sheet.proofs.filled.filled_record.Goals as goal

pub fill-requires : goal.fill-requires
fill-requires c = (search rules, start-few _ c.start.ensures, rw c.start.ensures (start_fits c.args.slot))

pub returns : goal.returns
returns c = filled-by _ _ _ _ _ _ _ _ _ (copied 120 _ _ c.requires.0 c.put_part.ensures.1) c.put_delega.ensures c.put_name.ensures c.start.ensures c.fill.ensures
