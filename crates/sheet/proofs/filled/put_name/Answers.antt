-- `sheet::filled::put_name` meets its contract.
use native.Mathlib.Omega.{arith}
use Rattle.sheet.specs.Filled.{with_name}
use Rattle.text.proofs.Fits.{part-put}
use Rattle.sheet.proofs.Written.{no-tail}
use borrow.Enum.Refused.{opened}
use Rattle.sheet.proofs.filled.put_name.Goals as goal

pub returns-in-Tail : goal.returns-in-Tail
unfolding with_name
returns-in-Tail c = rw c.in-Tail.is (part-put 19 _ _ _ (omega (arith, c.requires)) c.put_part.ensures.1)

pub returns-in_default : goal.returns-in_default
unfolding with_name
returns-in_default c = rw (no-tail c.args.slot (opened c.in_default.in_default-own.keys2))
