-- `lenient::negative_fault` meets its contract.
use Rattle.rules.specs.Checks.{negative_fault}
use borrow.Author.Tests.{lt-ltb, le-ltb}
use Rattle.lenient.proofs.negative_fault.Goals as goal

pub returns-then-t : goal.returns-then-t
unfolding negative_fault
returns-then-t c = let t = c.args.t in rw (lt-ltb t.debit t.credit c.if-t.true)

pub returns : goal.returns
unfolding negative_fault
returns c = let t = c.args.t in rw (le-ltb t.debit t.credit c.if-t.false)
