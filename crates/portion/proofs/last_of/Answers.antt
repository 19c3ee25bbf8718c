use borrow.Author.Tests.{le-leb, lt-leb}
use Rattle.portion.proofs.last_of.Goals as goal

pub returns-then-count-seen : goal.returns-then-count-seen
returns-then-count-seen c = rw (le-leb _ _ c.if-count-seen.true)

pub returns : goal.returns
returns c = rw (lt-leb _ _ c.if-count-seen.false)
