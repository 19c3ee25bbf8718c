-- `changes::put_place` meets its contract.
use borrow.Author.Tests.{lt-ltb, le-ltb}
use Rattle.changes.specs.Inner.{put_place}
use Rattle.changes.proofs.put_place.Goals as goal

pub returns-then-n-list : goal.returns-then-n-list
unfolding put_place
returns-then-n-list c = rw (lt-ltb _ _ c.if-n-list.true)

pub returns-else-n-list : goal.returns-else-n-list
unfolding put_place
returns-else-n-list c = rw (le-ltb _ _ c.if-n-list.false)
