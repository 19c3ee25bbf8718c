use borrow.Author.Tests.{lt-ltb, le-ltb}
use Rattle.portion.proofs.course_by.Goals as goal

pub returns-then-seen-last : goal.returns-then-seen-last
returns-then-seen-last c = rw (lt-ltb _ _ c.if-seen-last.true) c.ended_by.ensures

pub returns-then-last-count : goal.returns-then-last-count
returns-then-last-count c = rw (le-ltb _ _ c.if-seen-last.false, lt-ltb _ _ c.if-last-count.true)

pub returns : goal.returns
returns c = rw (le-ltb _ _ c.if-seen-last.false, le-ltb _ _ c.if-last-count.false) c.ended_by-2.ensures
