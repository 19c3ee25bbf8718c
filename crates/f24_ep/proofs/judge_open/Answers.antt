use borrow.Author.Rules.{rules}
use Rattle.f24_ep.proofs.Going.{going_start, sound-pieces, going-ends, going_on, going-last, going-full}
use Rattle.f24_ep.proofs.judge_open.Goals as goal

pub loop-init : goal.loop-init
loop-init c = (going_start _ c.start-course.ensures, search rules)

pub returns-then-n-eq0 : goal.returns-then-n-eq0
returns-then-n-eq0 c = going-ends _ _ c.loop.invariant.0 (search rules)

pub take-course-requires : goal.take-course-requires
take-course-requires c = let g = c.loop.invariant.0 in sound-pieces _ g.pieces g.course

pub returns-then-n-lt-RECORD : goal.returns-then-n-lt-RECORD
returns-then-n-lt-RECORD c =
    going-last _ _ _ c.in_ok-n.n c.read_open.new.room c.loop.invariant.0 c.take-course.ensures (search rules) (search rules) (search rules) (search rules)

pub loop-preserved : goal.loop-preserved
loop-preserved c =
    (going_on _ _ _ c.in_ok-n.n c.read_open.new.room c.loop.invariant.0 c.take-course.ensures (search rules) (search rules) (search rules), search rules)

pub left_unread-requires : goal.left_unread-requires
left_unread-requires c = (going-full _ _ c.loop.invariant.0 (search rules), going-ends _ _ c.loop.invariant.0 (search rules))
