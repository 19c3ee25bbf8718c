-- `f24_ep::answer_open` meets its contract: the answer of pieces is the judgement of their bytes.
use Rattle.f24_ep.proofs.Going.{sound-pieces, answer-of-bytes}
use Rattle.f24_ep.proofs.answer_open.Goals as goal

pub answered-requires : goal.answered-requires
answered-requires c = let g = c.in_ok-course.ensures in sound-pieces _ g.pieces g.course

pub returns : goal.returns
returns c = answer-of-bytes _ _ c.in_ok-course.ensures c.answered.ensures
