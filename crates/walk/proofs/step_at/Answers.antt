-- `step_at` meets its contract: what `answer_at` and `place_after` promise, together.
use Rattle.walk.proofs.step_at.Goals as goal

pub returns : goal.returns
returns c = rw (c.place_after-next.ensures, c.answer_at-answer.ensures)
