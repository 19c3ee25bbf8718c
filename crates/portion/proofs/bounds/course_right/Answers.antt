use Rattle.portion.proofs.bounds.course_right.Goals as goal

pub returns-in-Refused : goal.returns-in-Refused
returns-in-Refused c = rw c.in-Refused.is c.is_refusable.ensures
