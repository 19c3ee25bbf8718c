-- `place_after` meets its contract, by the answer.
use Rattle.walk.proofs.place_after.Goals as goal

pub returns-in-Some : goal.returns-in-Some
returns-in-Some c = rw (c.in-Ok.is, c.in-Some.is) c.next.ensures

pub returns-in-None : goal.returns-in-None
returns-in-None c = rw (c.in-Ok.is, c.in-None.is)
