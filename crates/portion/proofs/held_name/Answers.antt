use borrow.Author.Tests.{eq-eqb, ne_eqb}
use Rattle.state.specs.Numbers.{state_of}
use Rattle.portion.specs.Portion.{held_name}
use Rattle.portion.proofs.held_name.Goals as goal

pub returns-then-x-eq0 : goal.returns-then-x-eq0
unfolding held_name state_of
returns-then-x-eq0 c = rw (eq-eqb _ _ c.if-x-eq0.true) c.head_name.ensures

pub returns : goal.returns
unfolding held_name state_of
returns c = rw (ne_eqb _ _ c.if-x-eq0.false)
