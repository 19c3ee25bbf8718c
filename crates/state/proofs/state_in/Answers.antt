use mathlib.Core.Path.{sym, ◌∙◌}
use native.Mathlib.Omega.{arith}
use borrow.Author.Tests.{eqb-true, eqb-false}
use Rattle.state.proofs.Rooms.{none_in, some_in}
use Rattle.state.proofs.state_in.Goals as goal

pub returns-then-is_empty : goal.returns-then-is_empty
returns-then-is_empty c = c.start.ensures ∙ sym (none_in _ (eqb-true _ _ (sym c.is_empty.ensures ∙ c.if-is_empty.true)))

pub returns-else-is_empty : goal.returns-else-is_empty
returns-else-is_empty c = c.state_of.ensures ∙ sym (some_in _ (let n = eqb-false _ _ (sym c.is_empty.ensures ∙ c.if-is_empty.false) in omega arith))
