-- `ep::v_fault` meets its contract.
use borrow.Author.Tests.{eq-eqb, ne_eqb}
use Rattle.ep.specs.Payments.{v_fault}
use Rattle.ep.proofs.v_fault.Goals as goal

pub returns-then-tally-eq0 : goal.returns-then-tally-eq0
unfolding v_fault
returns-then-tally-eq0 c = simp (eq-eqb _ _ c.if-tally-eq0.true, c.refused.ensures)

pub returns : goal.returns
unfolding v_fault
returns c = simp (ne_eqb _ _ c.if-tally-eq0.false, c.accounts_fault.ensures)
