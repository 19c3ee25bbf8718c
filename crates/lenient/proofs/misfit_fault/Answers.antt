-- `lenient::misfit_fault` meets its contract.
use borrow.Author.Tests.{eq-eqb, ne_eqb}
use Rattle.lenient.specs.Lenient.{misfit_fault}
use Rattle.lenient.proofs.misfit_fault.Goals as goal

pub returns-in-Some : goal.returns-in-Some
unfolding misfit_fault
returns-in-Some c = rw (c.in-Some.is, eq-eqb _ _ c.if-known-n.true)

pub returns-in_default : goal.returns-in_default
unfolding misfit_fault
returns-in_default c = rw (c.in-Some.is, ne_eqb _ _ c.if-known-n.false)

pub returns-in_default-2 : goal.returns-in_default-2
unfolding misfit_fault
returns-in_default-2 c = rw c.in_default.is
