use Rattle.layout.proofs.Table.{near-rule}
use native.Mathlib.Omega.{arith}
use Rattle.rules.specs.Values.{balance_end}
use borrow.Author.Tests.{eq-eqb, ne_eqb}
use Rattle.rules.proofs.values.balance_end.Goals as goal

pub overflow_add-result : goal.overflow_add-result
overflow_add-result c = rw c.section_at-section.ensures (omega (arith, near-rule c.args.s))

pub returns-then-sign-sign_of : goal.returns-then-sign-sign_of
unfolding balance_end
returns-then-sign-sign_of c = rw (← c.sign_of.ensures, ne_eqb _ _ c.if-sign-sign_of.true, c.section_at-section.ensures)

pub overflow_add-result-then-balance-apart_of : goal.overflow_add-result-then-balance-apart_of
overflow_add-result-then-balance-apart_of c = rw c.section_at-section.ensures (omega (arith, near-rule c.args.s))

pub returns-then-balance-apart_of : goal.returns-then-balance-apart_of
unfolding balance_end
returns-then-balance-apart_of c = rw (← c.sign_of.ensures, eq-eqb _ _ c.if-sign-sign_of.false, ← c.apart_of.ensures, ne_eqb _ _ c.if-balance-apart_of.true, c.section_at-section.ensures)

pub returns : goal.returns
unfolding balance_end
returns c = rw (← c.sign_of.ensures, eq-eqb _ _ c.if-sign-sign_of.false, ← c.apart_of.ensures, eq-eqb _ _ c.if-balance-apart_of.false)
