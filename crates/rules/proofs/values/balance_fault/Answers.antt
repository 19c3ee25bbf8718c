use Rattle.layout.proofs.Table.{near-rule}
use native.Mathlib.Omega.{arith}
use Rattle.rules.specs.Values.{balance_on}
use borrow.Author.Tests.{eq-eqb, ne_eqb}
use Rattle.rules.proofs.values.balance_fault.Goals as goal

pub overflow_add-result : goal.overflow_add-result
overflow_add-result c = rw c.section_at-section.ensures (omega (arith, near-rule c.args.s))

pub returns-then-vs-t : goal.returns-then-vs-t
unfolding balance_on
returns-then-vs-t c = rw (← c.section_at-section.ensures, c.if-section.true, ne_eqb _ _ c.if-vs-t.true)

pub overflow_add-result-then-vs-t-2 : goal.overflow_add-result-then-vs-t-2
overflow_add-result-then-vs-t-2 c = rw c.section_at-section.ensures (omega (arith, near-rule c.args.s))

pub returns-then-vs-t-2 : goal.returns-then-vs-t-2
unfolding balance_on
returns-then-vs-t-2 c = rw (← c.section_at-section.ensures, c.if-section.true, eq-eqb _ _ c.if-vs-t.false, ne_eqb _ _ c.if-vs-t-2.true)

pub returns-then-section : goal.returns-then-section
unfolding balance_on
returns-then-section c = rw (← c.section_at-section.ensures, c.if-section.true, eq-eqb _ _ c.if-vs-t.false, eq-eqb _ _ c.if-vs-t-2.false) c.balance_end.ensures

pub returns : goal.returns
unfolding balance_on
returns c = rw (← c.section_at-section.ensures, c.if-section.false) c.balance_end-2.ensures
