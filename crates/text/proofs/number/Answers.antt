use mathlib.Core.Path.{sym, ◌∙◌}
use native.Mathlib.Omega.{arith}
use Rattle.text.proofs.Numerals.{number-other, number-on, number-end, small, more, read-is-number, read-too-long}
use Rattle.text.proofs.number.Goals as goal

pub returns-then-part-gt15 : goal.returns-then-part-gt15
returns-then-part-gt15 c = sym (read-too-long _ c.if-part-gt15.true)

pub loop-i-init : goal.loop-i-init
loop-i-init c = (omega arith, read-is-number _ c.if-part-gt15.false)

pub returns-then-not-is_ascii_digit : goal.returns-then-not-is_ascii_digit
returns-then-not-is_ascii_digit c =
    sym (c.loop-i.invariant.1 ∙ number-other _ _ c.loop-i-test.true _ (rw c.if-not-is_ascii_digit.true at c.is_ascii_digit.ensures.cases))

pub overflow_mul-n : goal.overflow_mul-n
overflow_mul-n c =
    let l = c.loop-i in
    omega (arith, small l.i l.n (omega arith) l.invariant.0)

pub overflow_add-n : goal.overflow_add-n
overflow_add-n c =
    let l = c.loop-i in
    let d = rw c.if-not-is_ascii_digit.false at c.is_ascii_digit.ensures.cases in
    omega (arith, small l.i l.n (omega arith) l.invariant.0)

pub loop-i-preserved : goal.loop-i-preserved
loop-i-preserved c =
    let l = c.loop-i in
    let d = rw c.if-not-is_ascii_digit.false at c.is_ascii_digit.ensures.cases in
    rw c.from.ensures (more _ _ _ l.invariant.0 (omega arith), l.invariant.1 ∙ number-on _ _ c.loop-i-test.true _ d.0 d.1)

pub returns : goal.returns
returns c = sym (c.loop-i.invariant.1 ∙ number-end _ _ _ c.loop-i-test.false)
