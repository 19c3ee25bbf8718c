use Prim.Native.Nat.{◌+◌, ◌-◌, ◌*◌, ◌<◌, ◌^◌}
use mathlib.Core.Path.{◌≡◌, sym, ◌∙◌}
use native.Mathlib.Omega.{arith}
use borrow.Author.Tests.{eqb-true, eqb-false}
use lib.ListN.{get_or}
use Rattle.args.proofs.Words.{word-empty, word-long, word_read, read-other, read-large, read-on, read-end}
use Rattle.args.proofs.decimal.Goals.{then-is_empty-via-then-is_empty, then-is_empty-via-else-is_empty+then-word-gt20}
use Rattle.args.proofs.decimal.Goals as goal

pub returns-then-is_empty : goal.returns-then-is_empty
returns-then-is_empty c = elim c.then-is_empty.branch [
  | then-is_empty-via-then-is_empty w ↦ sym (word-empty _ (eqb-true _ _ (sym c.is_empty.ensures ∙ w.if-is_empty.true)))
  | then-is_empty-via-else-is_empty+then-word-gt20 w ↦ sym (word-long _ (eqb-false _ _ (sym c.is_empty.ensures ∙ w.if-is_empty.false)) w.if-word-gt20.true)
]

pub loop-b-init : goal.loop-b-init
loop-b-init c = (omega arith, word_read _ (eqb-false _ _ (sym c.is_empty.ensures ∙ c.if-is_empty.false)) c.if-word-gt20.false)

pub returns-then-not-is_ascii_digit : goal.returns-then-not-is_ascii_digit
returns-then-not-is_ascii_digit c =
    sym (c.loop-b.invariant.1 ∙ read-other _ _ c.loop-b-test.true _ (rw c.if-not-is_ascii_digit.true at c.is_ascii_digit.ensures.cases))

pub returns-in_err-tens : goal.returns-in_err-tens
returns-in_err-tens c =
    let d = rw c.if-not-is_ascii_digit.false at c.is_ascii_digit.ensures.cases in
    let h : (c.loop-b.n * 10 < 2 ^ 64 → ⊥) = rw c.in_err-tens.was at c.checked_mul.ensures in
    rw c.from_residual.ensures (sym (c.loop-b.invariant.1 ∙ read-large _ _ c.loop-b-test.true _ d.0 d.1 (omega arith)))

pub returns-in_err-n : goal.returns-in_err-n
returns-in_err-n c =
    let d = rw c.if-not-is_ascii_digit.false at c.is_ascii_digit.ensures.cases in
    let m : (c.loop-b.n * 10 < 2 ^ 64) × (c.in_ok-tens.tens ≡ c.loop-b.n * 10) = rw c.in_ok-tens.was at c.checked_mul.ensures in
    let h : (c.in_ok-tens.tens + c.from.result < 2 ^ 64 → ⊥) = rw c.in_err-n.was at c.checked_add.ensures in
    rw c.from_residual-in_err-n.ensures (sym (c.loop-b.invariant.1 ∙ read-large _ _ c.loop-b-test.true _ d.0 d.1 (omega arith)))

pub loop-b-preserved : goal.loop-b-preserved
loop-b-preserved c =
    let d = rw c.if-not-is_ascii_digit.false at c.is_ascii_digit.ensures.cases in
    let m : (c.loop-b.n * 10 < 2 ^ 64) × (c.in_ok-tens.tens ≡ c.loop-b.n * 10) = rw c.in_ok-tens.was at c.checked_mul.ensures in
    let s : (c.in_ok-tens.tens + c.from.result < 2 ^ 64) × (c.in_ok-n.n ≡ c.in_ok-tens.tens + c.from.result) = rw c.in_ok-n.was at c.checked_add.ensures in
    let e : c.loop-b.n * 10 + (get_or c.args.word.now c.loop-b.b-index 0 - 48) ≡ c.in_ok-n.n = omega arith in
    (omega arith, c.loop-b.invariant.1 ∙ (read-on _ _ c.loop-b-test.true _ d.0 d.1 ∙ rw e))

pub returns : goal.returns
returns c = sym (c.loop-b.invariant.1 ∙ read-end _ _ _ c.loop-b-test.false c.loop-b.invariant.0)
