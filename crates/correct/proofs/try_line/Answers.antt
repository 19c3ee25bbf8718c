-- `correct::try_line` meets its contract: each return is one way through the tests of the definition.
use Rattle.layout.proofs.Table.{near-rule}
use Rattle.correct.specs.Correction.{replaced}
use Rattle.correct.specs.Writing.{amounts_put}
use Rattle.correct.proofs.Undone.{tried-debit, tried-credit, tried-wrong, tried-weighed}
use Rattle.correct.proofs.Putting.{line-room}
use native.Mathlib.Omega.{arith}
use mathlib.Core.Path.{refl, sym, ◌∙◌}
use Rattle.correct.proofs.try_line.Goals as goal
use Rattle.correct.proofs.try_line.Goals.{then-debit-gt-LARGEST-via-then-debit-gt-LARGEST, then-debit-gt-LARGEST-via-else-debit-gt-LARGEST+then-credit-gt-LARGEST}

pub returns-then-debit-gt-LARGEST : goal.returns-then-debit-gt-LARGEST
returns-then-debit-gt-LARGEST c =
    elim c.then-debit-gt-LARGEST.branch [
      | then-debit-gt-LARGEST-via-then-debit-gt-LARGEST w ↦ (sym (tried-debit _ _ _ _ _ w.if-debit-gt-LARGEST.true), refl)
      | then-debit-gt-LARGEST-via-else-debit-gt-LARGEST+then-credit-gt-LARGEST w ↦ (sym (tried-credit _ _ _ _ _ w.if-debit-gt-LARGEST.false w.if-credit-gt-LARGEST.true), refl)
    ]

pub overflow_add-start : goal.overflow_add-start
overflow_add-start c = let s = c in let w = s.requires.0.short in let k = s.requires.1.within in rw c.section_at-section.ensures (omega (arith, near-rule s.args.s))

pub overflow_add-start-then-line_right : goal.overflow_add-start-then-line_right
overflow_add-start-then-line_right c = let s = c in let w = s.requires.0.short in let k = s.requires.1.within in rw c.section_at-section.ensures (omega (arith, near-rule s.args.s))

pub replace-requires : goal.replace-requires
replace-requires c =
    let s = c in
    rw c.section_at-section.ensures (s.requires.0, line-room _ _ _ s.requires.1, record { digits = omega arith }, record { digits = omega arith })

pub returns-then-line_right : goal.returns-then-line_right
unfolding replaced amounts_put
returns-then-line_right c =
    let s = c in
    let r = c.replace.ensures in
    let q = c.section_at-section.ensures in
    let t = tried-weighed s.args.k s.args.s s.args.debit s.args.credit s.args.flow.now c.if-debit-gt-LARGEST.false c.if-credit-gt-LARGEST.false (sym c.line_right.ensures ∙ c.if-line_right.true) in
    (rw q at r.0 ∙ sym t, rw q at r.1)

pub returns : goal.returns
returns c = (sym (tried-wrong _ _ _ _ _ c.if-debit-gt-LARGEST.false c.if-credit-gt-LARGEST.false (sym c.line_right.ensures ∙ c.if-line_right.false)), refl)
