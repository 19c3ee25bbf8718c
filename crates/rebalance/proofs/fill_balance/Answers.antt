-- `rebalance::fill_balance` meets its contract: the totals, where the section has them, are written before the sign and the balance.
-- At the test on totals: the answer is that of the section's row.
use mathlib.Core.Bool.{Bool, true, false}
use mathlib.Core.Path.{◌≡◌, sym, ap, ◌∙◌}
use native.Mathlib.Omega.{arith}
use borrow.Author.Rules.{rules}
use Rattle.layout.proofs.Table.{near-rule}
use Rattle.layout.specs.Sections.{section_at}
use Rattle.layout.specs.declared.Section.{Section}
use Rattle.rules.specs.Stored.{stored_balance}
use Rattle.rebalance.specs.Rebalance.{put_all}
use Rattle.rebalance.proofs.Stores.{totals-written, plain-written}
use Rattle.layout.proofs.Within.{within-amount}
use Rattle.rebalance.proofs.Fitting.{totals-fit, plain-fit}
use Rattle.rebalance.proofs.fill_balance.Goals as goal
use Rattle.rebalance.proofs.fill_balance.Goals.{After-section_at-section, Start, then-section, else-section}

totals : (c : After-section_at-section) (t : Bool) → c.section_at-section.result.totals ≡ t → (section_at c.args.s).totals ≡ t
totals c t e = sym (ap (λ (x : Section). x.totals) c.section_at-section.ensures) ∙ e

pub amount_at-requires : goal.amount_at-requires
amount_at-requires c = rw c.section_at-section.ensures (omega (arith, near-rule c.args.s))

pub store-requires : goal.store-requires
store-requires c =
    let q = (goal.at.store-requires c).After-section_at-section in
    let p = (goal.at.store-requires c).Start in
    let n = near-rule p.args.s in
    (search rules, rw (c.amount_at.ensures, q.section_at-section.ensures) (within-amount _ n.1.1.0), rw (c.amount_at.ensures, q.section_at-section.ensures) (totals-fit p.args.s p.args.t (totals q true c.if-section.true) p.requires.1).0)

pub amount_at-requires-then-section : goal.amount_at-requires-then-section
amount_at-requires-then-section c = rw c.section_at-section.ensures (omega (arith, near-rule c.args.s))

pub store-requires-then-section : goal.store-requires-then-section
store-requires-then-section c =
    let q = (goal.at.store-requires-then-section c).After-section_at-section in
    let p = (goal.at.store-requires-then-section c).Start in
    let n = near-rule p.args.s in
    (search rules, rw (c.amount_at-then-section.ensures, q.section_at-section.ensures) (within-amount _ n.1.1.1.0), rw (c.amount_at-then-section.ensures, q.section_at-section.ensures) (totals-fit p.args.s p.args.t (totals q true c.if-section.true) p.requires.1).1)

pub fill_ends-requires : goal.fill_ends-requires
fill_ends-requires c =
    let q = (goal.at.fill_ends-requires c).After-section_at-section in
    let p = (goal.at.fill_ends-requires c).Start in (
      search rules,
      elim c.if-section.branch [
        | then-section w ↦ (totals-fit p.args.s p.args.t (totals q true w.if-section.true) p.requires.1).2
        | else-section w ↦ plain-fit p.args.s p.args.t (totals q false w.if-section.false) p.requires.1
      ],
    )

pub returns : goal.returns
returns c =
    let q = (goal.at.returns c).After-section_at-section in
    let p = (goal.at.returns c).Start in
    elim c.if-section.branch [
      | then-section w ↦
          totals-written p.args.s p.args.t p.args.rec.now _ q.section_at-section.ensures w.if-section.true _ _ _ _ _ w.amount_at.ensures w.amount_at-then-section.ensures w.store.ensures w.store-then-section.ensures
          (c.fill_ends.ensures ∙ ap (put_all (stored_balance p.args.s p.args.t)) w.rec-is)
      | else-section w ↦ plain-written p.args.s p.args.t p.args.rec.now _ q.section_at-section.ensures w.if-section.false _ (c.fill_ends.ensures ∙ ap (put_all (stored_balance p.args.s p.args.t)) w.rec-is)
    ]
