-- `rebalance::balance_fits` meets its contract: each test settles one of the section's stored numbers.
-- At the test on totals: the answer is that of the section's row.
use mathlib.Core.Bool.{Bool, true, false}
use mathlib.Core.Path.{◌≡◌, sym, ap, ◌∙◌}
use Rattle.layout.specs.declared.Section.{Section}
use Rattle.layout.specs.Sections.{section_at}
use Rattle.rebalance.proofs.Fitting.{fits-plain, fits-neither, fits-balance}
use Rattle.rebalance.proofs.balance_fits.Goals as goal
use Rattle.rebalance.proofs.balance_fits.Goals.{After-apart_of-balance, else-section-via-then-section+else-t-gt-LARGEST-2, else-section-via-else-section}

totals : (c : After-apart_of-balance) (t : Bool) → c.section_at-section.result.totals ≡ t → (section_at c.args.s).totals ≡ t
totals c t e = sym (ap (λ (x : Section). x.totals) c.section_at-section.ensures) ∙ e

pub returns-then-t-gt-LARGEST-2 : goal.returns-then-t-gt-LARGEST-2
returns-then-t-gt-LARGEST-2 c = let p = (goal.at.returns-then-t-gt-LARGEST-2 c).After-apart_of-balance in sym (fits-neither p.args.s p.args.t (totals p true c.if-section.true) c.if-t-gt-LARGEST-2.either)

pub returns : goal.returns
returns c =
    let p = (goal.at.returns c).After-apart_of-balance in
    rw p.apart_of-balance.ensures
    (elim c.else-section.branch [
      | else-section-via-then-section+else-t-gt-LARGEST-2 w ↦ sym (fits-balance p.args.s p.args.t (totals p true w.if-section.true) w.if-t-gt-LARGEST-2.false.0 w.if-t-gt-LARGEST-2.false.1)
      | else-section-via-else-section w ↦ sym (fits-plain p.args.s p.args.t (totals p false w.if-section.false))
    ])
