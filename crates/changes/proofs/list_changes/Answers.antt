use mathlib.Core.Path.{ap, ◌∙◌}
use native.Mathlib.Omega.{arith}
use lib.ListN.{length}
use Rattle.records.proofs.Sizes.{record-sized}
use Rattle.changes.proofs.Listing.{going_end, going_on}
use Rattle.changes.proofs.list_changes.Goals as goal

pub list_record-n-requires : goal.list_record-n-requires
list_record-n-requires c =
    let s = c in
    let old = s.args.old.now in
    let new = s.args.new.now in (
      record {
        old-sized = ap length c.record_at.ensures ∙ record-sized old c.loop-k.k c.loop-k-test.true;
        new-sized = ap length c.record_at-in-loop-k.ensures ∙ record-sized new c.loop-k.k (rw s.requires.as_long c.loop-k-test.true);
        few = omega (arith, s.requires.whole.short);
      },
      omega (arith, c.loop-k.invariant.few, s.requires.whole.short),
    )

pub loop-k-preserved : goal.loop-k-preserved
loop-k-preserved c =
    let s = c in
    let e = c.list_record-n.ensures in
    going_on s.args.old.now s.args.new.now _ s.requires.as_long _ _ _ c.loop-k.invariant c.loop-k-test.true _ _ c.record_at.ensures c.record_at-in-loop-k.ensures _ _ e.0 e.1

pub returns : goal.returns
returns c = going_end _ _ _ _ _ _ c.loop-k.invariant c.loop-k-test.false
