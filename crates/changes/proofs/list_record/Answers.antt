use mathlib.Core.Path.{◌≡◌, ap, ◌∙◌}
use mathlib.Core.List.{List}
use native.Mathlib.Omega.{arith}
use lib.ListN.{take}
use Rattle.layout.specs.declared.Field.{Field}
use Rattle.layout.specs.declared.Kind.{Kind}
use Rattle.layout.specs.Kinds.{kind_in}
use Rattle.layout.specs.Fields.{listed}
use Rattle.changes.specs.Changes.{written_fields}
use Rattle.changes.proofs.FieldsWritten.{written_apart, written-four, apart-at, handed-out}
use Rattle.changes.proofs.Listing.{listing-end, listing-on}
use Rattle.changes.proofs.list_record.Goals as goal
use Rattle.changes.proofs.list_record.Goals.{At-loop-field, In-loop-field}

-- The fields of the record that rebalancing writes.
abbrev own : At-loop-field → List Field
own c = written_fields (kind_in c.args.old.now)

handed : (c : At-loop-field) → take c.written_fields-fields.result.count c.written_fields-fields.result.fields ≡ own c
handed c = handed-out (kind_in c.args.old.now) _ (c.written_fields-fields.ensures ∙ ap (λ (k : Kind). listed (written_fields k)) c.kind_in.ensures)

pub list_field-listed-requires : goal.list_field-listed-requires
list_field-listed-requires c =
    let t = (goal.at.list_field-listed-requires c).In-loop-field in
    let l = (goal.at.list_field-listed-requires c).At-loop-field in
    let h = rw (handed l) at t.loop-field-test.true in
    let o = apart-at 0 (own l) (written_apart l.args.old.now) l.loop-field.field-index h in
    (l.requires.0, rw (handed l) o.0, rw (handed l) o.1, omega (arith, l.loop-field.invariant.behind, l.requires.1, h, written-four (kind_in l.args.old.now)))

pub loop-field-preserved : goal.loop-field-preserved
loop-field-preserved c =
    let t = (goal.at.loop-field-preserved c).In-loop-field in
    let l = (goal.at.loop-field-preserved c).At-loop-field in
    let e = rw (handed l) at c.list_field-listed.ensures in
    listing-on _ _ l.args.old.now _ _ _ _ _ _ l.loop-field.invariant (rw (handed l) at t.loop-field-test.true) _ _ e.0 e.1

pub returns : goal.returns
returns c =
    let l = (goal.at.returns c).At-loop-field in
    listing-end _ _ _ _ _ _ _ _ _ l.loop-field.invariant (rw (handed l) at c.loop-field-test.false)
