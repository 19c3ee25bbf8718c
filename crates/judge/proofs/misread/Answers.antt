use mathlib.Core.Path.{◌≡◌, refl, sym, ap, subst, ◌∙◌}
use Prim.Native.Nat.{ℕ, ◌+◌, ◌<◌}
use native.Mathlib.Omega.{arith}
use mathlib.Core.List.{List}
use lib.ListN.{length, take, get_or}
use lib.Seq.{take-append_seam}
use Rattle.records.proofs.FieldByField.{non-digit-near, bad-on, bad-here, bad-end}
use Rattle.judge.specs.Flow.{refused_with}
use Rattle.rules.specs.Checks.{bad_fields}
use Rattle.layout.specs.declared.Field.{Field}
use Rattle.layout.specs.declared.Fields.{Fields}
use Rattle.layout.specs.Fields.{Within, nowhere, listed, fields_of}
use Rattle.layout.proofs.Within.{fields_within}
use Rattle.std.specs.Result.{is_err}
use Rattle.judge.proofs.misread.Goals as goal
use Rattle.judge.proofs.misread.Goals.{After-fields_of-fields}

-- The fields of a kind stand first among the four places.
all-listed : (fl : List Field) → take (length fl) (listed fl).fields ≡ fl
all-listed fl = take-append_seam fl _

abbrev looked : After-fields_of-fields → List Field
looked c = take c.fields_of-fields.result.count c.fields_of-fields.result.fields

fields-are : (c : After-fields_of-fields) → looked c ≡ fields_of c.args.kind
fields-are c = ap (λ (x : Fields). take x.count x.fields) c.fields_of-fields.ensures ∙ all-listed (fields_of c.args.kind)

field-within : (c : After-fields_of-fields) (j : ℕ) → j < length (looked c) → Within (get_or (looked c) j nowhere)
field-within c j h = subst (λ (fl : List Field). Within (get_or fl j nowhere)) (sym (fields-are c)) (fields_within c.args.kind j (omega (arith, h, ap length (fields-are c))))

all : (c : After-fields_of-fields) → bad_fields (looked c) c.args.rec.now ≡ bad_fields (fields_of c.args.kind) c.args.rec.now
all c = ap (λ (fl : List Field). bad_fields fl c.args.rec.now) (fields-are c)

pub loop-field-init : goal.loop-field-init
loop-field-init c = refl

pub read_field-said-requires : goal.read_field-said-requires
read_field-said-requires c = (c.requires.0, field-within (goal.at.read_field-said-requires c).After-fields_of-fields c.loop-field.field-index c.loop-field-test.true)

pub non_digit_at-requires : goal.non_digit_at-requires
non_digit_at-requires c = non-digit-near _ _ (field-within (goal.at.non_digit_at-requires c).After-fields_of-fields c.loop-field.field-index c.loop-field-test.true) _ c.read_field-said.ensures

pub returns-in_default : goal.returns-in_default
returns-in_default c =
    let k = (goal.at.returns-in_default c).After-fields_of-fields in
    c.refused.ensures
    ∙ rw (sym (all k) ∙ c.loop-field.invariant ∙ bad-here _ _ _ c.loop-field-test.true _ c.read_field-said.ensures (ap is_err c.in_default.is)) (ap (refused_with 7 (k.args.k + 1)) c.non_digit_at.ensures)

pub loop-field-preserved : goal.loop-field-preserved
loop-field-preserved c = c.loop-field.invariant ∙ bad-on _ _ _ c.loop-field-test.true _ (sym c.read_field-said.ensures ∙ c.in-Ok.is)

pub returns : goal.returns
returns c =
    let k = (goal.at.returns c).After-fields_of-fields in
    c.refused-2.ensures ∙ rw (sym (all k) ∙ c.loop-field.invariant ∙ bad-end _ _ _ c.loop-field-test.false)
