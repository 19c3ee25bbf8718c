use Prim.Native.Nat.{ℕ, ◌<◌}
use mathlib.Core.Path.{◌≡◌, refl, sym, ap, subst, ◌∙◌}
use mathlib.Core.List.{List}
use native.Mathlib.Omega.{arith}
use lib.ListN.{length, take, get_or}
use Rattle.layout.specs.declared.Field.{Field}
use Rattle.layout.specs.declared.Fields.{Fields}
use Rattle.layout.specs.Fields.{Within, nowhere}
use Rattle.refusal.specs.Outcomes.{Fails}
use Rattle.rules.specs.Checks.{bad_fields}
use Rattle.records.proofs.FieldByField.{non-digit-near, bad-on, bad-here, bad-end}
use Rattle.rebalance.specs.Rebalance.{kept_fields}
use Rattle.lenient.proofs.KeptFields.{kept-listed, kept-within}
use Rattle.std.specs.Result.{is_err}
use Rattle.lenient.proofs.digits_fault.Goals as goal
use Rattle.lenient.proofs.digits_fault.Goals.{After-kept_count}

-- The fields that are looked at are those that are not stored.
abbrev looked : After-kept_count → List Field
looked c = take c.kept_count.result c.fields_of-fields.result.fields

kept-are : (c : After-kept_count) → looked c ≡ kept_fields c.args.kind
kept-are c =
    ap (λ (n : ℕ). take n c.fields_of-fields.result.fields) c.kept_count.ensures
    ∙ (ap (λ (x : Fields). take (length (kept_fields c.args.kind)) x.fields) c.fields_of-fields.ensures ∙ kept-listed c.args.kind)

field-within : (c : After-kept_count) (j : ℕ) → j < length (looked c) → Within (get_or (looked c) j nowhere)
field-within c j h = subst (λ (fl : List Field). Within (get_or fl j nowhere)) (sym (kept-are c)) (kept-within c.args.kind j (omega (arith, h, ap length (kept-are c))))

all : (c : After-kept_count) → bad_fields (looked c) c.args.rec.now ≡ bad_fields (kept_fields c.args.kind) c.args.rec.now
all c = ap (λ (fl : List Field). bad_fields fl c.args.rec.now) (kept-are c)

pub loop-field-init : goal.loop-field-init
loop-field-init c = refl

pub read_field-said-requires : goal.read_field-said-requires
read_field-said-requires c = (c.requires, field-within (goal.at.read_field-said-requires c).After-kept_count c.loop-field.field-index c.loop-field-test.true)

pub non_digit_at-requires : goal.non_digit_at-requires
non_digit_at-requires c = non-digit-near _ _ (field-within (goal.at.non_digit_at-requires c).After-kept_count c.loop-field.field-index c.loop-field-test.true) _ c.read_field-said.ensures

pub returns-in_default : goal.returns-in_default
returns-in_default c =
    let k = (goal.at.returns-in_default c).After-kept_count in
    ap (Fails 7) c.non_digit_at.ensures ∙ sym (sym (all k) ∙ c.loop-field.invariant ∙ bad-here _ _ _ c.loop-field-test.true _ c.read_field-said.ensures (ap is_err c.in_default.is))

pub loop-field-preserved : goal.loop-field-preserved
loop-field-preserved c = c.loop-field.invariant ∙ bad-on _ _ _ c.loop-field-test.true _ (sym c.read_field-said.ensures ∙ c.in-Ok.is)

pub returns : goal.returns
returns c =
    let k = (goal.at.returns c).After-kept_count in
    sym (sym (all k) ∙ c.loop-field.invariant ∙ bad-end _ _ _ c.loop-field-test.false)
