use mathlib.Core.Path.{◌≡◌, refl, sym, ap, ◌∙◌}
use Prim.Native.Nat.{ℕ, ◌-◌, ◌≤◌}
use native.Mathlib.Omega.{arith}
use mathlib.Core.List.{List, ◌++◌, map}
use lib.ListN.{length, take, drop, get_or, replicate}
use Rattle.std.specs.Prelude.{Err}
use Rattle.records.proofs.FieldByField.{inside, in_four, field_is, field-within, non-digit-near, bad-on, bad-here, bad-end, read-on, read-end}
use Rattle.rules.specs.Checks.{bad_fields}
use Rattle.layout.specs.declared.Field.{Field}
use Rattle.layout.specs.declared.Fields.{Fields}
use Rattle.layout.specs.declared.Kind.{Kind}
use Rattle.layout.specs.Fields.{nowhere, listed, fields_of, bytes_of, value_of}
use Rattle.std.specs.Result.{is_err}
use Rattle.text.specs.Answers.{Digits}
use Rattle.text.specs.Numbers.{number_of, amount_of}
use Rattle.records.specs.Reading.{non_digit_at, values_read}
use Rattle.records.proofs.values_in.Goals as goal
use Rattle.records.proofs.values_in.Goals.{After-read_field-said, At-loop-f, In-loop-f}

abbrev AtLoop : Type 0
AtLoop = At-loop-f

abbrev kind : AtLoop → Kind
kind c = c.args.kind

abbrev rec : AtLoop → List ℕ
rec c = c.args.rec.now

abbrev fs : AtLoop → Fields
fs c = c.fields_of-fields.result

listed-are : (c : AtLoop) → fs c ≡ listed (fields_of (kind c))
listed-are c = c.fields_of-fields.ensures

-- what has been found so far, of the fields of this kind
abbrev held : (c : AtLoop) → (c.loop-f.f ≤ length (fields_of (kind c))) × (bad_fields (fields_of (kind c)) (rec c) ≡ bad_fields (drop c.loop-f.f (fields_of (kind c))) (rec c)) × (c.loop-f.values ≡ map (value_of (rec c)) (take c.loop-f.f (fields_of (kind c))) ++ replicate (4 - c.loop-f.f) 0)
held c = c.loop-f.invariant (kind c) (listed-are c)

-- a field is looked at
abbrev AtField : Type 0
AtField = In-loop-f

abbrev loop-of : AtField → AtLoop
loop-of c = (goal.at.offset_bounds-fields-f c).At-loop-f

abbrev f-of : AtField → ℕ
f-of c = (loop-of c).loop-f.f

-- what was read of it
read : (p : AtField) (q : Kind) (d : Digits) → fs (loop-of p) ≡ listed (fields_of q) → d ≡ number_of (bytes_of (rec (loop-of p)) (get_or (fs (loop-of p)).fields (f-of p) nowhere)) → d ≡ number_of (bytes_of (rec (loop-of p)) (get_or (fields_of q) (f-of p) nowhere))
read p q d e s =
    s ∙ ap (λ (x : Field). number_of (bytes_of (rec (loop-of p)) x)) (field_is q (fs (loop-of p)) e (f-of p) p.loop-f-test.true)

pub loop-f-init : goal.loop-f-init
loop-f-init c = λ q e. (omega arith, refl, refl)

pub offset_bounds-fields-f : goal.offset_bounds-fields-f
offset_bounds-fields-f c = omega (arith, in_four (kind (loop-of c)) (fs (loop-of c)) (listed-are (loop-of c)) (f-of c) c.loop-f-test.true)

pub bounds-fields-f : goal.bounds-fields-f
bounds-fields-f c = in_four (kind (loop-of c)) (fs (loop-of c)) (listed-are (loop-of c)) (f-of c) c.loop-f-test.true

pub read_field-said-requires : goal.read_field-said-requires
read_field-said-requires c = (c.requires, field-within (kind (loop-of (goal.at.read_field-said-requires c).In-loop-f)) (fs (loop-of (goal.at.read_field-said-requires c).In-loop-f)) (listed-are (loop-of (goal.at.read_field-said-requires c).In-loop-f)) (f-of (goal.at.read_field-said-requires c).In-loop-f) c.loop-f-test.true)

pub non_digit_at-requires : goal.non_digit_at-requires
non_digit_at-requires c =
    let p = (goal.at.non_digit_at-requires c).In-loop-f in
    let l = loop-of p in
    non-digit-near _ (rec l) (field-within (kind l) (fs l) (listed-are l) (f-of p) p.loop-f-test.true) _ c.read_field-said.ensures

pub returns-in_default : goal.returns-in_default
unfolding values_read
returns-in_default c =
    let r = (goal.at.returns-in_default c).After-read_field-said in
    let p = (goal.at.returns-in_default c).In-loop-f in
    let l = loop-of p in
    let h = inside (kind l) (fs l) (listed-are l) (f-of p) p.loop-f-test.true in
    rw ((held l).1 ∙ bad-here _ _ _ h _ (read p (kind l) _ (listed-are l) r.read_field-said.ensures) (ap is_err c.in_default.is)) (ap Err (c.non_digit_at.ensures ∙ ap (λ (x : Field). non_digit_at x r.read_field-said.result) (field_is (kind l) (fs l) (listed-are l) (f-of p) p.loop-f-test.true)))

pub offset_bounds-values-f : goal.offset_bounds-values-f
offset_bounds-values-f c = let q = (goal.at.offset_bounds-values-f c).In-loop-f in omega (arith, in_four (kind (loop-of q)) (fs (loop-of q)) (listed-are (loop-of q)) (f-of q) q.loop-f-test.true)

pub bounds-values-f : goal.bounds-values-f
bounds-values-f c = let q = (goal.at.bounds-values-f c).In-loop-f in in_four (kind (loop-of q)) (fs (loop-of q)) (listed-are (loop-of q)) (f-of q) q.loop-f-test.true

pub loop-f-smaller : goal.loop-f-smaller
loop-f-smaller c = let q = (goal.at.loop-f-smaller c).In-loop-f in omega (arith, q.loop-f-test.true)

pub loop-f-preserved : goal.loop-f-preserved
loop-f-preserved c = λ q e.
    let r = (goal.at.loop-f-preserved c).After-read_field-said in
    let p = (goal.at.loop-f-preserved c).In-loop-f in
    let h = inside q (fs (loop-of p)) e (f-of p) p.loop-f-test.true in
    let i = (loop-of p).loop-f.invariant q e in
    let v = sym (read p q _ e r.read_field-said.ensures) ∙ c.in-Ok.is in
    (omega (arith, h), i.1 ∙ bad-on _ _ _ h _ v, rw (i.2, ← (ap amount_of v)) (read-on _ _ _ h 4 (in_four q (fs (loop-of p)) e (f-of p) p.loop-f-test.true)))

pub returns : goal.returns
unfolding values_read
returns c =
    let l = (goal.at.returns c).At-loop-f in
    let e : length (fields_of (kind l)) ≡ l.loop-f.f = let i = (held l).0 in omega (arith, c.loop-f-test.false, ap (λ (x : Fields). x.count) (listed-are l)) in
    rw ((held l).1 ∙ bad-end (fields_of (kind l)) (rec l) l.loop-f.f (omega arith), (held l).2 ∙ read-end _ _ _ e)
