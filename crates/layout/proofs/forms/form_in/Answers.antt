use mathlib.Core.Path.{sym, ap, ◌∙◌}
use native.Mathlib.Omega.{arith}
use Rattle.layout.specs.declared.RecordType.TheVariants.{F4, T10, T20, T40, T50, EF, NoType}
use Rattle.layout.specs.Kinds.{same, type_of}
use Rattle.layout.specs.Forms.{form_of}
use Rattle.layout.proofs.Spelled.{no-type, kind-spelled}
use Rattle.layout.proofs.forms.form_in.Goals as goal

pub returns-then-t-eq12340 : goal.returns-then-t-eq12340
unfolding form_of type_of same
returns-then-t-eq12340 c = c.section_form.ensures ∙ ap form_of (sym (kind-spelled _ _ T40 c.requires (let b = c.shared_slice_known-1.given 1 in omega arith) c.pair_at-t.ensures (rw c.if-t-eq12340.true)))

pub returns-in-13382 : goal.returns-in-13382
unfolding form_of type_of same
returns-in-13382 c = c.formed.ensures ∙ ap form_of (sym (kind-spelled _ _ F4 c.requires (let b = c.shared_slice_known-1.given 1 in omega arith) c.pair_at-t.ensures (rw c.in-13382.is)))

pub returns-in-12337 : goal.returns-in-12337
unfolding form_of type_of same
returns-in-12337 c = c.formed-in-12337.ensures ∙ ap form_of (sym (kind-spelled _ _ T10 c.requires (let b = c.shared_slice_known-1.given 1 in omega arith) c.pair_at-t.ensures (rw c.in-12337.is)))

pub returns-in-12338 : goal.returns-in-12338
unfolding form_of type_of same
returns-in-12338 c = c.formed-in-12338.ensures ∙ ap form_of (sym (kind-spelled _ _ T20 c.requires (let b = c.shared_slice_known-1.given 1 in omega arith) c.pair_at-t.ensures (rw c.in-12338.is)))

pub returns-in-12341 : goal.returns-in-12341
unfolding form_of type_of same
returns-in-12341 c = c.payment_form.ensures ∙ ap form_of (sym (kind-spelled _ _ T50 c.requires (let b = c.shared_slice_known-1.given 1 in omega arith) c.pair_at-t.ensures (rw c.in-12341.is)))

pub returns-in-17989 : goal.returns-in-17989
unfolding form_of type_of same
returns-in-17989 c = c.formed-in-17989.ensures ∙ ap form_of (sym (kind-spelled _ _ EF c.requires (let b = c.shared_slice_known-1.given 1 in omega arith) c.pair_at-t.ensures (rw c.in-17989.is)))

pub returns-in_default : goal.returns-in_default
unfolding form_of type_of same
returns-in_default c = let r = c.in_default.in_default-own.rest in c.formed-in_default.ensures ∙ ap form_of (sym (kind-spelled _ _ NoType c.requires (let b = c.shared_slice_known-1.given 1 in omega arith) c.pair_at-t.ensures (no-type _ r.0.0.0.0.1 r.0.0.0.1 r.0.0.1 c.if-t-eq12340.false r.0.1 r.1)))
