-- `changes::list_field` meets its contract.
use mathlib.Core.Path.{sym, ◌∙◌}
use Rattle.changes.specs.Changes.{stays}
use Rattle.changes.proofs.Listing.{field-same, field-changed}
use Rattle.changes.proofs.list_field.Goals as goal

pub returns-then-same_bytes : goal.returns-then-same_bytes
unfolding stays
returns-then-same_bytes c = field-same _ _ _ _ _ _ (sym c.same_bytes.ensures ∙ c.if-same_bytes.true)

pub returns : goal.returns
unfolding stays
returns c =
    let b = c in
    let d = field-changed _ _ _ _ _ _ (sym b.same_bytes.ensures ∙ b.if-same_bytes.false) in
    (d.0, c.put_place.ensures ∙ d.1)
