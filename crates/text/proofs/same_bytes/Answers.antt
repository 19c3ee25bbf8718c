-- `text::same_bytes` meets its contract: `==` tells whether the parts are equal.
use mathlib.Core.Path.{sym, ◌∙◌}
use Rattle.text.proofs.Same.{same-pairs}
use Rattle.text.proofs.same_bytes.Goals as goal

pub returns : goal.returns
returns c = c.eq.ensures ∙ sym (same-pairs _ _)
