use mathlib.Core.Path.{sym, ◌∙◌}
use native.Mathlib.Omega.{arith}
use Rattle.layout.proofs.Spelled.{type-word}
use Rattle.records.proofs.type_in.Goals as goal

pub returns : goal.returns
returns c = c.type_by.ensures ∙ sym (type-word _ _ _ (let b = c.shared_slice_known-1.given 1 in omega arith) c.pair_at.ensures)
