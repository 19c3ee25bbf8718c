-- `text::first_bad` meets its contract: the pass over all bytes says whether a search is needed.
use mathlib.Core.Path.{sym, ◌∙◌}
use Rattle.text.proofs.Allowed.{all-is-allowed}
use Rattle.text.proofs.first_bad.Goals as goal

pub returns-then-all_allowed : goal.returns-then-all_allowed
returns-then-all_allowed c = sym (all-is-allowed _ (sym c.all_allowed.ensures ∙ c.if-all_allowed.true))
