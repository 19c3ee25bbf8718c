-- `kept::rebalance_kept` meets its contract.
use mathlib.Core.Path.{sym, ap, ◌∙◌}
use Rattle.kept.specs.Inner.{or_foreign}
use Rattle.kept.proofs.Calls.{mismatch-lenient}
use Rattle.kept.proofs.Guarded.{matched-stands}
use Rattle.kept.proofs.Mended.{answer-none, answer-plain}
use Rattle.kept.proofs.rebalance_kept.Goals as goal

pub returns-then-not-matches : goal.returns-then-not-matches
returns-then-not-matches c = rw c.unmatched.ensures (answer-none _ _ _ (sym c.matches.ensures ∙ c.if-not-matches.true) _ (ap or_foreign c.first_remaining.ensures ∙ mismatch-lenient _))

pub returns : goal.returns
returns c = answer-plain _ _ _ (matched-stands _ _ (sym c.matches.ensures ∙ c.if-not-matches.false)).0 _ c.mend-answer.ensures.0 _ _ c.mend-answer.ensures.1 c.mend-answer.ensures.2
