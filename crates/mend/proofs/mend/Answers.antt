-- `mend::mend` meets its contract.
use mathlib.Core.Path.{sym, ◌∙◌}
use Rattle.refusal.proofs.Handed.{handed_on}
use Rattle.mend.proofs.Answering.{answer-refused, answer-passed, passed-whole}
use Rattle.mend.proofs.mend.Goals as goal

pub weigh-requires : goal.weigh-requires
weigh-requires c = passed-whole _ (sym c.first_remaining.ensures ∙ c.in_ok-first_remaining.was)

pub returns-in_err-first_remaining : goal.returns-in_err-first_remaining
returns-in_err-first_remaining c = rw (handed_on c.from_residual.result c.from_residual.ensures) (answer-refused _ _ _ _ _ (sym c.first_remaining.ensures ∙ c.in_err-first_remaining.was))

pub returns : goal.returns
returns c =
    answer-passed _ _ (sym c.first_remaining.ensures ∙ c.in_ok-first_remaining.was) _ _ _ c.weigh.ensures.0 c.weigh.ensures.1 c.weigh.ensures.2
