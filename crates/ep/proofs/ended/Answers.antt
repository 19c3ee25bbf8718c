-- `ep::ended` meets its contract.
use mathlib.Core.Path.{sym, ◌∙◌}
use Rattle.refusal.proofs.Handed.{handed_on}
use Rattle.ep.specs.Payments.{ended}
use Rattle.ep.proofs.ended.Goals as goal

pub returns-in_err-closing : goal.returns-in_err-closing
unfolding ended
returns-in_err-closing c = rw (handed_on c.from_residual.result c.from_residual.ensures, sym c.closing.ensures ∙ c.in_err-closing.was)

pub returns : goal.returns
unfolding ended
returns c = rw (sym c.closing.ensures ∙ c.in_ok-closing.was)
