-- `ep::after_other` meets its contract.
use mathlib.Core.Path.{sym, ap, ◌∙◌}
use Rattle.refusal.proofs.Handed.{handed_on}
use Rattle.ep.specs.Payments.{after_other}
use Rattle.ep.proofs.after_other.Goals as goal

pub returns-in_err-before : goal.returns-in_err-before
returns-in_err-before c = handed_on c.from_residual.result c.from_residual.ensures ∙ sym (ap (after_other c.args.here) c.in_err-before.was)

pub returns : goal.returns
returns c = rw c.refused.ensures (sym (ap (after_other c.args.here) c.in_ok-before.was))
