use mathlib.Core.Path.{◌∙◌, sym, ap}
use Rattle.std.specs.Prelude.{Some}
use Rattle.layout.specs.Decision.{balance_by}
use Rattle.layout.proofs.Decision.{decision-is-table}
use Rattle.layout.proofs.kinds.balance_of.Goals as goal

pub returns-in-Some-OfLine : goal.returns-in-Some-OfLine
returns-in-Some-OfLine c = sym (ap (λ x. balance_by (Some x)) c.in-Some-OfLine.field-0-is) ∙ ap balance_by (sym c.in-Some-OfLine.is ∙ c.decide.ensures) ∙ (decision-is-table _).1

pub returns-in-Some-OfBalance : goal.returns-in-Some-OfBalance
returns-in-Some-OfBalance c = sym (ap (λ x. balance_by (Some x)) c.in-Some-OfBalance.field-0-is) ∙ ap balance_by (sym c.in-Some-OfBalance.is ∙ c.decide.ensures) ∙ (decision-is-table _).1

pub returns-in-None : goal.returns-in-None
returns-in-None c = ap balance_by (sym c.in-None.is ∙ c.decide.ensures) ∙ (decision-is-table _).1
