-- `lenient::kept_fault` meets its contract: the checks one by one, each left by a return where it fails.
-- What checks 4 and 6 said, and check 8.
use mathlib.Core.Path.{◌≡◌, sym, ap, ◌∙◌}
use Rattle.refusal.proofs.Handed.{handed_on}
use Rattle.layout.specs.Kinds.{type_in}
use Rattle.layout.specs.Fields.{delega_number, value_of}
use Rattle.order.specs.Order.{standing}
use Rattle.rules.specs.Checks.{number_fault}
use Rattle.lenient.specs.Inner.{kept_of}
use Rattle.lenient.proofs.KeptFields.{first-number}
use Rattle.lenient.proofs.kept_fault.Goals as goal
use Rattle.lenient.proofs.kept_fault.Goals.{After-number_fault, After-standing_of}

stood : (c : After-standing_of) →
    let a = c.args in standing a.st.stage (type_in a.rec.now) a.kind ≡ c.standing_of.result
stood c = rw (← c.type_in.ensures) (sym c.standing_of.ensures)

counted : (c : After-number_fault) →
    let a = c.args in number_fault a.st.deleghe a.kind (value_of a.rec.now delega_number) ≡ c.number_fault.result
counted c = sym (c.number_fault.ensures ∙ (ap (number_fault _ _) c.first_value-n.ensures ∙ first-number _ _ _))

pub returns-in_err-standing_of : goal.returns-in_err-standing_of
unfolding kept_of
returns-in_err-standing_of c =
    rw (stood (goal.at.returns-in_err-standing_of c).After-standing_of ∙ c.in_err-standing_of.was) (handed_on c.from_residual.result c.from_residual.ensures)

pub returns-in_err-digits_fault : goal.returns-in_err-digits_fault
unfolding kept_of
returns-in_err-digits_fault c =
    let d = c in
    rw (stood (goal.at.returns-in_err-digits_fault c).After-standing_of ∙ d.in_ok-standing_of.was, ← d.digits_fault.ensures, c.in_err-digits_fault.was) (handed_on c.from_residual-in_err-digits_fault.result c.from_residual-in_err-digits_fault.ensures)

pub returns-in_err-number_fault : goal.returns-in_err-number_fault
unfolding kept_of
returns-in_err-number_fault c =
    let n = (goal.at.returns-in_err-number_fault c).After-number_fault in
    let d = n in
    rw (stood (goal.at.returns-in_err-number_fault c).After-standing_of ∙ d.in_ok-standing_of.was, ← d.digits_fault.ensures, n.in_ok-digits_fault.was, counted n ∙ c.in_err-number_fault.was) (handed_on c.from_residual-in_err-number_fault.result c.from_residual-in_err-number_fault.ensures)

pub returns : goal.returns
unfolding kept_of
returns c =
    let n = (goal.at.returns c).After-number_fault in
    let d = n in
    rw (stood (goal.at.returns c).After-standing_of ∙ d.in_ok-standing_of.was, ← d.digits_fault.ensures, n.in_ok-digits_fault.was, counted n ∙ c.in_ok-number_fault.was) c.own_fault.ensures
