-- `ep::accounts_fault` meets its contract.
use mathlib.Core.Path.{◌≡◌, sym, ap}
use Rattle.ep_accounts.specs.declared.AccountsError.TheVariants as Why
use Rattle.ep.specs.Payments.{accounts_fault}
use Rattle.ep.proofs.accounts_fault.Goals as goal

pub returns-in-Ok : goal.returns-in-Ok
returns-in-Ok c = sym (ap (accounts_fault c.args.here) c.in-Ok.is)

pub returns-in-Err-NonDigit : goal.returns-in-Err-NonDigit
returns-in-Err-NonDigit c =
    let why : c.in-Err-NonDigit.field-0 ≡ Why.NonDigit = rw c.in-Err-NonDigit.is at c.in-Err-NonDigit.field-0-is in
    rw (c.refused.ensures, c.in-Err-NonDigit.is, why)

pub returns-in-Err-Unequal : goal.returns-in-Err-Unequal
returns-in-Err-Unequal c =
    let why : c.in-Err-Unequal.field-0 ≡ Why.Unequal = rw c.in-Err-Unequal.is at c.in-Err-Unequal.field-0-is in
    rw (c.refused-in-Err-Unequal.ensures, c.in-Err-Unequal.is, why)
