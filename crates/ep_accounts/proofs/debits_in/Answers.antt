use mathlib.Core.Path.{refl, ap}
use native.Mathlib.Omega.{arith}
use Rattle.std.specs.Result.{is_err}
use Rattle.ep_accounts.specs.Accounts.{digits_to, debits_to}
use Rattle.ep_accounts.proofs.Rows.{debits-spoilt, sum_fits, digits_more, debits-more, debits-all}
use Rattle.ep_accounts.proofs.debits_in.Goals as goal

pub loop-k-init : goal.loop-k-init
unfolding digits_to debits_to
loop-k-init c = (refl, refl)

pub debit_of-requires : goal.debit_of-requires
debit_of-requires c = (c.requires, c.loop-k-test.true)

pub returns-in_default : goal.returns-in_default
returns-in_default c = debits-spoilt _ _ _ c.debit_of.ensures c.loop-k-test.true (ap is_err c.in_default.is)

pub overflow_add-sum : goal.overflow_add-sum
overflow_add-sum c = omega (arith, sum_fits _ _ _ c.debit_of.ensures _ c.in-Ok.is _ c.loop-k.invariant.1 c.requires c.loop-k-test.true)

pub loop-k-preserved : goal.loop-k-preserved
loop-k-preserved c =
    let e = c.debit_of.ensures in
    let v = c.in-Ok.is in
    let l = c.loop-k in
    (digits_more _ _ _ e _ v l.invariant.0, debits-more _ _ _ e _ v _ l.invariant.1)

pub returns : goal.returns
returns c = debits-all _ c.loop-k.k _ (omega arith) c.loop-k.invariant.0 c.loop-k.invariant.1
