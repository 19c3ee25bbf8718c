-- `correct::replace` meets its contract: where a delega turns negative or a value does not fit, putting the old bytes back undoes the writing.
-- After `outcome`: the function's entry, the flow as it came and with the new amounts, and what is answered.
use Rattle.rebalance.specs.Rebalance.{refreshed}
use Rattle.correct.specs.Answers.{Correction}
use Rattle.correct.specs.Correction.{bytes_after, weighed}
use Rattle.correct.specs.Writing.{amounts_put}
use Rattle.correct.proofs.Undone.{restored, whole-amounts, weighed-by, made-fits}
use mathlib.Core.List.{List}
use mathlib.Core.Path.{◌≡◌, sym, ap, ◌∙◌}
use Prim.Native.Nat.{ℕ}
use Rattle.correct.proofs.replace.Goals as goal
use Rattle.correct.proofs.replace.Goals.{After-outcome-answer}

abbrev Weighed : Type 0
Weighed = After-outcome-answer

abbrev flow : Weighed → List ℕ
flow c = c.args.flow.now

abbrev new : Weighed → List ℕ
new c = amounts_put c.args.debit_at c.args.credit_at c.args.debit c.args.credit (flow c)

wrote : (c : Weighed) → c.put_amounts.new.flow ≡ new c
wrote c = c.put_amounts.ensures

answered : (c : Weighed) → c.outcome-answer.result ≡ weighed (new c)
answered c = c.outcome-answer.ensures ∙ weighed-by (new c) _ _ (rw (wrote c) at c.survey-surveyed.ensures.0) (rw (wrote c) at c.survey-surveyed.ensures.1)

-- What an answer leaves.
left : (c : Weighed) {a : Correction} → c.outcome-answer.result ≡ a → bytes_after c.outcome-answer.result (refreshed (new c)) (flow c) ≡ bytes_after a (refreshed (new c)) (flow c)
left c e = ap (λ (a : Correction). bytes_after a (refreshed (new c)) (flow c)) e

pub rebalance-requires : goal.rebalance-requires
rebalance-requires c =
    let q = (goal.at.rebalance-requires c).After-outcome-answer in
    rw (wrote q) (whole-amounts _ _ _ q.requires.1 _ _ q.requires.0, made-fits (new q) (sym (answered q) ∙ c.in-Ok.is))

pub returns-in-Ok : goal.returns-in-Ok
unfolding refreshed
returns-in-Ok c =
    let q = (goal.at.returns-in-Ok c).After-outcome-answer in
    (answered q, c.rebalance.ensures ∙ (ap refreshed (wrote q) ∙ sym (left q c.in-Ok.is)))

pub returns : goal.returns
returns c =
    let q = (goal.at.returns c).After-outcome-answer in (
      answered q,
      c.put_back.ensures
          ∙ (restored (flow q) _ _ q.requires.1 _ _ _ _ _ q.bytes_at-old_debit.ensures q.bytes_at-old_credit.ensures (wrote q)
          ∙ sym (left q c.in_default.is)),
    )
