-- `delega::delega` meets its contract: a refused flow gives its refusal, 0 or a number above the count gives 21, and any other number is looked for.
-- the place where the flow is accepted
use Rattle.delega.proofs.Asked.{delega-of-refused, delega-zero, delega-above, delega-within}
use Rattle.judge.proofs.Accepted.{accepted-means-no-fault}
use Rattle.judge.specs.Flow.{judged}
use Rattle.judge.specs.declared.Judgement.{Judgement}
use Rattle.judge.specs.Refusal.{Accepted}
use mathlib.Core.List.{List}
use mathlib.Core.Logic.{inl, inr}
use Prim.Native.Nat.{ℕ}
use native.Mathlib.Omega.{arith}
use mathlib.Core.Path.{◌≡◌, sym, ap, ◌∙◌}
use Rattle.delega.proofs.delega.Goals as goal
use Rattle.delega.proofs.delega.Goals.{In_default}

abbrev AtAccepted : Type 0
AtAccepted = In_default

abbrev flow : AtAccepted → List ℕ
flow c = c.args.flow.now

accepted : (c : AtAccepted) → (judged (flow c)).verdict ≡ Accepted
accepted c = ap (λ (j : Judgement). j.verdict) (sym c.judge-judgement.ensures) ∙ c.in_default.is

count : (c : AtAccepted) → c.judge-judgement.result.summary.deleghe ≡ (judged (flow c)).summary.deleghe
count c = ap (λ (j : Judgement). j.summary.deleghe) c.judge-judgement.ensures

pub returns-in-Err : goal.returns-in-Err
returns-in-Err c = c.refused.ensures ∙ sym (delega-of-refused _ _ (ap (λ (j : Judgement). j.verdict) (sym c.judge-judgement.ensures) ∙ c.in-Err.is))

pub returns-then-number-eq0 : goal.returns-then-number-eq0
returns-then-number-eq0 c =
    let p = (goal.at.returns-then-number-eq0 c).In_default in
    c.refused-then-number-eq0.ensures
    ∙ (elim c.then-number-eq0.either [
      | inl e ↦ sym (delega-zero _ _ (accepted p) e)
      | inr h ↦ sym (delega-above _ _ (accepted p) h.0 (omega (arith, h.1, count p)))
    ])

pub delega_from-requires : goal.delega_from-requires
delega_from-requires c = (accepted-means-no-fault _ (accepted (goal.at.delega_from-requires c).In_default)).whole

pub returns : goal.returns
returns c = c.delega_from.ensures ∙ sym (delega-within _ _ (accepted (goal.at.returns c).In_default) c.if-number-eq0.false (omega (arith, c.if-judgement-number.false, count (goal.at.returns c).In_default)))
