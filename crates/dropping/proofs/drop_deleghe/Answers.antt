-- `dropping::drop_deleghe` meets its contract.
use mathlib.Core.Path.{◌≡◌, sym, ap, ◌∙◌}
use Rattle.refusal.proofs.Handed.{handed_on}
use Rattle.judge.specs.Flow.{judged}
use Rattle.judge.specs.declared.Judgement.{Judgement}
use Rattle.judge.specs.Refusal.{Accepted}
use Rattle.dropping.specs.Dropping.{weighed}
use Rattle.dropping.proofs.Answering.{answer-refused, answer-accepted}
use Rattle.dropping.proofs.drop_deleghe.Goals as goal
use Rattle.dropping.proofs.drop_deleghe.Goals.{In_ok-judgement}

pub returns-in_err-judgement : goal.returns-in_err-judgement
returns-in_err-judgement c =
    rw (handed_on c.from_residual.result c.from_residual.ensures)
    (answer-refused _ _ _ _ _ (ap (λ (j : Judgement). j.verdict) (sym c.judge-judgement.ensures) ∙ c.in_err-judgement.was))

-- The flow is accepted.
accepted : (c : In_ok-judgement) → (judged c.args.flow.now).verdict ≡ Accepted
accepted c = ap (λ (j : Judgement). j.verdict) (sym c.judge-judgement.ensures) ∙ c.in_ok-judgement.was

pub weigh-requires : goal.weigh-requires
weigh-requires c = record { accepted = accepted (goal.at.weigh-requires c).In_ok-judgement; deleghe = ap (λ (j : Judgement). j.summary.deleghe) (sym c.judge-judgement.ensures) }

pub returns : goal.returns
returns c =
    let w = c in
    let t = (goal.at.returns c).In_ok-judgement in
    let a = t.args in
    answer-accepted _ _ (accepted t) _ _ (w.weigh.ensures.0 ∙ ap (λ (j : Judgement). weighed j.summary.deleghe a.flow.now a.numbers.now) t.judge-judgement.ensures) w.weigh.ensures.1
