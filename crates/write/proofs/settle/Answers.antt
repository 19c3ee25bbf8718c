-- `write::settle` meets its contract.
use mathlib.Core.Path.{refl, sym, ◌∙◌}
use Rattle.refusal.proofs.Handed.{handed_on}
use Rattle.write.proofs.Settled.{settled-refused, settled-unfit, settled-written, settled-room}
use Rattle.write.proofs.settle.Goals as goal

pub returns-in_err-judge_kept : goal.returns-in_err-judge_kept
returns-in_err-judge_kept c = rw (handed_on c.from_residual.result c.from_residual.ensures) (settled-refused _ _ _ c.judge_kept.ensures _ _ _ c.in_err-judge_kept.was, refl)

pub rebalance-requires : goal.rebalance-requires
rebalance-requires c = (c.requires.0, sym c.survey.ensures.1 ∙ c.if-survey.true)

pub returns-then-survey : goal.returns-then-survey
returns-then-survey c =
    let r = c.rebalance.ensures in
    (settled-written _ _ _ c.judge_kept.ensures c.in_ok-judge_kept.was _ c.survey.ensures.1 c.requires.0 c.if-survey.true _ r, settled-room _ _ _ _ c.requires.0 c.requires.1 r c.put_part.ensures.1)

pub returns : goal.returns
returns c = (settled-unfit _ _ _ c.judge_kept.ensures c.in_ok-judge_kept.was _ c.survey.ensures.1 c.if-survey.false, refl)
