-- `kept::correct_kept` meets its contract.
use mathlib.Core.Path.{sym, ap, ◌∙◌}
use native.Mathlib.Omega.{arith}
use lib.ListN.{length}
use Rattle.judge.specs.declared.Judgement.{Judgement}
use Rattle.kept.specs.Inner.{or_foreign}
use Rattle.kept.proofs.Calls.{mismatch-strict}
use Rattle.correct.proofs.StaysAccepted.{corrected-length}
use Rattle.kept.proofs.Guarded.{matched-stands}
use Rattle.kept.proofs.Corrected.{answer-none, answer-made, answer-plain}
use Rattle.kept.proofs.correct_kept.Goals as goal

pub returns-then-not-matches : goal.returns-then-not-matches
returns-then-not-matches c = rw c.unmatched.ensures (answer-none _ _ _ _ _ _ _ (sym c.matches.ensures ∙ c.if-not-matches.true) _ (ap (λ (j : Judgement). or_foreign j.verdict) c.judge.ensures ∙ mismatch-strict _))

pub of_lines-left-requires : goal.of_lines-left-requires
of_lines-left-requires c =
    let m = matched-stands _ _ (sym c.matches.ensures ∙ c.if-not-matches.false) in
    omega (arith, m.1, ap length c.correct-answer.ensures.1 ∙ corrected-length _ _ _ _ _ _)

pub returns-in-Ok : goal.returns-in-Ok
returns-in-Ok c = answer-made _ _ _ _ _ _ _ (matched-stands _ _ (sym c.matches.ensures ∙ c.if-not-matches.false)).0 _ c.correct-answer.ensures.0 c.in-Ok.is _ c.correct-answer.ensures.1 _ c.of_lines-left.ensures

pub returns-in-Err : goal.returns-in-Err
returns-in-Err c = answer-plain _ _ _ _ _ _ _ (matched-stands _ _ (sym c.matches.ensures ∙ c.if-not-matches.false)).0 _ c.correct-answer.ensures.0 _ _ _ c.in-Err.is _ c.correct-answer.ensures.1
