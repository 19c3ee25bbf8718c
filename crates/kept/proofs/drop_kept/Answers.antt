-- `kept::drop_kept` meets its contract.
use mathlib.Core.Path.{sym, ap, ◌∙◌}
use native.Mathlib.Omega.{arith}
use lib.ListN.{length-take}
use Rattle.judge.specs.declared.Judgement.{Judgement}
use Rattle.kept.specs.Inner.{or_foreign}
use Rattle.kept.proofs.Calls.{mismatch-strict}
use Rattle.dropping.proofs.Dropped.{dropped-room, dropped-within}
use Rattle.kept.proofs.Guarded.{matched-stands}
use Rattle.kept.proofs.Dropped.{answer-none, answer-dropped, answer-plain}
use Rattle.kept.proofs.drop_kept.Goals as goal

pub returns-then-not-matches : goal.returns-then-not-matches
returns-then-not-matches c = rw c.unmatched.ensures (answer-none _ _ _ (sym c.matches.ensures ∙ c.if-not-matches.true) _ (ap (λ (j : Judgement). or_foreign j.verdict) c.judge.ensures ∙ mismatch-strict _))

pub slice_bounds-of_lines-end : goal.slice_bounds-of_lines-end
slice_bounds-of_lines-end c = dropped-within _ _ _ _ _ c.drop_deleghe-answer.ensures.0 c.drop_deleghe-answer.ensures.1 c.in-Ok.is

pub slice_bounds-of_lines-end-in-Ok : goal.slice_bounds-of_lines-end-in-Ok
slice_bounds-of_lines-end-in-Ok c = rw length-take (omega (arith, dropped-within _ _ _ _ _ c.drop_deleghe-answer.ensures.0 c.drop_deleghe-answer.ensures.1 c.in-Ok.is))

pub of_lines-left-requires : goal.of_lines-left-requires
of_lines-left-requires c =
    let m = matched-stands _ _ (sym c.matches.ensures ∙ c.if-not-matches.false) in
    let r = dropped-room _ _ (sym c.drop_deleghe-answer.ensures.0 ∙ c.in-Ok.is) in
    rw length-take (omega (arith, m.1, r.2))

pub returns-in-Ok : goal.returns-in-Ok
returns-in-Ok c = answer-dropped _ _ _ (matched-stands _ _ (sym c.matches.ensures ∙ c.if-not-matches.false)).0 _ (sym c.drop_deleghe-answer.ensures.0 ∙ c.in-Ok.is) _ c.drop_deleghe-answer.ensures.1 _ c.of_lines-left.ensures

pub returns-in-Err : goal.returns-in-Err
returns-in-Err c = answer-plain _ _ _ (matched-stands _ _ (sym c.matches.ensures ∙ c.if-not-matches.false)).0 _ c.drop_deleghe-answer.ensures.0 _ _ _ c.in-Err.is _ c.drop_deleghe-answer.ensures.1
