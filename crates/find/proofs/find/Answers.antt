-- `find::find` meets its contract: the judgement's refusal is handed on, and of an accepted flow, which has at most 65,520 bytes, the search gives the answer.
-- the flow is accepted
use Rattle.std.specs.Prelude.{Option, None, Some}
use Rattle.std.specs.Option.{ok_or}
use Rattle.refusal.specs.Refusals.{refusal}
use Rattle.find.specs.Answers.{At, Refused}
use Rattle.find.proofs.Search.{found-refused, found-no-section, found-sought}
use Prim.Native.Nat.{ℕ}
use Rattle.order.specs.Stages.{stage_at, at_start}
use Rattle.refusal.proofs.Handed.{handed_on}
use Rattle.judge.specs.Flow.{records_of, judged}
use Rattle.find.specs.Line.{line_from, numbered, or_absent, found_in}
use Rattle.judge.proofs.Accepted.{accepted-means-no-fault}
use Rattle.judge.specs.declared.Judgement.{Judgement}
use Rattle.judge.specs.Refusal.{Accepted}
use lib.Dec.{eqb}
use mathlib.Core.Bool.{Bool, true, false, cond}
use mathlib.Core.Path.{◌≡◌, refl, sym, ap, ◌∙◌}
use borrow.Enum.Refused.{opened}
use Rattle.find.proofs.find.Goals as goal
use Rattle.find.proofs.find.Goals.{In-Line, In_ok-judge}

accepted : (c : In_ok-judge) → (judged c.args.flow.now).verdict ≡ Accepted
accepted c = ap (λ (j : Judgement). j.verdict) (sym c.judge.ensures) ∙ c.in_ok-judge.was

-- the subtype is that of a section's lines
searched : (c : In-Line) (k : ℕ) → k ≡ line_from c.args.delega c.in-Line.section c.args.nth (stage_at at_start 0 0) 0 0 (records_of c.args.flow.now) → found_in c.args.flow.now c.args.delega c.args.subtype c.args.nth ≡ or_absent k
searched c k e =
    found-sought _ _ _ _ (accepted (goal.at.line_in-requires c).In_ok-judge) _ (sym c.section_kind.ensures ∙ c.in-Line.is) ∙ ap or_absent (sym e)

pub returns-in_err-judge : goal.returns-in_err-judge
returns-in_err-judge c = handed_on c.from_residual.result c.from_residual.ensures ∙ sym (found-refused _ _ _ _ (ap (λ (j : Judgement). j.verdict) (sym c.judge.ensures) ∙ c.in_err-judge.was))

pub returns-in_default : goal.returns-in_default
returns-in_default c = sym (found-no-section _ _ _ _ (accepted (goal.at.returns-in_default c).In_ok-judge) _ c.section_kind.ensures (opened c.in_default.in_default-own.keys2))

pub line_in-requires : goal.line_in-requires
line_in-requires c = (accepted-means-no-fault _ (accepted (goal.at.line_in-requires c).In_ok-judge)).whole.short

-- a line that has no number is refused
absent : (k : ℕ) → ok_or (numbered k) (refusal 21 0 0) ≡ or_absent k
absent k = go (eqb k 0)
  where
    go : (b : Bool) → ok_or (cond b None (Some k)) (refusal 21 0 0) ≡ cond b (Refused 21 0 0) (At k)
    go true = refl
    go false = refl

pub returns : goal.returns
returns c =
    let q = (goal.at.returns c).In-Line in
    c.ok_or.ensures.value ∙ (ap (λ (o : Option ℕ). ok_or o (refusal 21 0 0)) c.line_in.ensures ∙ (absent _ ∙ sym (searched q _ refl)))
