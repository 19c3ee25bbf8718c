use Rattle.judge.proofs.Turn.{judged-long, judged-empty, judged-ragged, judged-from-none, ready-none}
use mathlib.Core.Path.{sym, ◌∙◌}
use native.Mathlib.Omega.{arith}
use Rattle.text.proofs.Bytes.{part_length}
use Rattle.judge.proofs.judge.Goals as goal
use Rattle.judge.proofs.judge.Goals.{Else-n-ne0, then-n-eq0-via-then-n-eq0, then-n-eq0-via-else-n-eq0+then-n-ne0}

pub returns-then-n-gt-MOST_BYTES : goal.returns-then-n-gt-MOST_BYTES
returns-then-n-gt-MOST_BYTES c = c.refused.ensures ∙ sym (judged-long _ c.if-n-gt-MOST_BYTES.true)

pub returns-then-n-eq0 : goal.returns-then-n-eq0
returns-then-n-eq0 c =
    c.refused-then-n-eq0.ensures
    ∙ (elim c.then-n-eq0.branch [
      | then-n-eq0-via-then-n-eq0 w ↦ sym (judged-empty _ c.if-n-gt-MOST_BYTES.false w.if-n-eq0.true)
      | then-n-eq0-via-else-n-eq0+then-n-ne0 w ↦ sym (judged-ragged _ c.if-n-gt-MOST_BYTES.false w.if-n-eq0.false w.if-n-ne0.true)
    ])

-- a flow that refusals 1 and 2 leave has a record at least
pub judge_from-requires : goal.judge_from-requires
judge_from-requires c =
    let e = (goal.at.judge_from-requires c).Else-n-ne0 in
    let r = ready-none e.args.flow.now e.if-n-gt-MOST_BYTES.false e.if-n-eq0.false e.if-n-ne0.false in
    (λ h. absurd (omega arith), r, part_length 20 19 e.args.flow.now (let s = r.some in let w = r.whole in omega arith))

pub returns : goal.returns
returns c =
    let e = (goal.at.returns c).Else-n-ne0 in
    c.judge_from.ensures.0 ∙ sym (judged-from-none e.args.flow.now e.if-n-gt-MOST_BYTES.false e.if-n-eq0.false e.if-n-ne0.false)
