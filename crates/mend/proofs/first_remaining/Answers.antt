-- `mend::first_remaining` meets its contract.
use mathlib.Core.Path.{sym, ◌∙◌}
use Rattle.mend.proofs.Answering.{remaining-long, remaining-none, remaining-ragged, remaining-whole}
use Rattle.mend.proofs.first_remaining.Goals as goal
use Rattle.mend.proofs.first_remaining.Goals.{then-n-eq0-via-then-n-eq0, then-n-eq0-via-else-n-eq0+then-n-ne0}

pub returns-then-n-gt-MOST_BYTES : goal.returns-then-n-gt-MOST_BYTES
returns-then-n-gt-MOST_BYTES c = sym (remaining-long _ c.if-n-gt-MOST_BYTES.true)

pub returns-then-n-eq0 : goal.returns-then-n-eq0
returns-then-n-eq0 c =
    elim c.then-n-eq0.branch [
      | then-n-eq0-via-then-n-eq0 w ↦ sym (remaining-none _ c.if-n-gt-MOST_BYTES.false w.if-n-eq0.true)
      | then-n-eq0-via-else-n-eq0+then-n-ne0 w ↦ sym (remaining-ragged _ c.if-n-gt-MOST_BYTES.false w.if-n-eq0.false w.if-n-ne0.true)
    ]

pub returns : goal.returns
returns c = let e = c in c.judge_kept.ensures ∙ sym (remaining-whole _ e.if-n-gt-MOST_BYTES.false e.if-n-eq0.false e.if-n-ne0.false)
