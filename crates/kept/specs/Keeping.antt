-- Believed. Ask 10 of document 02: the record of ten sums made from an acceptance, and the three calls that take one and hand one back; 29; the flow and the list afterwards.
use Rattle.std.specs.Prelude.{ℕ, cond, List, Err}
use Rattle.judge.specs.Refusal.{judged_first}
use Rattle.judge.specs.Flow.{judged}
use Rattle.correct.specs.Answers.{Correction}
use Rattle.correct.specs.Answers as Correct
use Rattle.correct.specs.Correction.{bytes_after, correction_of, corrected_bytes}
use Rattle.mend.specs.Answers.{Mending}
use Rattle.mend.specs.Answers as Mend
use Rattle.mend.specs.Mending as Rebalancing
use Rattle.mend.specs.Mending.{remaining, unless, mending_of, mended_flow, mended_list}
use Rattle.dropping.specs.Answers.{Dropping}
use Rattle.dropping.specs.Answers as Drop
use Rattle.dropping.specs.Dropping as Shortening
use Rattle.dropping.specs.Dropping.{shortened, dropping_of, dropped_flow}
use Rattle.sums.specs.declared.KeptSums.{KeptSums}
use Rattle.sums.specs.LineSums.{kept_of, stands_for}
use Rattle.kept.specs.declared.Keeping.{Keeping}
use Rattle.kept.specs.Answers.{CorrectionKept, MendingKept, DroppingKept}

-- "made when the flow is accepted": the sums that its judgement answers, zeros with a refusal
unfoldable pub keeping : List ℕ → Keeping
keeping f = record { verdict = (judged f).verdict; kept = record { sums = (judged f).summary.sums } }

-- "29 for such a call, after the judgement's own refusals and before all others": the answer to a correction that takes a record
unfoldable pub correction_with : KeptSums → List ℕ → ℕ → ℕ → ℕ → ℕ → ℕ → Correction
correction_with k f d subtype n debit credit =
    judged_first Correct.Refused (judged f).verdict (cond (stands_for k f) (correction_of f d subtype n debit credit) (Correct.Refused 29 0 0))

-- "a call with sums that don't match the flow changes nothing": the flow afterwards
unfoldable pub corrected_with : KeptSums → List ℕ → ℕ → ℕ → ℕ → ℕ → ℕ → List ℕ
corrected_with k f d subtype n debit credit = bytes_after (correction_with k f d subtype n debit credit) (corrected_bytes f d subtype n debit credit) f

-- "handed back by each correction": the record of the flow as it is then; "Every refusal leaves lent memory as it came", and so the record
abbrev pub kept_corrected : Correction → KeptSums → KeptSums → KeptSums
kept_corrected Correct.Made new old = new
kept_corrected (Err why) new old = old

-- the answer and the record that is handed back
unfoldable pub correction_kept : KeptSums → List ℕ → ℕ → ℕ → ℕ → ℕ → ℕ → CorrectionKept
correction_kept k f d subtype n debit credit =
    record { answer = correction_with k f d subtype n debit credit; kept = kept_corrected (correction_with k f d subtype n debit credit) (kept_of (corrected_bytes f d subtype n debit credit)) k }

-- the answer to a rebalancing that takes a record: its own judgement is the lenient one, and the lines are compared as they stand
unfoldable pub mending_with : KeptSums → List ℕ → List ℕ → Mending
mending_with k f list = unless (remaining f) (cond (stands_for k f) (mending_of f list) (Mend.Refused 29 0 0))

-- the flow afterwards
unfoldable pub mended_with : KeptSums → List ℕ → List ℕ → List ℕ
mended_with k f list = Rebalancing.flow_by (mending_with k f list) (mended_flow f list) f

-- the list afterwards, which goes by the answer as the flow does
unfoldable pub listed_with : KeptSums → List ℕ → List ℕ → List ℕ
listed_with k f list = Rebalancing.flow_by (mending_with k f list) (mended_list f list) list

-- "handed back by each .. rebalancing"
abbrev pub kept_mended : Mending → KeptSums → KeptSums → KeptSums
kept_mended (Mend.Mended n) new old = new
kept_mended (Err why) new old = old

-- the answer and the record that is handed back
unfoldable pub mending_kept : KeptSums → List ℕ → List ℕ → MendingKept
mending_kept k f list = record { answer = mending_with k f list; kept = kept_mended (mending_with k f list) (kept_of (mended_flow f list)) k }

-- the answer to a dropping that takes a record
unfoldable pub dropping_with : KeptSums → List ℕ → List ℕ → Dropping
dropping_with k f numbers = judged_first Drop.Refused (judged f).verdict (cond (stands_for k f) (dropping_of f numbers) (Drop.Refused 29 0 0))

-- the flow afterwards
unfoldable pub dropped_with : KeptSums → List ℕ → List ℕ → List ℕ
dropped_with k f numbers = Shortening.flow_by (dropping_with k f numbers) (dropped_flow f numbers) f

-- "handed back by each .. dropping"
abbrev pub kept_dropped : Dropping → KeptSums → KeptSums → KeptSums
kept_dropped (Drop.Dropped n) new old = new
kept_dropped (Err why) new old = old

-- the answer and the record that is handed back: that of the flow that is left
unfoldable pub dropping_kept : KeptSums → List ℕ → List ℕ → DroppingKept
dropping_kept k f numbers = record { answer = dropping_with k f numbers; kept = kept_dropped (dropping_with k f numbers) (kept_of (shortened f numbers)) k }
