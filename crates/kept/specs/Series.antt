-- For theorems. A series of calls on a flow with a record beside it.
use Rattle.std.specs.Prelude.{ℕ, ◌≡◌, List, [], ◌∷◌, take, Err}
use Rattle.judge.specs.Refusal.{Accepted}
use Rattle.judge.specs.Flow.{judged}
use Rattle.correct.specs.Effect as Plain
use Rattle.dropping.specs.Answers.{Dropping}
use Rattle.dropping.specs.Answers as Shorter
use Rattle.sums.specs.declared.KeptSums.{KeptSums}
use Rattle.sums.specs.LineSums.{kept_of}
use Rattle.kept.specs.Keeping.{keeping, corrected_with, correction_kept, mended_with, mending_kept, dropping_with, dropped_with, dropping_kept}

-- A flow, and the record beside it.
pub record Beside : Type 0 where
  pub flow : List ℕ
  pub kept : KeptSums

-- "each correction, rebalancing and dropping": one call of a series. A correction names a line and its new amounts as the plain one does; a rebalancing is lent a list; a dropping is given numbers.
pub data Call : Type 0 where
  Correct : Plain.Call → Call
  Rebalance : List ℕ → Call
  Drop : List ℕ → Call

-- "the new length is answered": the flow after a dropping is of that length.
abbrev pub cut_to : Dropping → List ℕ → List ℕ
cut_to (Shorter.Dropped n) g = take n g
cut_to (Err why) g = g

-- The flow after a call, and the record that it hands back.
abbrev pub after_call : Call → Beside → Beside
after_call (Correct c) b =
    record { flow = corrected_with b.kept b.flow c.delega c.subtype c.nth c.debit c.credit; kept = (correction_kept b.kept b.flow c.delega c.subtype c.nth c.debit c.credit).kept }
after_call (Rebalance list) b = record { flow = mended_with b.kept b.flow list; kept = (mending_kept b.kept b.flow list).kept }
after_call (Drop numbers) b = record { flow = cut_to (dropping_with b.kept b.flow numbers) (dropped_with b.kept b.flow numbers); kept = (dropping_kept b.kept b.flow numbers).kept }

-- The flow and the record after calls one after the other.
unfoldable pub after_calls : List Call → Beside → Beside
after_calls [] b = b
after_calls (c ∷ cs) b = after_calls cs (after_call c b)

-- The flow is accepted, and the record beside it is its own.
pub record Stands (b : Beside) : Type 0 where
  pub accepted : (judged b.flow).verdict ≡ Accepted
  pub own : b.kept ≡ kept_of b.flow

-- The record made from a flow, beside it.
abbrev pub with_kept : List ℕ → Beside
with_kept f = record { flow = f; kept = (keeping f).kept }
