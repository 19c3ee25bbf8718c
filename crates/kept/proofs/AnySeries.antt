-- "After any series of these from an accepted flow, refused ones included, the kept sums equal those of the lines"; and with a record that is not the flow's own a series changes nothing.
use Rattle.std.specs.Prelude.{Err}
use Prim.Native.Nat.{ℕ}
use mathlib.Core.Path.{◌≡◌, refl, sym, ap, ap₂, ◌∙◌}
use mathlib.Core.List.{List, [], ◌∷◌}
use lib.ListN.{take}
use Rattle.judge.specs.declared.Judgement.{Judgement}
use Rattle.judge.specs.Refusal.{Accepted}
use Rattle.judge.specs.Flow.{judged}
use Rattle.correct.specs.Answers.{Correction}
use Rattle.correct.specs.Answers as Amend
use Rattle.correct.proofs.StaysAccepted.{corrected-accepted}
use Rattle.mend.specs.Answers.{Mending}
use Rattle.mend.specs.Answers as Mend
use Rattle.mend.proofs.MendedFlow.{mended-accepted}
use Rattle.dropping.specs.Answers.{Dropping}
use Rattle.dropping.specs.Answers as Shorter
use Rattle.dropping.proofs.Dropped.{dropped-accepted}
use Rattle.sums.specs.declared.KeptSums.{KeptSums}
use Rattle.sums.specs.LineSums.{kept_of}
use Rattle.sums.proofs.Adding.{accepted-sums}
use Rattle.kept.specs.Keeping.{correction_with, mending_with, dropping_with, dropped_with}
use Rattle.kept.specs.Series.{Beside, Call, Correct, Rebalance, Drop, cut_to, after_call, after_calls, Stands, with_kept}
use Rattle.kept.proofs.Answered.{correction-done, mending-done, dropping-done}
use Rattle.kept.proofs.HandedBack.{kept-made, correction-refused, correction-made, mending-refused, mending-made, dropping-refused, dropping-made}

-- The record is the flow's own where it was so before, and both are as they came.
as-came : (b : Beside) {g : List ℕ} {l : KeptSums} → b.kept ≡ kept_of b.flow → g ≡ b.flow → l ≡ b.kept → l ≡ kept_of g
as-came b w eg el = el ∙ (w ∙ ap kept_of (sym eg))

-- The flow after a dropping, by the answer.
cut_by : (b : Beside) (numbers : List ℕ) {a : Dropping} → dropping_with b.kept b.flow numbers ≡ a → cut_to (dropping_with b.kept b.flow numbers) (dropped_with b.kept b.flow numbers) ≡ cut_to a (dropped_with b.kept b.flow numbers)
cut_by b numbers e = ap (λ (x : Dropping). cut_to x (dropped_with b.kept b.flow numbers)) e

-- With the flow's own record, of a flow that is accepted or not, each call hands back the record of the flow as it is then.
pub call-owns : (c : Call) (b : Beside) → b.kept ≡ kept_of b.flow → (after_call c b).kept ≡ kept_of (after_call c b).flow
call-owns (Correct c) b w = go (correction_with b.kept b.flow c.delega c.subtype c.nth c.debit c.credit) refl
  where
    go : (a : Correction) → correction_with b.kept b.flow c.delega c.subtype c.nth c.debit c.credit ≡ a → (after_call (Correct c) b).kept ≡ kept_of (after_call (Correct c) b).flow
    go Amend.Made e = (correction-made b.kept b.flow c.delega c.subtype c.nth c.debit c.credit e).1
    go (Err why) e = let h = correction-refused b.kept b.flow c.delega c.subtype c.nth c.debit c.credit e in as-came b w h.0 h.1
call-owns (Rebalance list) b w = go (mending_with b.kept b.flow list) refl
  where
    go : (a : Mending) → mending_with b.kept b.flow list ≡ a → (after_call (Rebalance list) b).kept ≡ kept_of (after_call (Rebalance list) b).flow
    go (Mend.Mended m) e = (mending-made b.kept b.flow list e).2
    go (Err why) e = let h = mending-refused b.kept b.flow list e in as-came b w h.0 h.2
call-owns (Drop numbers) b w = go (dropping_with b.kept b.flow numbers) refl
  where
    go : (a : Dropping) → dropping_with b.kept b.flow numbers ≡ a → (after_call (Drop numbers) b).kept ≡ kept_of (after_call (Drop numbers) b).flow
    go (Shorter.Dropped m) e = (dropping-made b.kept b.flow numbers e).1 ∙ ap kept_of (sym (cut_by b numbers e))
    go (Err why) e = let h = dropping-refused b.kept b.flow numbers e in as-came b w (cut_by b numbers e ∙ h.0) h.1

-- An accepted flow stays accepted.
call-accepts : (c : Call) (b : Beside) → (judged b.flow).verdict ≡ Accepted → (judged (after_call c b).flow).verdict ≡ Accepted
call-accepts (Correct c) b w = go (correction_with b.kept b.flow c.delega c.subtype c.nth c.debit c.credit) refl
  where
    go : (a : Correction) → correction_with b.kept b.flow c.delega c.subtype c.nth c.debit c.credit ≡ a → (judged (after_call (Correct c) b).flow).verdict ≡ Accepted
    go Amend.Made e =
        ap (λ (s : List ℕ). (judged s).verdict) (correction-made b.kept b.flow c.delega c.subtype c.nth c.debit c.credit e).0
        ∙ ap (λ (j : Judgement). j.verdict) (corrected-accepted b.flow c.delega c.subtype c.nth c.debit c.credit ((correction-done b.kept b.flow c.delega c.subtype c.nth c.debit c.credit).0 e).0)
    go (Err why) e = ap (λ (s : List ℕ). (judged s).verdict) (correction-refused b.kept b.flow c.delega c.subtype c.nth c.debit c.credit e).0 ∙ w
call-accepts (Rebalance list) b w = go (mending_with b.kept b.flow list) refl
  where
    go : (a : Mending) → mending_with b.kept b.flow list ≡ a → (judged (after_call (Rebalance list) b).flow).verdict ≡ Accepted
    go (Mend.Mended m) e =
        ap (λ (s : List ℕ). (judged s).verdict) (mending-made b.kept b.flow list e).0
        ∙ ap (λ (j : Judgement). j.verdict) (mended-accepted b.flow list ((mending-done b.kept b.flow list m).0 e).0)
    go (Err why) e = ap (λ (s : List ℕ). (judged s).verdict) (mending-refused b.kept b.flow list e).0 ∙ w
call-accepts (Drop numbers) b w = go (dropping_with b.kept b.flow numbers) refl
  where
    go : (a : Dropping) → dropping_with b.kept b.flow numbers ≡ a → (judged (after_call (Drop numbers) b).flow).verdict ≡ Accepted
    go (Shorter.Dropped m) e =
        ap (λ (s : List ℕ). (judged s).verdict) (cut_by b numbers e ∙ ap (take m) (dropping-made b.kept b.flow numbers e).0)
        ∙ dropped-accepted b.flow numbers ((dropping-done b.kept b.flow numbers m).0 e).0
    go (Err why) e = ap (λ (s : List ℕ). (judged s).verdict) (cut_by b numbers e ∙ (dropping-refused b.kept b.flow numbers e).0) ∙ w

-- So each call keeps an accepted flow with its own record beside it.
pub call-keeps : (c : Call) (b : Beside) → Stands b → Stands (after_call c b)
call-keeps c b w = record { accepted = call-accepts c b w.accepted; own = call-owns c b w.own }

-- So does any series.
pub series-keeps : (cs : List Call) (b : Beside) → Stands b → Stands (after_calls cs b)
unfolding after_calls
series-keeps [] b w = w
series-keeps (c ∷ cs) b w = series-keeps cs (after_call c b) (call-keeps c b w)

-- From an accepted flow and the record made of it: the flow is accepted, the record has the sums of its lines, and these are the sums that its judgement answers.
pub series-from-kept : (cs : List Call) (f : List ℕ) → (judged f).verdict ≡ Accepted →
    let b = after_calls cs (with_kept f) in
    ((judged b.flow).verdict ≡ Accepted) × (b.kept ≡ kept_of b.flow) × (b.kept.sums ≡ (judged b.flow).summary.sums)
series-from-kept cs f e =
    let w = series-keeps cs (with_kept f) (record { accepted = e; own = kept-made f e }) in
    (w.accepted, w.own, ap (λ (k : KeptSums). k.sums) w.own ∙ sym (accepted-sums _ w.accepted))

-- "a call with sums that don't match the flow changes nothing", and hands the record back as it came.
pub call-changes-nothing : (c : Call) (b : Beside) → (b.kept ≡ kept_of b.flow → ⊥) → after_call c b ≡ b
call-changes-nothing (Correct c) b h = go (correction_with b.kept b.flow c.delega c.subtype c.nth c.debit c.credit) refl
  where
    go : (a : Correction) → correction_with b.kept b.flow c.delega c.subtype c.nth c.debit c.credit ≡ a → after_call (Correct c) b ≡ b
    go Amend.Made e = absurd (h ((correction-done b.kept b.flow c.delega c.subtype c.nth c.debit c.credit).0 e).1)
    go (Err why) e = let w = correction-refused b.kept b.flow c.delega c.subtype c.nth c.debit c.credit e in ap₂ (λ s l. record { flow = s; kept = l }) w.0 w.1
call-changes-nothing (Rebalance list) b h = go (mending_with b.kept b.flow list) refl
  where
    go : (a : Mending) → mending_with b.kept b.flow list ≡ a → after_call (Rebalance list) b ≡ b
    go (Mend.Mended m) e = absurd (h ((mending-done b.kept b.flow list m).0 e).1)
    go (Err why) e = let w = mending-refused b.kept b.flow list e in ap₂ (λ s l. record { flow = s; kept = l }) w.0 w.2
call-changes-nothing (Drop numbers) b h = go (dropping_with b.kept b.flow numbers) refl
  where
    go : (a : Dropping) → dropping_with b.kept b.flow numbers ≡ a → after_call (Drop numbers) b ≡ b
    go (Shorter.Dropped m) e = absurd (h ((dropping-done b.kept b.flow numbers m).0 e).1)
    go (Err why) e =
        let w = dropping-refused b.kept b.flow numbers e in
        ap₂ (λ s l. record { flow = s; kept = l }) (cut_by b numbers e ∙ w.0) w.1

-- So a series does.
pub series-changes-nothing : (cs : List Call) (b : Beside) → (b.kept ≡ kept_of b.flow → ⊥) → after_calls cs b ≡ b
unfolding after_calls
series-changes-nothing [] b h = refl
series-changes-nothing (c ∷ cs) b h = ap (after_calls cs) (call-changes-nothing c b h) ∙ series-changes-nothing cs b h
