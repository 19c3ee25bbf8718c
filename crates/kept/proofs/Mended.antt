-- A rebalancing that takes a record: where the record stands for the flow it is the plain one and hands the record back, which stands for the flow afterwards; else it is refused and changes nothing.
use Rattle.std.specs.Prelude.{Err}
use Prim.Native.Nat.{ℕ}
use mathlib.Core.Path.{◌≡◌, sym, ap, ◌∙◌}
use mathlib.Core.Bool.{true, false}
use mathlib.Core.List.{List}
use Rattle.amounts.specs.declared.Sums.{Sums}
use Rattle.judge.specs.declared.Judgement.{Judgement}
use Rattle.judge.specs.Flow.{records_of}
use Rattle.mend.specs.Answers.{Mending, Mended, Refused}
use Rattle.mend.specs.Mending.{flow_by, mending_of, mended_flow, mended_list}
use Rattle.mend.proofs.MendedFlow.{mended-accepted, refused-stays}
use Rattle.sums.specs.declared.KeptSums.{KeptSums}
use Rattle.sums.specs.LineSums.{kept_of, stands_for}
use Rattle.sums.specs.Inner.{matched}
use Rattle.sums.proofs.Adding.{sums-after, accepted-sums}
use Rattle.sums.proofs.Equality.{stands-exactly}
use Rattle.refusal.specs.declared.Refusal.{Refusal}
use Rattle.kept.specs.Keeping.{mending_with, mended_with, listed_with, kept_mended, mending_kept}
use Rattle.kept.specs.Inner.{mismatch_of}
use Rattle.kept.proofs.Guarded.{guarded-plain, guarded-none}
use Rattle.kept.proofs.Calls.{lenient, mending-guarded}

-- "rewrites every total, sign, balance, final balance and tail value from the lines": the lines and their sums stay.
pub mended-sums : (f list : List ℕ) {n : ℕ} → mending_of f list ≡ Mended n → kept_of (mended_flow f list) ≡ kept_of f
mended-sums f list e =
    let j = mended-accepted f list e in
    ap (λ (l : List Sums). record { sums = l }) (sym (accepted-sums (mended_flow f list) (ap (λ (x : Judgement). x.verdict) j)) ∙ (ap (λ (x : Judgement). x.summary.sums) j ∙ sums-after (records_of f)))

module _ (k : KeptSums) (f list : List ℕ) where
  -- What a rebalancing with a record answers and leaves.
  abbrev pub Answering : Mending → KeptSums → List ℕ → List ℕ → Type 0
  Answering a l g t = (record { answer = a; kept = l } ≡ mending_kept k f list) × (g ≡ mended_with k f list) × (t ≡ listed_with k f list)

  -- It is settled by the answer.
  pub answering : (a : Mending) → a ≡ mending_with k f list → Answering a (kept_mended a (kept_of (mended_flow f list)) k) (flow_by a (mended_flow f list) f) (flow_by a (mended_list f list) list)
  unfolding mending_kept mended_with listed_with
  answering a e = (rw e, rw e, rw e)

  -- A refusal leaves record, bytes and list as they came.
  pub answer-refused : (m r p : ℕ) → mending_with k f list ≡ Refused m r p → Answering (Refused m r p) k f list
  answer-refused m r p e = answering (Refused m r p) (sym e)

  -- Where the record is not found to match, that is the answer.
  pub answer-none : matched k f ≡ false → (u : Refusal) → u ≡ mismatch_of (lenient f) → Answering (Refused u.number u.«record» u.position) k f list
  answer-none e u h = rw h (answer-refused _ _ _ (guarded-none (mending-guarded k f list) e))

  -- Flow and list are the plain call's, and the record is as it came.
  pub answer-plain : stands_for k f ≡ true → (a : Mending) → a ≡ mending_of f list → (g t : List ℕ) → g ≡ mended_flow f list → t ≡ mended_list f list → Answering a k g t
  answer-plain e (Mended n) h g t eg et =
      let l : k ≡ kept_of (mended_flow f list) = (stands-exactly k f).0 e ∙ sym (mended-sums f list (sym h)) in
      let w = answering (Mended n) (h ∙ sym (guarded-plain (mending-guarded k f list) e)) in
      (ap (λ (x : KeptSums). record { answer = Mended n; kept = x }) l ∙ w.0, eg ∙ w.1, et ∙ w.2)
  answer-plain e (Err why) h g t eg et =
      let s = refused-stays f list (sym h) in
      rw (eg ∙ s.0, et ∙ s.1) (answer-refused why.number why.«record» why.position (guarded-plain (mending-guarded k f list) e ∙ sym h))
