-- A dropping that takes a record: where the record stands for the flow it is the plain one and hands back that of the flow that is left; else it is refused and changes nothing.
use Prim.Native.Nat.{ℕ}
use mathlib.Core.Path.{◌≡◌, sym, ap, ◌∙◌}
use mathlib.Core.Bool.{true, false}
use mathlib.Core.List.{List}
use lib.ListN.{take}
use Rattle.dropping.specs.Answers.{Dropping, Dropped, Refused}
use Rattle.dropping.specs.Dropping.{shortened, flow_by, dropping_of, dropped_flow}
use Rattle.dropping.proofs.Dropped.{dropped-room, refused-stays}
use Rattle.sums.specs.declared.KeptSums.{KeptSums}
use Rattle.sums.specs.LineSums.{kept_of, stands_for}
use Rattle.sums.specs.Inner.{matched}
use Rattle.refusal.specs.declared.Refusal.{Refusal}
use Rattle.kept.specs.Keeping.{dropping_with, dropped_with, kept_dropped, dropping_kept}
use Rattle.kept.specs.Inner.{mismatch_of}
use Rattle.kept.proofs.Guarded.{guarded-plain, guarded-none}
use Rattle.kept.proofs.Calls.{strict, dropping-guarded}

module _ (k : KeptSums) (f numbers : List ℕ) where
  -- What a dropping with a record answers and leaves.
  abbrev pub Answering : Dropping → KeptSums → List ℕ → Type 0
  Answering a l g = (record { answer = a; kept = l } ≡ dropping_kept k f numbers) × (g ≡ dropped_with k f numbers)

  -- It is settled by the answer.
  pub answering : (a : Dropping) → a ≡ dropping_with k f numbers → Answering a (kept_dropped a (kept_of (shortened f numbers)) k) (flow_by a (dropped_flow f numbers) f)
  unfolding dropping_kept dropped_with
  answering a e = (rw e, rw e)

  -- A refusal leaves record and bytes as they came.
  pub answer-refused : (m r p : ℕ) → dropping_with k f numbers ≡ Refused m r p → Answering (Refused m r p) k f
  answer-refused m r p e = answering (Refused m r p) (sym e)

  -- Where the record is not found to match, that is the answer.
  pub answer-none : matched k f ≡ false → (u : Refusal) → u ≡ mismatch_of (strict f) → Answering (Refused u.number u.«record» u.position) k f
  answer-none e u h = rw h (answer-refused _ _ _ (guarded-none (dropping-guarded k f numbers) e))

  module _ (e : stands_for k f ≡ true) where
    plain : dropping_with k f numbers ≡ dropping_of f numbers
    plain = guarded-plain (dropping-guarded k f numbers) e

    -- Dropped, the flow is the plain call's, and the record is that of the flow that is left.
    pub answer-dropped : (n : ℕ) → dropping_of f numbers ≡ Dropped n → (g : List ℕ) → g ≡ dropped_flow f numbers → (l : KeptSums) → l ≡ kept_of (take n g) → Answering (Dropped n) l g
    answer-dropped n c g eg l el =
        let s : take n g ≡ shortened f numbers = ap (take n) eg ∙ (dropped-room f numbers {n = n} c).0 in
        rw (el, s, eg) (answering (Dropped n) (sym (plain ∙ c)))

    -- Refused, both are as they came.
    pub answer-plain : (a : Dropping) → a ≡ dropping_of f numbers → (m r p : ℕ) → a ≡ Refused m r p → (g : List ℕ) → g ≡ dropped_flow f numbers → Answering a k g
    answer-plain a h m r p q g eg =
        let c = sym h ∙ q in
        rw (q, eg ∙ refused-stays f numbers c) (answer-refused m r p (plain ∙ c))
