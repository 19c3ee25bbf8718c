-- What is answered to a flow: 1 or 2 by its length, a fault that remains, or what is weighed behind it.
use Rattle.std.specs.Prelude.{None}
use Prim.Native.Nat.{ℕ, ◌%◌, ◌<◌, ◌≤◌}
use mathlib.Core.Path.{◌≡◌, refl, sym, ◌∙◌}
use mathlib.Core.List.{List}
use native.Mathlib.Omega.{arith}
use native.Mathlib.Decide.{ℕ_discrete, dec_lt}
use borrow.Author.Tests.{lt-ltb, le-ltb, eq-eqb, ne_eqb}
use lib.ListN.{length}
use Rattle.rules.specs.State.{start_state}
use Rattle.judge.specs.Flow.{records_of, head_name_of}
use Rattle.judge.specs.Plain.{Whole}
use Rattle.rebalance.specs.Rebalance.{refreshed}
use Rattle.lenient.specs.Answers as Kept
use Rattle.lenient.specs.Lenient.{lenient_from}
use Rattle.changes.specs.Changes.{changes_of}
use Rattle.mend.specs.Answers.{Mending, Refused}
use Rattle.mend.specs.Mending.{remaining_from, remaining, weighed, flow_by, list_by, mending_of, mended_flow, mended_list}
use Rattle.mend.proofs.Remaining.{remaining-lenient}

module _ (f list : List ℕ) where
  -- The answer, the flow and the list afterwards.
  abbrev pub Answering : Mending → List ℕ → List ℕ → Type 0
  Answering m out l = (m ≡ mending_of f list) × (out ≡ mended_flow f list) × (l ≡ mended_list f list)

  -- They are settled by the answer.
  pub answering : (m : Mending) (out l : List ℕ) → m ≡ mending_of f list → out ≡ flow_by m (refreshed f) f → l ≡ list_by m (changes_of f) list → Answering m out l
  unfolding mended_flow mended_list
  answering m out l e eo el = (e, rw (← e) eo, rw (← e) el)

  -- A fault that remains is told, and nothing changes.
  pub answer-refused : (n r p : ℕ) → remaining f ≡ Kept.Refused n r p → Answering (Refused n r p) f list
  unfolding mending_of
  answer-refused n r p e = answering (Refused n r p) f list (rw e) refl refl

  -- Where none does, 23 and 27 are tried.
  pub answer-passed : remaining f ≡ Kept.Passed → (m : Mending) (out l : List ℕ) → m ≡ weighed (length list) f → out ≡ flow_by m (refreshed f) f → l ≡ list_by m (changes_of f) list → Answering m out l
  unfolding mending_of
  answer-passed e m out l em eo el = answering m out l (rw e em) eo el

-- 1 and 2 come first.
module _ (f : List ℕ) where
  pub remaining-long : 65520 < length f → remaining f ≡ Kept.Refused 1 0 0
  unfolding remaining
  remaining-long h = rw (lt-ltb _ _ h)

  module _ (short : length f ≤ 65520) where
    pub remaining-none : length f ≡ 0 → remaining f ≡ Kept.Refused 2 0 0
    unfolding remaining
    remaining-none e = rw (le-ltb _ _ short, eq-eqb _ _ e)

    pub remaining-ragged : (length f ≡ 0 → ⊥) → (length f % 120 ≡ 0 → ⊥) → remaining f ≡ Kept.Refused 2 0 0
    unfolding remaining
    remaining-ragged n e = rw (le-ltb _ _ short, ne_eqb _ _ n, ne_eqb _ _ e)

    pub remaining-records : (length f ≡ 0 → ⊥) → length f % 120 ≡ 0 → remaining f ≡ remaining_from (head_name_of f) start_state (records_of f)
    unfolding remaining
    remaining-records n e = rw (le-ltb _ _ short, ne_eqb _ _ n, eq-eqb _ _ e)

    pub remaining-whole : (length f ≡ 0 → ⊥) → length f % 120 ≡ 0 → remaining f ≡ lenient_from (head_name_of f) None start_state (records_of f)
    remaining-whole n e = remaining-records n e ∙ sym (remaining-lenient (head_name_of f) start_state (records_of f))

  -- A flow in which no fault remains is of whole records.
  pub passed-whole : remaining f ≡ Kept.Passed → Whole f
  passed-whole e = by_length (dec_lt 65520 (length f)) (ℕ_discrete (length f) 0) (ℕ_discrete (length f % 120) 0)
    where
      by_length : Dec (65520 < length f) → Dec (length f ≡ 0) → Dec (length f % 120 ≡ 0) → Whole f
      by_length (yes h) y z = let q = sym (remaining-long h) ∙ e in let o : ◌≡◌ {A = ℕ} 0 1 = cc in absurd (omega arith)
      by_length (no h) (yes n) z = let q = sym (remaining-none (omega arith) n) ∙ e in let o : ◌≡◌ {A = ℕ} 0 1 = cc in absurd (omega arith)
      by_length (no h) (no n) (no g) = let q = sym (remaining-ragged (omega arith) n g) ∙ e in let o : ◌≡◌ {A = ℕ} 0 1 = cc in absurd (omega arith)
      by_length (no h) (no n) (yes g) = record { short = omega arith; some = omega arith; even = g }
