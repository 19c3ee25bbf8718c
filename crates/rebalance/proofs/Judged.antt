-- The laws of rebalancing a flow: where it mends the flow's records, the flow is accepted after it with the sums of its lines; an accepted flow is mended, and keeps every byte.
use Prim.Native.Nat.{ℕ, ◌*◌, ◌/◌, ◌%◌}
use mathlib.Core.Path.{◌≡◌, refl, sym, ap, ◌∙◌}
use mathlib.Core.List.{List, [], ◌∷◌}
use native.Mathlib.Omega.{arith}
use lib.ListN.{length}
use Rattle.layout.specs.declared.Kind.TheVariants.{Head}
use Rattle.layout.specs.Kinds.{kind_in}
use Rattle.rules.specs.declared.State.{State}
use Rattle.order.specs.Stages.{at_start}
use Rattle.rules.specs.State.{start_state}
use Rattle.rules.specs.Stored.{stored_of}
use Rattle.rules.specs.Step.{next}
use Rattle.judge.specs.Refusal.{Accepted}
use Rattle.judge.specs.Flow.{accepted_with, records_of, head_name_of, judged}
use Rattle.judge.specs.Plain.{Whole, state_after}
use Rattle.judge.proofs.Accepted.{head-stands, judged-whole, accepted-means-no-fault, sound-phase}
use Rattle.rebalance.specs.Rebalance.{rebalanced, flat, Sized, Mendable}
use Rattle.rebalance.proofs.Emit.{emit-plain, kept-stands}
use Rattle.rebalance.proofs.Rebalanced.{rebalanced-accepted, faultless-own, faultless-mendable, length-rebalanced, sized-rebalanced}
use Rattle.rebalance.proofs.Flat.{length-flat, records-flat, flat-chunks, sized-chunks, name-in-front}

-- Rebalancing leaves the name of a flow that begins with its head.
pub name-kept : (st : State) (r : List ℕ) (rs : List (List ℕ)) → length r ≡ 120 → kind_in r ≡ Head → head_name_of (flat (rebalanced st (r ∷ rs))) ≡ head_name_of (flat (r ∷ rs))
unfolding rebalanced flat
name-kept st r rs l e =
    let p : stored_of st (kind_in r) ≡ [] = rw e in
    rw (emit-plain st r p, name-in-front r (flat (rebalanced (next st r) rs)) l, name-in-front r (flat rs) l)

-- Rebalancing leaves the name of a flow that it mends.
pub name-mended : (name : List ℕ) (st : State) (rs : List (List ℕ)) → st.stage.phase ≡ at_start → Mendable name st rs → head_name_of (flat (rebalanced st rs)) ≡ head_name_of (flat rs)
unfolding rebalanced flat
name-mended name st [] z m = refl
name-mended name st (r ∷ rs) z m = name-kept st r rs m.0 (head-stands st.stage (kind_in r) z (kept-stands name st r m.1))

-- A flow of whole records.
module _ (s : List ℕ) (whole : length s % 120 ≡ 0) where
  -- Its records have 120 bytes each.
  pub sized-records : Sized (records_of s)
  sized-records = sized-chunks (length s / 120) s (omega arith)

  -- Its records make the flow.
  pub flat-records : flat (records_of s) ≡ s
  flat-records = flat-chunks (length s / 120) s (omega arith)

  -- Rebalancing its records leaves the number of bytes.
  pub length-mended : (st : State) → length (flat (rebalanced st (records_of s))) ≡ length s
  length-mended st =
      length-flat (rebalanced st (records_of s)) (sized-rebalanced st (records_of s) sized-records)
      ∙ (ap (λ (n : ℕ). n * 120) (length-rebalanced st (records_of s)) ∙ (sym (length-flat (records_of s) sized-records) ∙ ap length flat-records))

-- A flow of as many bytes as one of 1 to 546 whole records is of such.
pub whole_same : (s t : List ℕ) → length t ≡ length s → Whole s → Whole t
whole_same s t e w = record { short = rw e w.short; some = rw e w.some; even = rw e w.even }

-- A flow of 1 to 546 whole records.
module _ (s : List ℕ) (w : Whole s) where
  -- Where rebalancing mends its records, it is accepted after it, with the sums of its lines.
  pub judged-rebalanced : Mendable (head_name_of s) start_state (records_of s) → judged (flat (rebalanced start_state (records_of s))) ≡ accepted_with (state_after start_state (records_of s))
  unfolding start_state
  judged-rebalanced m =
      let rs = records_of s in
      let e : length (flat (rebalanced start_state rs)) ≡ length s = length-mended s w.even start_state in
      judged-whole (flat (rebalanced start_state rs)) (whole_same s (flat (rebalanced start_state rs)) e w)
      ∙ (rw (name-mended (head_name_of s) start_state rs refl m, flat-records s w.even, records-flat (rebalanced start_state rs) (sized-rebalanced start_state rs (sized-records s w.even))) (rebalanced-accepted (head_name_of s) start_state rs m))

-- Rebalancing leaves every byte of an accepted flow.
pub accepted-untouched : (s : List ℕ) → (judged s).verdict ≡ Accepted → flat (rebalanced start_state (records_of s)) ≡ s
accepted-untouched s a =
    let h = accepted-means-no-fault s a in
    ap flat (faultless-own (head_name_of s) start_state (records_of s) (sized-records s h.whole.even) h.passes) ∙ flat-records s h.whole.even

-- Rebalancing mends the records of an accepted flow.
pub accepted-mends : (s : List ℕ) → (judged s).verdict ≡ Accepted → Mendable (head_name_of s) start_state (records_of s)
accepted-mends s a =
    let h = accepted-means-no-fault s a in faultless-mendable (head_name_of s) start_state (records_of s) (sized-records s h.whole.even) h.passes (sound-phase s h)
