-- Every byte outside the fields that are written stays.
use Prim.Native.Nat.{ℕ, zero, suc, ◌/◌, ◌%◌}
use mathlib.Core.Path.{◌≡◌, refl, sym, ap, ◌∙◌}
use mathlib.Core.Bool.{false}
use mathlib.Core.List.{List, [], ◌∷◌}
use lib.ListN.{length, get_or}
use Rattle.layout.specs.declared.Kind.{Kind}
use Rattle.layout.specs.Sections.{section_at}
use Rattle.layout.specs.Kinds.{kind_in}
use Rattle.layout.specs.Fields.{tail_deleghe, tail_sum, tail_records, in_columns}
use Rattle.rules.specs.declared.State.{State}
use Rattle.rules.specs.State.{start_state}
use Rattle.rules.specs.Stored.{section_sums}
use Rattle.rules.specs.Step.{next}
use Rattle.judge.specs.Flow.{records_of}
use Rattle.judge.specs.Plain.{Whole}
use Rattle.rebalance.specs.Rebalance.{emit, rebalanced, refreshed, Sized}
use Rattle.rebalance.proofs.Outside.{swapped, covers-clear, balance-covers}
use Rattle.rebalance.proofs.Columns.{Storing, plain, balance, payment, tail, storing}
use Rattle.rebalance.proofs.Emit.{emit-plain, emit-outside}
use Rattle.rebalance.proofs.Rebalanced.{sized-rebalanced}
use Rattle.rebalance.proofs.Flat.{flat-byte}
use Rattle.rebalance.proofs.Judged.{sized-records, flat-records}
use Rattle.changes.specs.Changes.{written_fields}
use Rattle.mend.specs.Effect.{may_change}

-- A byte outside the fields that are written in a record stays.
pub record-byte : (st : State) (r : List ℕ) → length r ≡ 120 → (c : ℕ) → in_columns c (written_fields (kind_in r)) ≡ false → get_or (emit st r) c 0 ≡ get_or r c 0
record-byte st r l c h = go (storing st r) refl h
  where
    go : {k : Kind} → Storing st k → kind_in r ≡ k → in_columns c (written_fields k) ≡ false → get_or (emit st r) c 0 ≡ get_or r c 0
    go (plain z f) q h = ap (λ (x : List ℕ). get_or x c 0) (emit-plain st r (rw q z))
    go (balance s i) q h = emit-outside st r l c (rw q (covers-clear c _ _ (balance-covers s (section_sums st s) (section_at s).totals) h))
    go payment q h = emit-outside st r l c (rw q (covers-clear c _ _ (refl, refl, tt) h))
    go tail q h = emit-outside st r l c (rw q (covers-clear c (tail_deleghe ∷ tail_records ∷ tail_sum ∷ []) _ (refl, refl, (refl, refl, (refl, refl, tt))) (sym (swapped c tail_deleghe tail_sum tail_records []) ∙ h)))

-- So it is in every record of a flow.
records-byte : (st : State) (rs : List (List ℕ)) → Sized rs → (q c : ℕ) → in_columns c (written_fields (kind_in (get_or rs q []))) ≡ false → get_or (get_or (rebalanced st rs) q []) c 0 ≡ get_or (get_or rs q []) c 0
unfolding rebalanced
records-byte st [] z q c h = refl
records-byte st (r ∷ rs) z zero c h = record-byte st r z.0 c h
records-byte st (r ∷ rs) z (suc q) c h = records-byte (next st r) rs z.1 q c h

-- A flow of whole records keeps every byte that may not change.
module _ (f : List ℕ) (w : Whole f) where
  pub refreshed-byte : (i : ℕ) → may_change f i ≡ false → get_or (refreshed f) i 0 ≡ get_or f i 0
  unfolding refreshed may_change
  refreshed-byte i h =
      let z = sized-records f w.even in
      flat-byte (rebalanced start_state (records_of f)) (sized-rebalanced start_state (records_of f) z) i
      ∙ (records-byte start_state (records_of f) z (i / 120) (i % 120) h
      ∙ (sym (flat-byte (records_of f) z i) ∙ ap (λ (s : List ℕ). get_or s i 0) (flat-records f w.even)))
