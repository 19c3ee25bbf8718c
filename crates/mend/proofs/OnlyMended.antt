-- The rebalanced flow is the only accepted one that has every other byte of the flow.
use Prim.Native.Nat.{ℕ, suc, ◌+◌, ◌*◌, ◌/◌, ◌%◌, ◌<◌}
use mathlib.Core.Path.{◌≡◌, refl, sym, ap, ap₂, ◌∙◌}
use mathlib.Core.Bool.{true, false}
use mathlib.Core.List.{List, [], ◌∷◌}
use native.Mathlib.Omega.{arith}
use native.Mathlib.Decide.{dec_lt}
use lib.ListN.{length, get_or, get_or-eq_default}
use Rattle.layout.specs.declared.Kind.{Kind}
use Rattle.layout.specs.declared.Kind.TheVariants.{Head, Taxpayer, Domicile, Line, Balance, Payment, Receipt, Addressee, Tail, Unknown}
use Rattle.layout.specs.Sections.{section_at}
use Rattle.layout.specs.Kinds.{kind_in}
use Rattle.layout.specs.Fields.{tail_deleghe, tail_sum, tail_records, in_columns}
use Rattle.rules.specs.declared.State.{State}
use Rattle.rules.specs.State.{start_state}
use Rattle.rules.specs.Stored.{section_sums, stored_of}
use Rattle.rules.specs.Step.{next}
use Rattle.judge.specs.Refusal.{Accepted}
use Rattle.judge.specs.Flow.{records_of, judged}
use Rattle.judge.proofs.Records.{length-chunks}
use Rattle.judge.proofs.Accepted.{accepted-means-no-fault}
use Rattle.rebalance.specs.Rebalance.{put_all, emit, rebalanced, flat, refreshed, Sized}
use Rattle.rebalance.proofs.Written.{laid}
use Rattle.rebalance.proofs.Outside.{swapped, balance-covers}
use Rattle.rebalance.proofs.Columns.{Columns, storing, columns}
use Rattle.rebalance.proofs.Alike.{Alike, alike-equal, alike-stored}
use Rattle.rebalance.proofs.Emit.{kind-put, next-emit}
use Rattle.rebalance.proofs.Judged.{sized-records, accepted-untouched}
use Rattle.changes.specs.Changes.{written_fields}
use Rattle.mend.specs.Answers.{Mended}
use Rattle.mend.specs.Mending.{mending_of, mended_flow}
use Rattle.mend.specs.Effect.{may_change}
use Rattle.mend.proofs.MendedFlow.{flow-by}
use Rattle.mend.proofs.WhatChanges.{flow-byte}

-- Two records that are alike outside the fields that are written are the same once these hold what is stored.
put-alike : (st : State) (k : Kind) (r s : List ℕ) → laid (stored_of st k) ≡ true → Alike (written_fields k) r s → put_all (stored_of st k) r ≡ put_all (stored_of st k) s
unfolding put_all
put-alike st Head r s h a = alike-equal a
put-alike st Taxpayer r s h a = alike-equal a
put-alike st Domicile r s h a = alike-equal a
put-alike st (Line x) r s h a = alike-equal a
put-alike st (Balance x) r s h a = alike-stored _ _ r s (balance-covers x (section_sums st x) (section_at x).totals) h a
put-alike st Payment r s h a = alike-stored _ _ r s (refl, refl, tt) h a
put-alike st Receipt r s h a = alike-equal a
put-alike st Addressee r s h a = alike-equal a
put-alike st Tail r s h a =
    alike-stored (tail_deleghe ∷ tail_records ∷ tail_sum ∷ []) _ r s (refl, refl, (refl, refl, (refl, refl, tt))) h (record { one = a.one; other = a.other; same = λ i z. a.same i (swapped i tail_deleghe tail_sum tail_records [] ∙ z) })
put-alike st Unknown r s h a = alike-equal a

-- They are rebalanced to the same record, and lead to the same state.
module _ (st : State) (r s : List ℕ) (a : Alike (written_fields (kind_in r)) r s) where
  held : Columns (stored_of st (kind_in r))
  held = columns (storing st r)

  put_same : put_all (stored_of st (kind_in r)) r ≡ put_all (stored_of st (kind_in r)) s
  put_same = put-alike st (kind_in r) r s held.laid_out a

  same_kind : kind_in s ≡ kind_in r
  same_kind = sym (kind-put (stored_of st (kind_in r)) s held a.other) ∙ (sym (ap kind_in put_same) ∙ kind-put (stored_of st (kind_in r)) r held a.one)

  emit-alike : emit st r ≡ emit st s
  unfolding emit
  emit-alike = put_same ∙ ap (λ (k : Kind). put_all (stored_of st k) s) (sym same_kind)

  next-alike : next st r ≡ next st s
  next-alike = sym (next-emit st r a.one st) ∙ (ap (next st) emit-alike ∙ next-emit st s a.other st)

-- Records of 120 bytes that are alike there within 120 bytes are alike.
alike-within : (r s : List ℕ) → length r ≡ 120 → length s ≡ 120 → ((c : ℕ) → c < 120 → in_columns c (written_fields (kind_in r)) ≡ false → get_or r c 0 ≡ get_or s c 0) → Alike (written_fields (kind_in r)) r s
alike-within r s l m h = record { one = l; other = m; same = λ c z. go c z (dec_lt c 120) }
  where
    go : (c : ℕ) → in_columns c (written_fields (kind_in r)) ≡ false → Dec (c < 120) → get_or r c 0 ≡ get_or s c 0
    go c z (yes d) = h c d z
    go c z (no d) = get_or-eq_default r 0 (omega arith) ∙ sym (get_or-eq_default s 0 (omega arith))

-- So it is with records one after the other.
rebalanced-alike : (st : State) (rs ss : List (List ℕ)) → Sized rs → Sized ss → length ss ≡ length rs → ((q c : ℕ) → c < 120 → in_columns c (written_fields (kind_in (get_or rs q []))) ≡ false → get_or (get_or rs q []) c 0 ≡ get_or (get_or ss q []) c 0) →
    rebalanced st rs ≡ rebalanced st ss
unfolding rebalanced
rebalanced-alike st [] [] z y l h = refl
rebalanced-alike st [] (s ∷ ss) z y l h = absurd (omega arith)
rebalanced-alike st (r ∷ rs) [] z y l h = absurd (omega arith)
rebalanced-alike st (r ∷ rs) (s ∷ ss) z y l h =
    let a = alike-within r s z.0 y.0 (h 0) in
    ap₂ ◌∷◌ (emit-alike st r s a) (ap (λ (t : State). rebalanced t rs) (next-alike st r s a) ∙ rebalanced-alike (next st s) rs ss z.1 y.1 (omega arith) (λ q. h (suc q)))

-- The index of a column of the record behind q others.
module _ (q c : ℕ) (d : c < 120) where
  at-record : (q * 120 + c) / 120 ≡ q
  at-record = omega arith

  at-column : (q * 120 + c) % 120 ≡ c
  at-column = omega arith

byte_at : (f : List ℕ) → length f % 120 ≡ 0 → (q c : ℕ) → c < 120 → get_or f (q * 120 + c) 0 ≡ get_or (get_or (records_of f) q []) c 0
byte_at f v q c d = flow-byte f v (q * 120 + c) ∙ ap₂ (λ (a b : ℕ). get_or (get_or (records_of f) a []) b 0) (at-record q c d) (at-column q c d)

-- "every other byte is the same": of all flows of that length with these bytes, no other is accepted.
pub only-mended : (f list g : List ℕ) {n : ℕ} → mending_of f list ≡ Mended n → (judged g).verdict ≡ Accepted → length g ≡ length f → ((i : ℕ) → may_change f i ≡ false → get_or g i 0 ≡ get_or f i 0) → mended_flow f list ≡ g
unfolding refreshed may_change
only-mended f list g e a l h =
    let w = (accepted-means-no-fault g a).whole in
    let v : length f % 120 ≡ 0 = ap (λ (n : ℕ). n % 120) (sym l) ∙ w.even in
    let same : (q c : ℕ) → c < 120 → in_columns c (written_fields (kind_in (get_or (records_of f) q []))) ≡ false → get_or (get_or (records_of f) q []) c 0 ≡ get_or (get_or (records_of g) q []) c 0 =
    λ q c d z. sym (byte_at f v q c d) ∙ (sym (h (q * 120 + c) (rw (at-record q c d, at-column q c d) z)) ∙ byte_at g w.even q c d) in
    flow-by f list e
    ∙ (ap flat (rebalanced-alike start_state (records_of f) (records_of g) (sized-records f v) (sized-records g w.even) (omega (arith, length-chunks (length f / 120) f, length-chunks (length g / 120) g)) same) ∙ accepted-untouched g a)
