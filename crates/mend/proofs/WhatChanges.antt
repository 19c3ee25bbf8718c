-- What rebalancing changes: nothing outside the fields that are written; a field is listed exactly when its bytes differ, and every byte that changes lies in one that is.
use Rattle.std.specs.Prelude.{Err}
use Prim.Native.Nat.{ℕ, ◌+◌, ◌-◌, ◌/◌, ◌%◌, ◌<◌, ◌≤◌}
use mathlib.Core.Path.{◌≡◌, refl, sym, ap, ◌∙◌}
use mathlib.Core.Bool.{Bool, true, false, false≢true}
use mathlib.Core.List.{List, [], ◌∷◌}
use mathlib.Core.Logic.{⊎_elim, ◌↔◌}
use native.Mathlib.Omega.{arith}
use native.Mathlib.Decide.{dec_lt}
use lib.ListN.{length, drop, get_or, get_or-eq_default}
use lib.Seq.{get_or-take, get_or-drop}
use Rattle.layout.specs.declared.Field.{Field}
use Rattle.layout.specs.Kinds.{kind_in}
use Rattle.layout.specs.Fields.{bytes_of, in_columns}
use Rattle.layout.proofs.InOrder.{in-first}
use Rattle.judge.specs.Flow.{records_of}
use Rattle.judge.specs.Plain.{Whole}
use Rattle.judge.proofs.Records.{length-chunks}
use Rattle.rebalance.specs.Rebalance.{refreshed}
use Rattle.rebalance.proofs.Flat.{flat-byte}
use Rattle.rebalance.proofs.Judged.{sized-records, flat-records}
use Rattle.changes.specs.Changes.{written_fields, Place, place, changes_of}
use Rattle.changes.specs.Listed.{record_behind, Listed, OneOf, first, later, Differs}
use Rattle.changes.proofs.Listed.{refreshed-length, changed-exactly}
use Rattle.mend.specs.Answers.{Mending, Mended}
use Rattle.mend.specs.Mending.{mending_of, mended_flow}
use Rattle.mend.specs.Effect.{may_change, InListed}
use Rattle.mend.proofs.MendedFlow.{rebalanced-when, flow-by}
use Rattle.mend.proofs.OtherBytes.{refreshed-byte}

-- An index in columns lies in one of them.
record Within (c : ℕ) (fl : List Field) : Type 0 where
  field : Field
  one : OneOf field fl
  from : field.start ≤ c
  to : c < field.end

within : (c : ℕ) (fl : List Field) → in_columns c fl ≡ true → Within c fl
unfolding in_columns
within c [] e = absurd (false≢true e)
within c (f ∷ fl) e = ⊎_elim (λ h. record { field = f; one = first refl; from = h.0; to = h.1 }) (λ h. more (within c fl h)) (in-first c f fl e)
  where
    more : Within c fl → Within c (f ∷ fl)
    more w = record { field = w.field; one = later w.one; from = w.from; to = w.to }

-- A byte of a record is a byte of the field that it lies in.
field-byte : (r : List ℕ) (g : Field) (c : ℕ) → g.start ≤ c → c < g.end → get_or (bytes_of r g) (c - g.start) 0 ≡ get_or r c 0
field-byte r g c h k = get_or-take (g.end - g.start) (drop g.start r) (c - g.start) 0 (omega arith) ∙ (get_or-drop g.start r (c - g.start) 0 ∙ ap (λ (i : ℕ). get_or r i 0) (let e : g.start + (c - g.start) ≡ c = omega arith in e))

-- A byte of a flow of whole records is one of a record.
pub flow-byte : (f : List ℕ) → length f % 120 ≡ 0 → (i : ℕ) → get_or f i 0 ≡ get_or (record_behind f (i / 120)) (i % 120) 0
flow-byte f w i = ap (λ (s : List ℕ). get_or s i 0) (sym (flat-records f w)) ∙ flat-byte (records_of f) (sized-records f w) i

-- A flow of whole records whose byte at an index changes.
module _ (f : List ℕ) (w : Whole f) (i : ℕ) (d : get_or (refreshed f) i 0 ≡ get_or f i 0 → ⊥) where
  in-flow : i < length f
  in-flow = go (dec_lt i (length f))
    where
      go : Dec (i < length f) → i < length f
      go (yes h) = h
      go (no h) = absurd (d (get_or-eq_default (refreshed f) 0 (omega (arith, refreshed-length f w)) ∙ sym (get_or-eq_default f 0 (omega arith))))

  changed-in : may_change f i ≡ true
  changed-in = go (may_change f i) refl
    where
      go : (b : Bool) → may_change f i ≡ b → b ≡ true
      go true e = refl
      go false e = absurd (d (refreshed-byte f w i e))

  byte-in-listed : InListed f (changes_of f) i
  unfolding may_change
  byte-in-listed =
      let x = within (i % 120) (written_fields (kind_in (record_behind f (i / 120)))) changed-in in
      let g = x.field in
      let old = record_behind f (i / 120) in
      let new = record_behind (refreshed f) (i / 120) in
      let even : length (refreshed f) % 120 ≡ 0 = ap (λ (n : ℕ). n % 120) (refreshed-length f w) ∙ w.even in
      record {
        field = g;
        written = x.one;
        from = x.from;
        to = x.to;
        at = place (i / 120 + 1) (g.start + 1);
        numbered = refl;
        starts = refl;
        listed =
            (changed-exactly f w _).1
            (record {
              before = i / 120;
              field = g;
              there = omega (arith, in-flow, length-chunks (length f / 120) f, w.even);
              written = x.one;
              numbered = refl;
              starts = refl;
              differ = λ e. d (flow-byte (refreshed f) even i ∙ (sym (field-byte new g (i % 120) x.from x.to) ∙ (ap (λ (b : List ℕ). get_or b (i % 120 - g.start) 0) (sym e) ∙ (field-byte old g (i % 120) x.from x.to ∙ sym (flow-byte f w.even i)))));
            });
      }

-- Any flow and any list.
module _ (f list : List ℕ) where
  -- The answer says what becomes of the flow.
  by_answer : (C : List ℕ → Type 0) → C f → (Whole f → C (refreshed f)) → C (mended_flow f list)
  by_answer C old new = go (mending_of f list) refl
    where
      go : (m : Mending) → mending_of f list ≡ m → C (mended_flow f list)
      go (Mended n) e = rw (flow-by f list e) (new (rebalanced-when f list e).mends.whole)
      go (Err why) e = rw (flow-by f list e) old

  -- The flow keeps its length.
  pub mended-length : length (mended_flow f list) ≡ length f
  mended-length = by_answer (λ s. length s ≡ length f) refl (λ w. refreshed-length f w)

  -- "every other byte is the same"
  pub only-written-fields : (i : ℕ) → may_change f i ≡ false → get_or (mended_flow f list) i 0 ≡ get_or f i 0
  only-written-fields i h = by_answer (λ s. get_or s i 0 ≡ get_or f i 0) refl (λ w. refreshed-byte f w i h)

  -- A byte that changes lies in a field that is listed.
  pub changed-is-listed : (i : ℕ) → (get_or (mended_flow f list) i 0 ≡ get_or f i 0 → ⊥) → InListed f (changes_of f) i
  changed-is-listed i d = by_answer (λ s. (get_or s i 0 ≡ get_or f i 0 → ⊥) → InListed f (changes_of f) i) (λ h. absurd (h refl)) (λ w h. byte-in-listed f w i h) d

  -- "a field is listed exactly when its bytes differ"
  pub listed-exactly : {n : ℕ} → mending_of f list ≡ Mended n → (p : Place) → Listed p (changes_of f) ↔ Differs f (mended_flow f list) p
  listed-exactly e p = rw (flow-by f list e) (changed-exactly f (rebalanced-when f list e).mends.whole p)
