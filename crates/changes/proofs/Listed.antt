-- The fields that rebalancing changes are those whose bytes differ, and stand in the order of the flow.
use Prim.Native.Nat.{ℕ, zero, suc, ◌+◌, ◌*◌, ◌/◌, ◌<◌, ◌≤◌}
use mathlib.Core.Path.{◌≡◌, refl, sym, ap, ap₂, ◌∙◌}
use mathlib.Core.Bool.{Bool, true, false, cond, true≢false}
use mathlib.Core.List.{List, [], ◌∷◌, ◌++◌}
use mathlib.Core.Logic.{◌⊎◌, inl, inr, ⊎_elim, ◌↔◌}
use native.Mathlib.Omega.{arith}
use lib.ListN.{length, get_or, length-append}
use Rattle.layout.specs.declared.Field.{Field}
use Rattle.layout.specs.Kinds.{kind_in}
use Rattle.layout.specs.Fields.{bytes_of}
use Rattle.amounts.specs.Names.{same_bytes}
use Rattle.amounts.proofs.Spelling.{same_bytes_lem, same-itself}
use Rattle.rules.specs.State.{start_state}
use Rattle.judge.specs.Flow.{records_of}
use Rattle.judge.specs.Plain.{Whole}
use Rattle.judge.proofs.Records.{length-chunks}
use Rattle.rebalance.specs.Rebalance.{refreshed}
use Rattle.rebalance.proofs.Judged.{length-mended}
use Rattle.changes.specs.Changes.{stays, written_fields, Place, place, changed_in, changed_from, changes_of}
use Rattle.changes.specs.Listed.{Listed, here, behind, OneOf, first, later, Differs, Before, BeforeAll, InFlowOrder}
use Rattle.changes.proofs.FieldsWritten.{Apart, written_apart, apart-one}
use Rattle.changes.proofs.Listing.{record-few}

-- What is among two lists is among one of them.
in-front : {p : Place} (ps qs : List Place) → Listed p ps → Listed p (ps ++ qs)
in-front {p = p} [] qs x' = elim x' [ ]
in-front (p ∷ ps) qs (here e) = here e
in-front (p ∷ ps) qs (behind h) = behind (in-front ps qs h)

in-back : {p : Place} (ps qs : List Place) → Listed p qs → Listed p (ps ++ qs)
in-back [] qs h = h
in-back (p ∷ ps) qs h = behind (in-back ps qs h)

in_either : {p : Place} (ps qs : List Place) → Listed p (ps ++ qs) → Listed p ps ⊎ Listed p qs
in_either [] qs h = inr h
in_either (p ∷ ps) qs (here e) = inl (here e)
in_either (p ∷ ps) qs (behind h) = ⊎_elim (λ i. inl (behind i)) (λ i. inr i) (in_either ps qs h)

-- A field stays where its bytes are the same, and only there.
module _ (f : Field) (old new : List ℕ) where
  staying : stays f old new ≡ true → bytes_of old f ≡ bytes_of new f
  unfolding stays
  staying e = same_bytes_lem _ _ e

  differing : stays f old new ≡ false → bytes_of old f ≡ bytes_of new f → ⊥
  unfolding stays
  differing e h = true≢false (sym (same-itself (bytes_of new f)) ∙ (ap (λ (l : List ℕ). same_bytes l (bytes_of new f)) (sym h) ∙ e))

-- Fields of a record that stays are not listed, and so none of records that stay.
stays-itself : (f : Field) (r : List ℕ) → stays f r r ≡ true
unfolding stays
stays-itself f r = same-itself (bytes_of r f)

none_in : (k : ℕ) (fl : List Field) (r : List ℕ) → changed_in k fl r r ≡ []
unfolding changed_in
none_in k [] r = refl
none_in k (f ∷ fl) r = rw (stays-itself f r) (none_in k fl r)

pub none_from : (k : ℕ) (rs : List (List ℕ)) → changed_from k rs rs ≡ []
unfolding changed_from
none_from k [] = refl
none_from k (r ∷ rs) = ap (λ (ps : List Place). ps ++ changed_from (k + 1) rs rs) (none_in _ (written_fields (kind_in r)) r) ∙ none_from (k + 1) rs

-- A place in a record is that of a field whose bytes differ.
pub record DiffersIn (k : ℕ) (fl : List Field) (old new : List ℕ) (p : Place) : Type 0 where
  pub field : Field
  pub written : OneOf field fl
  pub named : p ≡ place k (field.start + 1)
  pub differ : bytes_of old field ≡ bytes_of new field → ⊥

module _ (k : ℕ) (old new : List ℕ) where
  listed_in : (fl : List Field) {p : Place} → Listed p (changed_in k fl old new) → DiffersIn k fl old new p
  unfolding changed_in
  listed_in [] {p = p} h = elim h [ ]
  listed_in (f ∷ fl) {p} h = go (stays f old new) refl h (listed_in fl)
    where
      more : DiffersIn k fl old new p → DiffersIn k (f ∷ fl) old new p
      more d = record { field = d.field; written = later d.written; named = d.named; differ = d.differ }

      go : (b : Bool) → stays f old new ≡ b → Listed p (cond b (changed_in k fl old new) (place k (f.start + 1) ∷ changed_in k fl old new)) → (Listed p (changed_in k fl old new) → DiffersIn k fl old new p) → DiffersIn k (f ∷ fl) old new p
      go true e h ih = more (ih h)
      go false e (here q) ih = record { field = f; written = first refl; named = q; differ = differing f old new e }
      go false e (behind h) ih = more (ih h)

  in-listed : (fl : List Field) (g : Field) → OneOf g fl → (bytes_of old g ≡ bytes_of new g → ⊥) → Listed (place k (g.start + 1)) (changed_in k fl old new)
  unfolding changed_in
  in-listed [] g o d = elim o [ ]
  in-listed (f ∷ fl) g o d = go (stays f old new) refl o (in-listed fl g)
    where
      go : (b : Bool) → stays f old new ≡ b → OneOf g (f ∷ fl) → (OneOf g fl → (bytes_of old g ≡ bytes_of new g → ⊥) → Listed (place k (g.start + 1)) (changed_in k fl old new)) → Listed (place k (g.start + 1)) (cond b (changed_in k fl old new) (place k (f.start + 1) ∷ changed_in k fl old new))
      go true e (first q) ih = absurd (d (ap (bytes_of old) q ∙ (staying f old new e ∙ sym (ap (bytes_of new) q))))
      go true e (later o) ih = ih o d
      go false e (first q) ih = here (ap (λ (x : Field). place k (x.start + 1)) q)
      go false e (later o) ih = behind (ih o d)

-- A place in records, behind k others, is that of a field of one of them whose bytes differ.
record DiffersFrom (k : ℕ) (rs ss : List (List ℕ)) (p : Place) : Type 0 where
  before : ℕ
  there : before < length rs
  inner : DiffersIn (k + before + 1) (written_fields (kind_in (get_or rs before []))) (get_or rs before []) (get_or ss before []) p

listed-from : (k : ℕ) (rs ss : List (List ℕ)) {p : Place} → Listed p (changed_from k rs ss) → DiffersFrom k rs ss p
unfolding changed_from
listed-from k (r ∷ rs) [] {p = p} h = elim h [ ]
listed-from k [] ss {p = p} h = elim h [ ]
listed-from k (r ∷ rs) (s ∷ ss) {p} h = ⊎_elim (λ i. at_first (listed_in (k + 1) r s _ i)) (λ i. later-on (listed-from (k + 1) rs ss i)) (in_either (changed_in (k + 1) (written_fields (kind_in r)) r s) (changed_from (k + 1) rs ss) h)
  where
    at_first : DiffersIn (k + 1) (written_fields (kind_in r)) r s p → DiffersFrom k (r ∷ rs) (s ∷ ss) p
    at_first d = record { before = 0; there = omega arith; inner = rw (let e : k + 0 + 1 ≡ k + 1 = omega arith in e) d }

    later-on : DiffersFrom (k + 1) rs ss p → DiffersFrom k (r ∷ rs) (s ∷ ss) p
    later-on d = record { before = suc d.before; there = omega (arith, d.there); inner = rw (let e : k + suc d.before + 1 ≡ k + 1 + d.before + 1 = omega arith in e) d.inner }

from-listed : (k : ℕ) (rs ss : List (List ℕ)) → length rs ≡ length ss → (q : ℕ) → q < length rs → (g : Field) → OneOf g (written_fields (kind_in (get_or rs q []))) → (bytes_of (get_or rs q []) g ≡ bytes_of (get_or ss q []) g → ⊥) →
    Listed (place (k + q + 1) (g.start + 1)) (changed_from k rs ss)
unfolding changed_from
from-listed k (r ∷ rs) (s ∷ ss) l zero h g o d = rw (let e : k + 0 + 1 ≡ k + 1 = omega arith in e) (in-front _ _ (in-listed (k + 1) r s (written_fields (kind_in r)) g o d))
from-listed k (r ∷ rs) (s ∷ ss) l (suc q) h g o d =
    rw (let e : k + suc q + 1 ≡ k + 1 + q + 1 = omega arith in e) (in-back (changed_in (k + 1) (written_fields (kind_in r)) r s) _ (from-listed (k + 1) rs ss (omega arith) q (omega arith) g o d))
from-listed k (r ∷ rs) [] l q h g o d = absurd (omega arith)
from-listed k [] ss l q h g o d = absurd (omega arith)

-- A place that stands before each of a list stands before all of it.
before-all : (p : Place) (ps : List Place) → ((q : Place) → Listed q ps → Before p q) → BeforeAll p ps
before-all p [] h = tt
before-all p (q ∷ ps) h = (h q (here refl), before-all p ps (λ x i. h x (behind i)))

-- Two lists in the order of the flow, the first before the second, make one.
joined-order : (ps qs : List Place) → InFlowOrder ps → InFlowOrder qs → ((p q : Place) → Listed p ps → Listed q qs → Before p q) → InFlowOrder (ps ++ qs)
joined-order [] qs a b h = b
joined-order (p ∷ ps) qs a b h = (both ps a.0, joined-order ps qs a.1 b (λ x y i j. h x y (behind i) j))
  where
    both : (xs : List Place) → BeforeAll p xs → BeforeAll p (xs ++ qs)
    both [] c = before-all p qs (λ y j. h p y (here refl) j)
    both (x ∷ xs) c = (c.0, both xs c.1)

-- The fields of a record are listed in their order.
order-in : (k n : ℕ) (fl : List Field) (old new : List ℕ) → Apart n fl → InFlowOrder (changed_in k fl old new)
unfolding changed_in
order-in k n [] old new a = tt
order-in k n (f ∷ fl) old new a = go (stays f old new) (order-in k f.end fl old new a.3)
  where
    ahead : (q : Place) → Listed q (changed_in k fl old new) → Before (place k (f.start + 1)) q
    ahead q i =
        let d = listed_in k old new fl i in
        let o = apart-one f.end fl a.3 d.field d.written in
        rw d.named (inr (refl, omega (arith, a.1, o.0)))

    go : (b : Bool) → InFlowOrder (changed_in k fl old new) → InFlowOrder (cond b (changed_in k fl old new) (place k (f.start + 1) ∷ changed_in k fl old new))
    go true i = i
    go false i = (before-all _ _ ahead, i)

-- And so are those of records.
order_from : (k : ℕ) (rs ss : List (List ℕ)) → InFlowOrder (changed_from k rs ss)
unfolding changed_from
order_from k [] ss = tt
order_from k (r ∷ rs) [] = tt
order_from k (r ∷ rs) (s ∷ ss) = joined-order _ _ (order-in (k + 1) 0 (written_fields (kind_in r)) r s (written_apart r)) (order_from (k + 1) rs ss) ahead
  where
    ahead : (p q : Place) → Listed p (changed_in (k + 1) (written_fields (kind_in r)) r s) → Listed q (changed_from (k + 1) rs ss) → Before p q
    ahead p q i j =
        let d = listed_in (k + 1) r s (written_fields (kind_in r)) i in
        let e = listed-from (k + 1) rs ss j in
        rw (d.named, e.inner.named) (inl (omega arith))

-- There are at most four for each record.
few-from : (k : ℕ) (rs ss : List (List ℕ)) → length (changed_from k rs ss) ≤ 4 * length rs
unfolding changed_from
few-from k [] ss = omega arith
few-from k (r ∷ rs) [] = omega arith
few-from k (r ∷ rs) (s ∷ ss) = omega (arith, length-append (changed_in (k + 1) (written_fields (kind_in r)) r s) (changed_from (k + 1) rs ss), record-few (k + 1) r s, few-from (k + 1) rs ss)

-- A flow of whole records keeps its length.
pub refreshed-length : (f : List ℕ) → Whole f → length (refreshed f) ≡ length f
unfolding refreshed
refreshed-length f w = length-mended f w.even start_state

-- A flow.
module _ (f : List ℕ) where
  -- "in the order of the flow"; so none is listed twice
  pub listed-in-order : InFlowOrder (changes_of f)
  unfolding changes_of
  listed-in-order = order_from 0 (records_of f) (records_of (refreshed f))

  -- Four for each record is room enough.
  pub few-changes : length (changes_of f) ≤ 4 * (length f / 120)
  unfolding changes_of
  few-changes = omega (arith, few-from 0 (records_of f) (records_of (refreshed f)), length-chunks (length f / 120) f)

  -- A field is among those that rebalancing changes exactly when its bytes differ.
  pub changed-exactly : Whole f → (p : Place) → Listed p (changes_of f) ↔ Differs f (refreshed f) p
  unfolding changes_of
  changed-exactly w p = (there, back)
    where
      as_many : length (records_of f) ≡ length (records_of (refreshed f))
      as_many = omega (arith, length-chunks (length f / 120) f, length-chunks (length (refreshed f) / 120) (refreshed f), refreshed-length f w)

      there : Listed p (changes_of f) → Differs f (refreshed f) p
      there h =
          let d = listed-from 0 (records_of f) (records_of (refreshed f)) h in
          record {
            before = d.before;
            field = d.inner.field;
            there = d.there;
            written = d.inner.written;
            numbered = ap (λ (q : Place). q.«record») d.inner.named ∙ (let e : 0 + d.before + 1 ≡ d.before + 1 = omega arith in e);
            starts = ap (λ (q : Place). q.start) d.inner.named;
            differ = d.inner.differ;
          }

      back : Differs f (refreshed f) p → Listed p (changes_of f)
      back d =
          rw (ap₂ place (d.numbered ∙ (let e : d.before + 1 ≡ 0 + d.before + 1 = omega arith in e)) d.starts)
          (from-listed 0 (records_of f) (records_of (refreshed f)) as_many d.before d.there d.field d.written d.differ)
