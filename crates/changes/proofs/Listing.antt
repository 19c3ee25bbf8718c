-- Fields listed one after the other: those of a record, and those of record after record.
use Prim.Native.Nat.{ℕ, ◌+◌, ◌*◌, ◌/◌, ◌<◌, ◌≤◌}
use mathlib.Core.Path.{◌≡◌, refl, sym, ap, ◌∙◌}
use mathlib.Core.Bool.{Bool, true, false, cond}
use mathlib.Core.List.{List, [], ◌∷◌, ◌++◌}
use native.Mathlib.Omega.{arith}
use native.Mathlib.Numerals.{add-one}
use lib.ListN.{length, take, drop, get_or, length-append, drop_of_length-le}
use lib.Seq.{drop-cons}
use Rattle.layout.specs.declared.Field.{Field}
use Rattle.layout.specs.Kinds.{kind_in}
use Rattle.layout.specs.Fields.{nowhere}
use Rattle.judge.specs.Flow.{records_of, rest_of}
use Rattle.rebalance.proofs.Turns.{rest-on, rest_end, rest-start}
use Rattle.changes.specs.Changes.{stays, written_fields, Place, place, changed_in, changed_from}
use Rattle.changes.specs.Inner.{put_place, put_places}
use Rattle.changes.proofs.Placed.{length-places, places-append}
use Rattle.changes.proofs.FieldsWritten.{written-four}

-- No more fields are listed than there are.
changed-few : (k : ℕ) (fl : List Field) (old new : List ℕ) → length (changed_in k fl old new) ≤ length fl
unfolding changed_in
changed-few k [] old new = omega arith
changed-few k (f ∷ fl) old new = go (stays f old new) (changed-few k fl old new)
  where
    go : (b : Bool) → length (changed_in k fl old new) ≤ length fl → length (cond b (changed_in k fl old new) (place k (f.start + 1) ∷ changed_in k fl old new)) ≤ length (f ∷ fl)
    go true h = omega arith
    go false h = omega arith

-- Of a record there are at most four.
pub record-few : (k : ℕ) (old new : List ℕ) → length (changed_in k (written_fields (kind_in old)) old new) ≤ 4
record-few k old new = omega (arith, changed-few k (written_fields (kind_in old)) old new, written-four (kind_in old))

-- The first of some fields comes before the others.
one-first : (k : ℕ) (f : Field) (fl : List Field) (old new : List ℕ) → changed_in k (f ∷ fl) old new ≡ changed_in k (f ∷ []) old new ++ changed_in k fl old new
unfolding changed_in
one-first k f fl old new = go (stays f old new)
  where
    go : (b : Bool) → cond b (changed_in k fl old new) (place k (f.start + 1) ∷ changed_in k fl old new) ≡ cond b [] (place k (f.start + 1) ∷ []) ++ changed_in k fl old new
    go true = refl
    go false = refl

-- A field is listed where its bytes differ.
module _ (k : ℕ) (f : Field) (old new list : List ℕ) (n : ℕ) where
  pub field-same : stays f old new ≡ true → (n ≡ n + length (changed_in k (f ∷ []) old new)) × (list ≡ put_places n (changed_in k (f ∷ []) old new) list)
  unfolding changed_in put_places
  field-same e = rw e (omega arith, refl)

  pub field-changed : stays f old new ≡ false → (n + 1 ≡ n + length (changed_in k (f ∷ []) old new)) × (put_place n (place k (f.start + 1)) list ≡ put_places n (changed_in k (f ∷ []) old new) list)
  unfolding changed_in put_places
  field-changed e = rw e (refl, refl)

-- The fields fl of the k-th record, behind n others, in a list that is lent.
module _ (k : ℕ) (fl : List Field) (old new : List ℕ) (n : ℕ) (lent : List ℕ) where
  -- The fields behind the first f.
  abbrev left : ℕ → List Place
  left f = changed_in k (drop f fl) old new

  -- What is left of them behind the first f gives the whole answer and the whole list.
  pub record Listing (list : List ℕ) (listed f : ℕ) : Type 0 where
    pub counted : n + length (changed_in k fl old new) ≡ listed + length (changed_in k (drop f fl) old new)
    pub written : put_places n (changed_in k fl old new) lent ≡ put_places listed (changed_in k (drop f fl) old new) list
    pub behind : listed ≤ n + f
    pub sized : length list ≡ length lent

  pub listing_start : Listing lent n 0
  listing_start = record { counted = refl; written = refl; behind = omega arith; sized = refl }

  pub listing-end : (list : List ℕ) (listed f : ℕ) → Listing list listed f → length fl ≤ f → (listed ≡ n + length (changed_in k fl old new)) × (list ≡ put_places n (changed_in k fl old new) lent)
  unfolding changed_in put_places
  listing-end list listed f w h =
      let e : left f ≡ [] = rw (drop_of_length-le fl h) in
      (omega (arith, w.counted, ap length e), sym (w.written ∙ ap (λ (ps : List Place). put_places listed ps list) e))

  -- One field is looked at.
  module _ (list : List ℕ) (listed f : ℕ) (w : Listing list listed f) (h : f < length fl) where
    abbrev g : Field
    g = get_or fl f nowhere

    abbrev this : List Place
    this = changed_in k (g ∷ []) old new

    parts-field : left f ≡ this ++ left (f + 1)
    parts-field = ap (λ (l : List Field). changed_in k l old new) (drop-cons fl f nowhere h ∙ ap (λ (m : ℕ). g ∷ drop m fl) (sym (add-one f))) ∙ one-first k g (drop (f + 1) fl) old new

    -- Behind it the answer and the list are longer by it, where it differs.
    pub listing-on : (m : ℕ) (out : List ℕ) → m ≡ listed + length this → out ≡ put_places listed this list → Listing out m (f + 1)
    listing-on m out em eo =
        record {
          counted = omega (arith, w.counted, ap length parts-field, length-append this (left (f + 1)));
          written = w.written ∙ (ap (λ (ps : List Place). put_places listed ps list) parts-field ∙ (places-append listed this (left (f + 1)) list ∙ rw (← em, ← eo)));
          behind = omega (arith, w.behind, changed-few k (g ∷ []) old new);
          sized = rw eo (length-places listed this list ∙ w.sized);
        }

-- A flow as it was and as it is, and a list that is lent.
module _ (old new lent : List ℕ) where
  -- The fields of the records behind the first k.
  abbrev rest : ℕ → List Place
  rest k = changed_from k (rest_of old k) (rest_of new k)

  abbrev all : List Place
  all = changed_from 0 (records_of old) (records_of new)

  -- What is left behind the first k records gives the whole answer and the whole list.
  pub record Going (list : List ℕ) (n k : ℕ) : Type 0 where
    pub counted : length (changed_from 0 (records_of old) (records_of new)) ≡ n + length (changed_from k (rest_of old k) (rest_of new k))
    pub written : put_places 0 (changed_from 0 (records_of old) (records_of new)) lent ≡ put_places n (changed_from k (rest_of old k) (rest_of new k)) list
    pub few : n ≤ 4 * k
    pub ahead : k ≤ length old / 120
    pub sized : length list ≡ length lent

  pub going_start : Going lent 0 0
  going_start = let e : all ≡ rest 0 = sym (ap (λ (rs : List (List ℕ)). changed_from 0 rs (rest_of new 0)) (rest-start old) ∙ ap (changed_from 0 (records_of old)) (rest-start new)) in record { counted = omega (arith, ap length e); written = ap (λ (ps : List Place). put_places 0 ps lent) e; few = omega arith; ahead = omega arith; sized = refl }

  pub going_end : (list : List ℕ) (n k : ℕ) → Going list n k → length old / 120 ≤ k → (n ≡ length all) × (list ≡ put_places 0 all lent)
  unfolding changed_from put_places
  going_end list n k w h =
      let e : rest k ≡ [] = rw (rest_end old k h) in
      (omega (arith, w.counted, ap length e), sym (w.written ∙ ap (λ (ps : List Place). put_places n ps list) e))

  -- A record is left, in flows of one length.
  module _ (as_long : length new ≡ length old) (list : List ℕ) (n k : ℕ) (w : Going list n k) (more : k < length old / 120) (r s : List ℕ) (er : r ≡ take 120 (drop (k * 120) old)) (es : s ≡ take 120 (drop (k * 120) new)) where
    abbrev these : List Place
    these = changed_in (k + 1) (written_fields (kind_in r)) r s

    parts : rest k ≡ these ++ rest (k + 1)
    unfolding changed_from
    parts = rw (rest-on old k more, rest-on new k (rw as_long more), ← er, ← es)

    -- Behind it the answer and the list are longer by its own fields.
    pub going_on : (m : ℕ) (out : List ℕ) → m ≡ n + length these → out ≡ put_places n these list → Going out m (k + 1)
    going_on m out em eo =
        record {
          counted = omega (arith, w.counted, ap length parts, length-append these (rest (k + 1)));
          written = w.written ∙ (ap (λ (ps : List Place). put_places n ps list) parts ∙ (places-append n these (rest (k + 1)) list ∙ rw (← em, ← eo)));
          few = omega (arith, w.few, record-few (k + 1) r s);
          ahead = omega arith;
          sized = rw eo (length-places n these list ∙ w.sized);
        }
