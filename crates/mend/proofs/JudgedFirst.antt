-- Where the judge refuses a flow that can be rebalanced, the field that it names is listed.
use Prim.Native.Nat.{ℕ, ◌+◌, ◌-◌, ◌<◌}
use mathlib.Core.Path.{◌≡◌, refl, sym, ap, ◌∙◌}
use mathlib.Core.Bool.{Bool, true, false, cond, true≢false}
use mathlib.Core.List.{List, [], ◌∷◌, ◌++◌}
use native.Mathlib.Omega.{arith}
use lib.ListN.{length, take, drop, get_or, length-append}
use lib.Seq.{get_or-append_seam}
use Rattle.layout.specs.declared.Field.{Field}
use Rattle.layout.specs.declared.Kind.{Kind}
use Rattle.layout.specs.Sections.{section_at}
use Rattle.layout.specs.Kinds.{kind_in}
use Rattle.layout.specs.Fields.{tail_deleghe, tail_sum, tail_records, fields_of, bytes_of}
use Rattle.refusal.specs.Outcomes.{Pass, Fails}
use Rattle.refusal.proofs.Parts.{fails-parts}
use Rattle.rules.specs.declared.State.{State}
use Rattle.rules.specs.State.{start_state}
use Rattle.rules.specs.Stored.{Stored, Value, Mark, section_sums, stored_of, right, fault_of, wrong}
use Rattle.rules.specs.Checks.{bad_fields, fault}
use Rattle.text.specs.Numbers.{number_of}
use Rattle.rules.specs.Step.{next}
use Rattle.judge.specs.Refusal as Judged
use Rattle.refusal.specs.Refusals.{refusal}
use Rattle.judge.specs.Refusal.{refusal_of}
use Rattle.judge.specs.Flow.{records_of, head_name_of, judged}
use Rattle.judge.specs.Plain.{Whole, state_after}
use Rattle.judge.proofs.FirstFault.{record-fault}
use Rattle.judge.proofs.ChecksInOrder.{Only, passed, field-only, never, other-fault}
use Rattle.text.proofs.Tests.{both_true}
use Rattle.rebalance.specs.Rebalance.{start_of, width_of, text_of, fits_one, fits_all, all_fit, emit, rebalanced, refreshed, kept_fault, Sized}
use Rattle.rebalance.proofs.Written.{Holds, put_all-holds, holds-right}
use Rattle.rebalance.proofs.Outside.{Covers, balance-covers}
use Rattle.rebalance.proofs.Columns.{Storing, plain, balance, payment, tail, storing, columns}
use Rattle.rebalance.proofs.Emit.{kept-each}
use Rattle.rebalance.proofs.Weighed.{fits-append}
use Rattle.rebalance.proofs.Rebalanced.{length-rebalanced, sized-rebalanced, rebalanced-append}
use Rattle.rebalance.proofs.Flat.{records-flat}
use Rattle.rebalance.proofs.Judged.{sized-records}
use Rattle.changes.specs.Changes.{written_fields, place, changes_of}
use Rattle.changes.specs.Listed.{record_behind, OneOf, first, later}
use Rattle.changes.proofs.Listed.{changed-exactly}
use Rattle.mend.specs.Answers.{Mended}
use Rattle.mend.specs.Mending.{mending_of}
use Rattle.mend.specs.WhenRefused.{NoneRemains}
use Rattle.mend.specs.Effect.{ListedAt}
use Rattle.mend.proofs.MendedFlow.{rebalanced-when}

-- A field of a record, in which two records differ, that starts at a position.
pub record Wrongly (fl : List Field) (r s : List ℕ) (p : ℕ) : Type 0 where
  pub field : Field
  pub one : OneOf field fl
  pub at : p ≡ field.start + 1
  pub differ : bytes_of r field ≡ bytes_of s field → ⊥

-- A stored field that is not right differs from what it should hold.
wrongly-one : (f : Field) (x : Stored) (r s : List ℕ) (n p : ℕ) → f.start ≡ start_of x → f.end ≡ start_of x + width_of x → fits_one x ≡ true → take (width_of x) (drop (start_of x) s) ≡ text_of x →
    right x r ≡ false → fault_of x ≡ Fails n p → (p ≡ f.start + 1) × (bytes_of r f ≡ bytes_of s f → ⊥)
wrongly-one f x r s n p a b h o e q = (placed x a q, λ d. true≢false (sym (holds-right x r h (part r ∙ (d ∙ (sym (part s) ∙ o)))) ∙ e))
  where
    part : (t : List ℕ) → take (width_of x) (drop (start_of x) t) ≡ bytes_of t f
    part t = rw (a, b) (ap (λ (m : ℕ). take m (drop (start_of x) t)) (let z : width_of x ≡ start_of x + width_of x - start_of x = omega arith in z))

    placed : (y : Stored) → f.start ≡ start_of y → fault_of y ≡ Fails n p → p ≡ f.start + 1
    placed (Value m g v) c d = rw c (sym (fails-parts d).1)
    placed (Mark m g v) c d = rw c (sym (fails-parts d).1)

-- The first stored field that is not right is one of the columns.
wrongly : (fl : List Field) (xs : List Stored) (r s : List ℕ) (n p : ℕ) → Covers fl xs → fits_all xs ≡ true → Holds xs s → wrong xs r ≡ Fails n p → Wrongly fl r s p
unfolding fits_all
wrongly [] [] r s n p c f o e = let z : ◌≡◌ {A = ℕ} 0 1 = cc in absurd (omega arith)
wrongly [] (x ∷ xs) r s n p c f o e = absurd c
wrongly (g ∷ fl) [] r s n p c f o e = absurd c
wrongly (g ∷ fl) (x ∷ xs) r s n p c f o e = go (right x r) refl e (wrongly fl xs r s n p c.2 (both_true (fits_one x) (fits_all xs) f).1 o.1)
  where
    go : (b : Bool) → right x r ≡ b → cond b (wrong xs r) (fault_of x) ≡ Fails n p → (wrong xs r ≡ Fails n p → Wrongly fl r s p) → Wrongly (g ∷ fl) r s p
    go true q e ih = let w = ih e in record { field = w.field; one = later w.one; at = w.at; differ = w.differ }
    go false q e ih = let w = wrongly-one g x r s n p c.0 c.1 (both_true (fits_one x) (fits_all xs) f).0 o.0 q e in record { field = g; one = first refl; at = w.0; differ = w.1 }

-- The columns of the tail, in the order of its refusals, are those that are written.
tail-one : (g : Field) → OneOf g (tail_deleghe ∷ tail_records ∷ tail_sum ∷ []) → OneOf g (tail_deleghe ∷ tail_sum ∷ tail_records ∷ [])
tail-one g (later (later (later x9))) = elim x9 [ ]
tail-one g (first e) = first e
tail-one g (later (first e)) = later (later (first e))
tail-one g (later (later (first e))) = later (first e)

-- A record of 120 bytes in which no fault remains, and whose values fit.
module _ (name : List ℕ) (st : State) (r : List ℕ) (l : length r ≡ 120) (kept : kept_fault name st r ≡ Pass) (fits : fits_all (stored_of st (kind_in r)) ≡ true) where
  holds : Holds (stored_of st (kind_in r)) (emit st r)
  unfolding emit
  holds = put_all-holds (stored_of st (kind_in r)) r (columns (storing st r)).laid_out l

  seven-only : (fl : List Field) → Only 7 (bad_fields fl r)
  unfolding bad_fields
  seven-only [] = passed
  seven-only (f ∷ fl) = field-only (number_of (bytes_of r f)) f (seven-only fl)

  -- A fault other than 7 is that of a stored field.
  stored-fault : {n p : ℕ} → (7 ≡ n → ⊥) → fault name st r ≡ Fails n p → wrong (stored_of st (kind_in r)) r ≡ Fails n p
  unfolding fault
  stored-fault d e =
      let k = kept-each name st r kept in
      (other-fault (bad_fields (fields_of (kind_in r)) r) (never (seven-only (fields_of (kind_in r))) d) (rw (k.characters, k.order, k.number, k.own) at e)).1

  -- The field differs once the record is rebalanced.
  pub fault-differs : {n p : ℕ} → (7 ≡ n → ⊥) → fault name st r ≡ Fails n p → Wrongly (written_fields (kind_in r)) r (emit st r) p
  fault-differs {n} {p} d e = go (storing st r) fits holds (stored-fault d e)
    where
      go : {k : Kind} → Storing st k → fits_all (stored_of st k) ≡ true → Holds (stored_of st k) (emit st r) → wrong (stored_of st k) r ≡ Fails n p → Wrongly (written_fields k) r (emit st r) p
      go (plain z f) i o q = let y : Pass ≡ Fails n p = ap (λ (xs : List Stored). wrong xs r) (sym z) ∙ q in let x : ◌≡◌ {A = ℕ} 0 1 = cc in absurd (omega arith)
      go (balance s h) i o q = wrongly _ _ r (emit st r) n p (balance-covers s (section_sums st s) (section_at s).totals) i o q
      go payment i o q = wrongly _ _ r (emit st r) n p (refl, refl, tt) i o q
      go tail i o q =
          let w = wrongly (tail_deleghe ∷ tail_records ∷ tail_sum ∷ []) _ r (emit st r) n p (refl, refl, (refl, refl, (refl, refl, tt))) i o q in
          record { field = w.field; one = tail-one w.field w.one; at = w.at; differ = w.differ }

-- Records split at one of them: what holds of all holds of it, and its rebalancing stands in its place.
module _ (before : List (List ℕ)) (one : List ℕ) (behind : List (List ℕ)) where
  pub sized-at : (xs : List (List ℕ)) → Sized (xs ++ (one ∷ behind)) → length one ≡ 120
  sized-at [] z = z.0
  sized-at (x ∷ xs) z = sized-at xs z.1

  none-at : (name : List ℕ) (st : State) (xs : List (List ℕ)) → NoneRemains name st (xs ++ (one ∷ behind)) → kept_fault name (state_after st xs) one ≡ Pass
  unfolding state_after
  none-at name st [] h = h.0
  none-at name st (x ∷ xs) h = none-at name (next st x) xs h.1

  fits-at : (st : State) → all_fit st (before ++ (one ∷ behind)) ≡ true → fits_all (stored_of (state_after st before) (kind_in one)) ≡ true
  unfolding all_fit
  fits-at st e =
      let b = both_true (all_fit st before) (all_fit (state_after st before) (one ∷ behind)) (sym (fits-append st before (one ∷ behind)) ∙ e) in
      (both_true (fits_all (stored_of (state_after st before) (kind_in one))) (all_fit (next (state_after st before) one) behind) b.1).0

  emitted-at : (st : State) → get_or (rebalanced st (before ++ (one ∷ behind))) (length before) [] ≡ emit (state_after st before) one
  unfolding rebalanced
  emitted-at st =
      rw (rebalanced-append st before (one ∷ behind))
      (ap (λ (i : ℕ). get_or (rebalanced st before ++ rebalanced (state_after st before) (one ∷ behind)) i []) (sym (length-rebalanced st before)) ∙ get_or-append_seam (rebalanced st before) _ _ [])

-- A flow that can be rebalanced and that the judge refuses at one of its records: the records before it, the state after them, the record as it is and as it will be.
pub record Met (f : List ℕ) (n k p : ℕ) : Type 0 where
  pub before : ℕ
  pub after : State
  pub one : List ℕ
  pub whole : Whole f
  pub counted : k ≡ before + 1
  pub there : before < length (records_of f)
  pub old : record_behind f before ≡ one
  pub new : record_behind (refreshed f) before ≡ emit after one
  pub sized : length one ≡ 120
  pub kept : kept_fault (head_name_of f) after one ≡ Pass
  pub fits : fits_all (stored_of after (kind_in one)) ≡ true
  pub fails : fault (head_name_of f) after one ≡ Fails n p

pub met : (f list : List ℕ) {n k p m : ℕ} → (judged f).verdict ≡ Judged.Refused n k p → 5 < n → mending_of f list ≡ Mended m → Met f n k p
unfolding refreshed
met f list {n} {k} {p} j h e =
    let b = rebalanced-when f list e in
    let w = b.mends.whole in
    let t = (record-fault f (refusal n k p) (ap refusal_of j) h).1 in
    let z = sized-records f w.even in
    record {
      before = length t.before;
      after = state_after start_state t.before;
      one = t.here;
      whole = w;
      counted = t.counted;
      there = omega (arith, ap length t.split, length-append t.before (t.here ∷ t.behind));
      old = ap (λ (rs : List (List ℕ)). get_or rs (length t.before) []) t.split ∙ get_or-append_seam t.before t.here t.behind [];
      new =
          ap (λ (rs : List (List ℕ)). get_or rs (length t.before) []) (records-flat (rebalanced start_state (records_of f)) (sized-rebalanced start_state (records_of f) z))
          ∙ (ap (λ (rs : List (List ℕ)). get_or (rebalanced start_state rs) (length t.before) []) t.split ∙ emitted-at t.before t.here t.behind start_state);
      sized = sized-at t.before t.here t.behind t.before (rw t.split at z);
      kept = none-at t.before t.here t.behind (head_name_of f) start_state t.before (rw t.split at b.mends.passes);
      fits = fits-at t.before t.here t.behind start_state (rw t.split at b.fits);
      fails = t.fails;
    }

-- "Faults 10 to 13, 15, 18 to 20 .. don't stop it": the field for which the judge refuses the flow so is listed, at the record and the position that the judge tells.
pub refused-is-listed : (f list : List ℕ) {n k p m : ℕ} → (judged f).verdict ≡ Judged.Refused n k p → 9 < n → mending_of f list ≡ Mended m → ListedAt (changes_of f) k p
refused-is-listed f list {n} {k} {p} j h e =
    let t = met f list j (omega arith) e in
    let x = fault-differs (head_name_of f) t.after t.one t.sized t.kept t.fits (λ q. omega arith) t.fails in
    record {
      at = place k p;
      numbered = refl;
      starts = refl;
      listed =
          (changed-exactly f t.whole (place k p)).1
          (record {
            before = t.before;
            field = x.field;
            there = t.there;
            written = rw t.old x.one;
            numbered = t.counted;
            starts = x.at;
            differ = rw (t.old, t.new) x.differ;
          });
    }
