-- A correction touches only the columns that are named.
use Prim.Native.Nat.{ℕ, zero, suc, ◌+◌, ◌/◌, ◌%◌, ◌<◌}
use mathlib.Core.Path.{◌≡◌, refl, sym, ap, ap₂, ◌∙◌}
use mathlib.Core.Bool.{Bool, true, false, cond}
use mathlib.Core.List.{List, [], ◌∷◌, ◌++◌}
use mathlib.Core.Logic.{inl, inr, ⊎_elim}
use native.Mathlib.Omega.{arith}
use borrow.Author.Tests.{eqb-true, eqb-false, eq-eqb, ne_eqb}
use lib.Dec.{eqb}
use lib.ListN.{length, get_or}
use Rattle.text.specs.Numbers.{digits_of}
use Rattle.text.specs.Placing.{put_at}
use Rattle.text.proofs.Numerals.{length_digits}
use Rattle.text.proofs.Puts.{length-put}
use Rattle.layout.specs.declared.Kind.{Kind}
use Rattle.layout.specs.declared.Kind.TheVariants.{Line, Balance, Payment, Tail}
use Rattle.layout.specs.Sections.{section_at}
use Rattle.layout.specs.Kinds.{kind_in}
use Rattle.layout.specs.Fields.{amount_at, delega_number, final_balance, tail_sum, value_of, in_columns}
use Rattle.rules.specs.declared.State.{State}
use Rattle.refusal.specs.Outcomes.{Pass}
use Rattle.rules.specs.State.{start_state}
use Rattle.rules.specs.Stored.{section_sums, stored_of}
use Rattle.rules.specs.Checks.{carried, number_fault, fault}
use Rattle.rules.specs.Step.{next}
use Rattle.judge.specs.Flow.{records_of, head_name_of}
use Rattle.judge.specs.Plain.{NoFault, Whole, state_after}
use Rattle.judge.proofs.Accepted.{accepted-means-no-fault, carried-number}
use Rattle.rebalance.specs.Rebalance.{put_all, emit, rebalanced, Sized, refreshed}
use Rattle.layout.proofs.InTable.{line-within}
use Rattle.rebalance.specs.Places.{balance_columns}
use Rattle.rebalance.proofs.Outside.{outside, put-outside, covers-clear, balance-covers}
use Rattle.rebalance.proofs.Columns.{Storing, plain, balance, payment, tail, storing}
use Rattle.rebalance.proofs.Emit.{kept-each, emit-same-stored, emit-plain, emit-outside, fault-kept, emit-own}
use Rattle.rebalance.proofs.Rebalanced.{sized-rebalanced}
use Rattle.rebalance.proofs.Flat.{flat-byte}
use Rattle.rebalance.proofs.Judged.{sized-records, flat-records}
use Rattle.find.specs.Line.{line_of}
use Rattle.correct.specs.Answers.{Made}
use Rattle.correct.specs.Correction.{section_of, correction_of, corrected_bytes}
use Rattle.correct.specs.Effect.{with_amounts}
use Rattle.correct.specs.Writing.{amounts_put}
use Rattle.correct.specs.Touched.{line_columns, stored_columns, may_touch}
use Rattle.correct.proofs.Amended.{amended, credit-room, debit-room, line-amended}
use Rattle.correct.proofs.Split.{Split, line-splits, records-replaced}
use Rattle.correct.proofs.Answered.{Passed}
use Rattle.correct.proofs.Conditions.{made-passed, made_bytes}
use Rattle.correct.proofs.StaysAccepted.{accepted-whole, amounts-whole}
use Rattle.correct.proofs.OtherSums.{Off, blank-at, off-on, off-line}

-- The counts in the tail, as they are written.
abbrev counted : State → List ℕ → List ℕ
counted st r = put_at 82 (digits_of 7 (st.seen + 1)) (put_at 45 (digits_of 7 st.deleghe) r)

-- Outside its sum the tail gets the counts only.
tail-byte : (st : State) (r : List ℕ) → length r ≡ 120 → kind_in r ≡ Tail → (c : ℕ) → in_columns c (tail_sum ∷ []) ≡ false → get_or (emit st r) c 0 ≡ get_or (counted st r) c 0
unfolding emit put_all
tail-byte st r l e c h =
    let i = length_digits 7 st.deleghe in
    let j = length_digits 7 (st.seen + 1) in
    let k = length_digits 15 st.money.total in
    let m : length (put_at 45 (digits_of 7 st.deleghe) r) ≡ length r = length-put 45 _ r (omega (arith, i)) in
    let o : length (counted st r) ≡ length r = length-put 82 (digits_of 7 (st.seen + 1)) (put_at 45 (digits_of 7 st.deleghe) r) (omega (arith, j)) ∙ m in
    rw e (put-outside 52 (digits_of 15 st.money.total) (counted st r) (omega (arith, k)) c (⊎_elim (λ p. inl p) (λ p. inr (omega (arith, k))) (outside c tail_sum [] h).0))

-- A record that passes every check after one state, rebalanced after another.
module _ (name : List ℕ) (d s : ℕ) (a b : State) (r : List ℕ) (l : length r ≡ 120) (o : Off d s a b) (e : fault name a r ≡ Pass) (c : ℕ) where
  abbrev own-number : ℕ
  own-number = value_of r delega_number

  -- It stays where both store the same.
  same-stored : {k : Kind} → kind_in r ≡ k → stored_of a k ≡ stored_of b k → get_or (emit b r) c 0 ≡ get_or r c 0
  same-stored q p = ap (λ (z : List ℕ). get_or z c 0) (sym (emit-same-stored a b r (rw q p)) ∙ emit-own a r l name e)

  -- It passes its check on the delega number.
  number : {k : Kind} → kind_in r ≡ k → number_fault a.deleghe k own-number ≡ Pass
  number q = rw q at (kept-each name a r (fault-kept a r l name e)).number

  -- The sums of its delega are the same, where it carries another number.
  other-delega : carried a.deleghe own-number ≡ Pass → (own-number ≡ d → ⊥) → a.money.delega ≡ b.money.delega
  other-delega p h = o.elsewhere (λ q. h (carried-number _ _ p ∙ q))

  -- Outside the columns that may be touched it stays.
  off_byte : {k : Kind} → Storing b k → kind_in r ≡ k → in_columns c (stored_columns d s k own-number) ≡ false → get_or (emit b r) c 0 ≡ get_or r c 0
  unfolding number_fault
  off_byte (plain z f) q h = ap (λ (x : List ℕ). get_or x c 0) (emit-plain b r (rw q z))
  off_byte (balance t i) q h = go (eqb t s) (eqb own-number d) refl refl h
    where
      go : (u v : Bool) → eqb t s ≡ u → eqb own-number d ≡ v → in_columns c (cond u (cond v (balance_columns s) []) []) ≡ false → get_or (emit b r) c 0 ≡ get_or r c 0
      go true true p w h =
          let x : t ≡ s = eqb-true t s p in
          emit-outside b r l c (rw (q, x) (covers-clear c (balance_columns s) (stored_of b (Balance s)) (balance-covers s (section_sums b s) (section_at s).totals) h))
      go true false p w h = same-stored q (rw (other-delega (number q) (eqb-false own-number d w)))
      go false v p w h = same-stored q (rw (blank-at s t a.money.delega.sections b.money.delega.sections (eqb-false t s p) o.others))
  off_byte payment q h = go (eqb own-number d) refl h
    where
      go : (v : Bool) → eqb own-number d ≡ v → in_columns c (cond v (final_balance ∷ []) []) ≡ false → get_or (emit b r) c 0 ≡ get_or r c 0
      go true w h = emit-outside b r l c (rw q (covers-clear c (final_balance ∷ []) (stored_of b Payment) (refl, refl, tt) h))
      go false w h = same-stored q (rw (other-delega (number q) (eqb-false own-number d w)))
  off_byte tail q h =
      tail-byte b r l q c h
      ∙ (ap₂ (λ (i j : ℕ). get_or (put_at 82 (digits_of 7 (j + 1)) (put_at 45 (digits_of 7 i) r)) c 0) (sym o.near.numbers) (sym o.near.counts)
      ∙ (sym (tail-byte a r l q c h) ∙ ap (λ (x : List ℕ). get_or x c 0) (emit-own a r l name e)))

-- So do the records behind the line.
off-bytes : (name : List ℕ) (d s : ℕ) (a b : State) (rs : List (List ℕ)) → Sized rs → NoFault name a rs → Off d s a b → (q c : ℕ) → in_columns c (stored_columns d s (kind_in (get_or rs q [])) (value_of (get_or rs q []) delega_number)) ≡ false → get_or (get_or (rebalanced b rs) q []) c 0 ≡ get_or (get_or rs q []) c 0
unfolding rebalanced
off-bytes name d s a b [] z f o q c h = refl
off-bytes name d s a b (r ∷ rs) z f o zero c h = off_byte name d s a b r z.0 o f.0 c (storing b r) refl h
off-bytes name d s a b (r ∷ rs) z f o (suc q) c h = off-bytes name d s (next a r) (next b r) rs z.1 f.1 (off-on d s a b r o) q c h

-- So does the line.
amended-outside : (s : ℕ) → s < 5 → (r : List ℕ) → length r ≡ 120 → (x y c : ℕ) → in_columns c (line_columns s) ≡ false → get_or (amended s x y r) c 0 ≡ get_or r c 0
unfolding amended amounts_put
amended-outside s w r l x y c h =
    let i = length_digits 15 x in
    let j = length_digits 15 y in
    let o = outside c (amount_at (section_at s).debit) _ h in
    let p = outside c (amount_at (section_at s).credit) [] o.1 in
    put-outside _ _ _ (debit-room s w r l x y) c (⊎_elim (λ p. inl p) (λ p. inr (rw i p)) o.0)
    ∙ put-outside _ _ r (credit-room s w r l y) c (⊎_elim (λ p. inl p) (λ p. inr (rw j p)) p.0)

-- So do all records, where a line of section s in delega d gets other amounts.
all-bytes : (name : List ℕ) (d s : ℕ) (st : State) (xs : List (List ℕ)) (r : List ℕ) (ys : List (List ℕ)) → Sized (xs ++ (r ∷ ys)) → NoFault name st (xs ++ (r ∷ ys)) → kind_in r ≡ Line s → (state_after st xs).deleghe ≡ d → (x y q c : ℕ) →
    (q ≡ length xs → in_columns c (line_columns s) ≡ false) → ((q ≡ length xs → ⊥) → in_columns c (stored_columns d s (kind_in (get_or (xs ++ (r ∷ ys)) q [])) (value_of (get_or (xs ++ (r ∷ ys)) q []) delega_number)) ≡ false) →
    get_or (get_or (rebalanced st (xs ++ (amended s x y r ∷ ys))) q []) c 0 ≡ get_or (get_or (xs ++ (r ∷ ys)) q []) c 0
unfolding rebalanced state_after
all-bytes name d s st [] r ys z f e n x y zero c h g =
    let k = line-amended s r z.0 e x y in
    ap (λ (t : List ℕ). get_or t c 0) (emit-plain st (amended s x y r) (rw k)) ∙ amended-outside s (line-within r s e) r z.0 x y c (h refl)
all-bytes name d s st [] r ys z f e n x y (suc q) c h g = off-bytes name d s (next st r) (next st (amended s x y r)) ys z.1 f.1 (off-line d s st r (amended s x y r) n e (line-amended s r z.0 e x y)) q c (g (λ p. omega arith))
all-bytes name d s st (t ∷ xs) r ys z f e n x y zero c h g = ap (λ (u : List ℕ). get_or u c 0) (emit-own st t z.0 name f.0)
all-bytes name d s st (t ∷ xs) r ys z f e n x y (suc q) c h g = all-bytes name d s (next st t) xs r ys z.1 f.1 e n x y q c (λ p. h (ap suc p)) (λ p. g (λ u. p (omega arith)))

-- A correction that may be made, and a byte that it may not touch.
module _ (f : List ℕ) (d subtype n x y : ℕ) (m : Passed f d subtype n x y) (i : ℕ) (h : may_touch f d subtype n i ≡ false) where
  abbrev w : Whole f
  w = accepted-whole f m.accepted

  abbrev k : ℕ
  k = line_of f d subtype n

  abbrev p : Split d (section_of subtype) start_state 0 k (records_of f)
  p = line-splits f d subtype n m.found

  abbrev t : List ℕ
  t = with_amounts f d subtype n x y

  -- It stays in its record.
  record-byte : get_or (get_or (rebalanced start_state (records_of t)) (i / 120) []) (i % 120) 0 ≡ get_or (get_or (records_of f) (i / 120) []) (i % 120) 0
  unfolding may_touch
  record-byte =
      rw (records-replaced f w.even p x y, p.split)
      (all-bytes (head_name_of f) d (section_of subtype) start_state p.before p.here p.behind (rw p.split at (sized-records f w.even)) (rw p.split at (accepted-means-no-fault f m.accepted).passes) p.kind p.number x y (i / 120) (i % 120)
      (λ e. rw (eq-eqb (i / 120 + 1) k (omega (arith, p.counted))) at h)
      (λ e. rw (ne_eqb (i / 120 + 1) k (λ u. e (omega (arith, p.counted))), p.split) at h))

  -- It stays in the flow.
  refreshed-byte : get_or (refreshed t) i 0 ≡ get_or f i 0
  unfolding refreshed
  refreshed-byte =
      flat-byte (rebalanced start_state (records_of t)) (sized-rebalanced start_state (records_of t) (sized-records t (amounts-whole f d subtype n x y m).even)) i
      ∙ (record-byte ∙ (sym (flat-byte (records_of f) (sized-records f w.even) i) ∙ ap (λ (l : List ℕ). get_or l i 0) (flat-records f w.even)))

-- A correction that is made leaves every byte outside the columns that it may touch.
pub only-named-columns : (f : List ℕ) (d subtype n x y : ℕ) → correction_of f d subtype n x y ≡ Made → (i : ℕ) → may_touch f d subtype n i ≡ false → get_or (corrected_bytes f d subtype n x y) i 0 ≡ get_or f i 0
only-named-columns f d subtype n x y e i h = rw (made_bytes f d subtype n x y e) (refreshed-byte f d subtype n x y ((made-passed f d subtype n x y).0 e) i h)
