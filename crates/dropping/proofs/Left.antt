-- What is left of records without a fault is mended by rebalancing, and every record that stays differs in its number alone, the tail in its counts and its sum.
use Prim.Native.Nat.{ℕ, ◌+◌, ◌<◌}
use mathlib.Core.Path.{◌≡◌, refl, sym, ap, ◌∙◌}
use mathlib.Core.Bool.{Bool, true, false, cond, false≢true}
use mathlib.Core.List.{List, [], ◌∷◌}
use mathlib.Core.Logic.{◌⊎◌, inl, inr}
use native.Mathlib.Omega.{arith}
use borrow.Author.Tests.{eqb-true, ltb-true, lt-ltb}
use lib.Dec.{ltb}
use lib.ListN.{length}
use Rattle.text.specs.Among.{among}
use Rattle.text.specs.Characters.{first_bad}
use Rattle.text.proofs.Bytes.{part_length}
use Rattle.text.proofs.Numerals.{number-below}
use Rattle.text.proofs.Tests.{both_true}
use Rattle.layout.specs.declared.Kind.{Kind}
use Rattle.layout.specs.declared.Kind.TheVariants.{Head, Taxpayer, Tail}
use Rattle.layout.specs.Kinds.{type_in, kind_in, numbered}
use Rattle.layout.specs.Fields.{delega_number, tail_deleghe, tail_sum, tail_records, fields_of, bytes_of, value_of}
use Rattle.refusal.specs.Outcomes.{Pass}
use Rattle.amounts.proofs.Outcomes.{five-pass}
use Rattle.order.specs.declared.Stage.{Stage}
use Rattle.order.specs.Stages.{at_start, after_tail}
use Rattle.order.specs.Order.{stands, full, standing}
use Rattle.rules.specs.declared.State.{State}
use Rattle.rules.specs.Stored.{stored_of}
use Rattle.rules.specs.Checks.{char_fault, bad_fields, number_fault, own_fault, fault}
use Rattle.rules.specs.Step.{next_deleghe, line_sums, next}
use Rattle.judge.specs.Plain.{state_after, NoFault}
use Rattle.judge.proofs.Accepted.{right_of}
use Rattle.rebalance.specs.Numbering.{with_number}
use Rattle.rebalance.specs.Rebalance.{emit, rebalanced, fits_all, kept_fault, Sized, Mendable}
use Rattle.rebalance.proofs.Outside.{outside, swapped, covers-clear}
use Rattle.rebalance.proofs.Emit.{kept-each, kept-all, emit-length, emit-plain, emit-outside, fault-kept, fault-fits, emit-own}
use Rattle.rebalance.proofs.Numbered.{length-number, number-said, number-byte}
use Rattle.close.specs.Closing.{stays, kept_of, renumbered, left_of}
use Rattle.close.proofs.Counted.{left-most}
use Rattle.dropping.specs.Effect.{Stayed, EachStayed}
use Rattle.dropping.proofs.OneRecord.{none-after-tail, stored-by, own-by, renewed-number, carries-number, next-deleghe, tail-phase, unnumbered-stays, unnumbered-same}
use Rattle.dropping.proofs.NewNumber.{renewed-kind, renewed-next, renewed-passes}
use Rattle.dropping.proofs.Following.{Sort, head, opening, inside, tail, none, sort, Place, Open, Gone, Follows, closed-taxpayer, closed-tail, kept_on, taken-on}

-- A list of numbers, and the name in the head.
module _ (numbers name : List ℕ) where
  -- What is said of records that stay, after a state.
  abbrev Mends : State → List (List ℕ) → Type 0
  Mends on ks = Mendable name on (renumbered on.deleghe ks) × EachStayed numbers ks (rebalanced on (renumbered on.deleghe ks))

  -- The same, where the number of deleghe is given.
  counted : (on : State) (ks : List (List ℕ)) (n : ℕ) → on.deleghe ≡ n → Mends on ks → Mendable name on (renumbered n ks) × EachStayed numbers ks (rebalanced on (renumbered n ks))
  counted on ks n e m = (rw (← e) m.0, rw (← e) m.1)

  -- One more record that stays.
  module _ (on : State) (r : List ℕ) (l : length r ≡ 120) (ks : List (List ℕ)) where
    abbrev q : List ℕ
    q = with_number (kind_in r) (next_deleghe on.deleghe (kind_in r)) r

    one_more : kept_fault name on (with_number (kind_in r) (next_deleghe on.deleghe (kind_in r)) r) ≡ Pass → fits_all (stored_of on (kind_in (with_number (kind_in r) (next_deleghe on.deleghe (kind_in r)) r))) ≡ true →
        Stayed numbers r (emit on (with_number (kind_in r) (next_deleghe on.deleghe (kind_in r)) r)) → Mends (next on (with_number (kind_in r) (next_deleghe on.deleghe (kind_in r)) r)) ks → Mends on (r ∷ ks)
    unfolding renumbered rebalanced
    one_more p f s m =
        let e = next-deleghe on q ∙ ap (next_deleghe on.deleghe) (renewed-kind on r l) in
        let w = counted (next on q) ks _ e m in
        ((length-number (kind_in r) _ r l, p, f, w.0), (s, w.1))

  -- A record without a fault that stays, after the states of the flow and of what is left.
  module _ (st on : State) (r : List ℕ) (l : length r ≡ 120) (p : fault name st r ≡ Pass) (f : Follows numbers st on) where
    carries : numbered (kind_in r) ≡ true → value_of r delega_number ≡ next_deleghe st.deleghe (kind_in r)
    carries n = carries-number name st r p n

    -- It stands in order.
    ordered : standing st.stage (type_in r) (kind_in r) ≡ Pass
    unfolding fault
    ordered = (five-pass (char_fault (first_bad r)) (standing st.stage (type_in r) (kind_in r)) (bad_fields (fields_of (kind_in r)) r) (number_fault st.deleghe (kind_in r) (value_of r delega_number)) _ p).1

    -- A delega may begin in what is left where one begins in the flow.
    begins : kind_in r ≡ Taxpayer → standing on.stage (type_in r) (kind_in r) ≡ Pass
    unfolding standing full
    begins e = rw (e, go f.place)
      where
        go : Place numbers st on → stands on.stage Taxpayer ≡ true
        go (Open s g b) = ap (λ (t : Stage). stands t Taxpayer) s ∙ rw e at (right_of name st r p).ordered
        go (Gone x y b c) = closed-taxpayer on c

    -- Its new number is that of deleghe which are left up to its own, and has at most seven digits.
    module _ (n : numbered (kind_in r) ≡ true) (a : among (value_of r delega_number) numbers ≡ false) where
      follows : Follows numbers (next st r) (next on (with_number (kind_in r) (next_deleghe on.deleghe (kind_in r)) r))
      unfolding next
      follows = rw (renewed-next on r l) (kept_on numbers st on f (line_sums (kind_in r) r) (sort (kind_in r)) n (rw (carries n) at a))

      new-number : next_deleghe on.deleghe (kind_in r) ≡ left_of numbers (value_of r delega_number)
      new-number = (kept_on numbers st on f (line_sums (kind_in r) r) (sort (kind_in r)) n (rw (carries n) at a)).number ∙ ap (left_of numbers) (sym (carries n))

      seven-digits : next_deleghe on.deleghe (kind_in r) < 10000000
      seven-digits = omega (arith, new-number, left-most numbers (value_of r delega_number), number-below 7 (bytes_of r delega_number) (part_length 7 3 r (omega arith)))

      -- The state of what is left is at the same stage of the same delega, where it is not a delega that begins.
      open-there : {k : Kind} → Sort k → kind_in r ≡ k → (kind_in r ≡ Taxpayer) ⊎ ((on.stage ≡ st.stage) × (on.money.delega ≡ st.money.delega))
      unfolding numbered
      open-there head e = absurd (false≢true (rw e at n))
      open-there opening e = inl e
      open-there {k} (inside m d w) e = inr (go f.place)
        where
          v : value_of r delega_number ≡ st.deleghe
          v = carries n ∙ (ap (next_deleghe st.deleghe) e ∙ d st.deleghe)

          go : Place numbers st on → (on.stage ≡ st.stage) × (on.money.delega ≡ st.money.delega)
          go (Open s g b) = (s, g)
          go (Gone x y b c) = absurd (false≢true (sym a ∙ (ap (λ (i : ℕ). among i numbers) v ∙ b)))
      open-there tail e = absurd (false≢true (rw e at n))
      open-there none e = absurd (false≢true (rw e at n))

      abbrev q' : List ℕ
      q' = with_number (kind_in r) (next_deleghe on.deleghe (kind_in r)) r

      -- It passes every check there.
      passes-there : fault name on (with_number (kind_in r) (next_deleghe on.deleghe (kind_in r)) r) ≡ Pass
      unfolding fault
      passes-there = go (open-there (sort (kind_in r)) refl)
        where
          there : standing on.stage (type_in r) (kind_in r) ≡ Pass → own_fault name on (kind_in r) r ≡ own_fault name st (kind_in r) r → stored_of on (kind_in r) ≡ stored_of st (kind_in r) → fault name on q' ≡ Pass
          there o w s = renewed-passes on r l name st p n seven-digits o w s

          go : (kind_in r ≡ Taxpayer) ⊎ ((on.stage ≡ st.stage) × (on.money.delega ≡ st.money.delega)) → fault name on q' ≡ Pass
          go (inl e) = there (begins e) (rw e) (rw e)
          go (inr g) = there (ap (λ (t : Stage). standing t (type_in r) (kind_in r)) g.0 ∙ ordered) (own-by name st on (kind_in r) r g.1) (stored-by st on (kind_in r) g.1 n)

      -- So it is its own rebalancing, and stays with another number.
      numbered_more : (ks : List (List ℕ)) → Mends (next on (with_number (kind_in r) (next_deleghe on.deleghe (kind_in r)) r)) ks → Mends on (r ∷ ks)
      numbered_more ks m =
          let d = next_deleghe on.deleghe (kind_in r) in
          let w = length-number (kind_in r) d r l in
          one_more on r l ks (fault-kept on q' w name passes-there) (fault-fits on q' w name passes-there)
          (rw (emit-own on q' w name passes-there)
          (record {
            was = l;
            is = w;
            same = λ i h. number-byte (kind_in r) d r l i (λ z. (outside i delega_number [] (rw (renewed-number (kind_in r) n) at h)).0);
            number = λ z. number-said (kind_in r) d r l n seven-digits ∙ new-number;
          }))
          m

      -- It stays.
      numbered-stays : stays numbers r ≡ true
      unfolding stays
      numbered-stays = rw (n, a)

    -- A record that is named goes.
    module _ (n : numbered (kind_in r) ≡ true) (a : among (value_of r delega_number) numbers ≡ true) where
      goes : stays numbers r ≡ false
      unfolding stays
      goes = rw (n, a)

      behind-gone : Follows numbers (next st r) on
      unfolding next
      behind-gone = taken-on numbers st on f (line_sums (kind_in r) r) (sort (kind_in r)) n (rw (carries n) at a) (right_of name st r p).ordered

    -- The checks that rebalancing leaves alone, of a record that carries no number.
    unnumbered-passes : numbered (kind_in r) ≡ false → standing on.stage (type_in r) (kind_in r) ≡ Pass → number_fault on.deleghe (kind_in r) (value_of r delega_number) ≡ Pass → own_fault name on (kind_in r) r ≡ own_fault name st (kind_in r) r → kept_fault name on r ≡ Pass
    unnumbered-passes n o c w =
        let k = kept-each name st r (fault-kept st r l name p) in
        kept-all name on r (record { characters = k.characters; order = o; digits = k.digits; number = c; own = w ∙ k.own })

    unnumbered-more : numbered (kind_in r) ≡ false → kept_fault name on r ≡ Pass → fits_all (stored_of on (kind_in r)) ≡ true → Stayed numbers r (emit on r) → (ks : List (List ℕ)) → Mends (next on r) ks → Mends on (r ∷ ks)
    unnumbered-more n c w s ks m =
        let e = unnumbered-same r n (next_deleghe on.deleghe (kind_in r)) in
        one_more on r l ks (rw e c) (rw e w) (rw e s) (rw e m)

    -- The head.
    module _ (e : kind_in r ≡ Head) where
      at-start : st.stage.phase ≡ at_start
      unfolding stands
      at-start = eqb-true st.stage.phase at_start (rw e at (right_of name st r p).ordered)

      same_place : (on.stage ≡ st.stage) × (on.money.delega ≡ st.money.delega) × (among st.deleghe numbers ≡ false)
      same_place = go f.place
        where
          go : Place numbers st on → (on.stage ≡ st.stage) × (on.money.delega ≡ st.money.delega) × (among st.deleghe numbers ≡ false)
          go (Open s g b) = (s, g, b)
          go (Gone x y b c) = absurd (omega (arith, at-start))

      head-follows : Follows numbers (next st r) (next on r)
      unfolding next
      head-follows =
          let h = f.seen in
          rw e (record { number = f.number; seen = omega arith; total = f.total; early = λ z. f.early (omega (arith, at-start)); place = Open refl same_place.1 same_place.2 })

      head_more : (ks : List (List ℕ)) → Mends (next on r) ks → Mends on (r ∷ ks)
      unfolding numbered number_fault fits_all
      head_more =
          let n : numbered (kind_in r) ≡ false = rw e in
          unnumbered-more n (unnumbered-passes n (ap (λ (t : Stage). standing t (type_in r) (kind_in r)) same_place.0 ∙ ordered) (rw e) (rw e)) (rw e)
          (rw (emit-plain on r (rw e)) (record { was = l; is = l; same = λ i h. refl; number = λ z. absurd (false≢true (sym n ∙ z)) }))

    -- The tail, where a delega is left.
    module _ (e : kind_in r ≡ Tail) (some : on.deleghe ≡ 0 → ⊥) where
      tail-stands : standing on.stage (type_in r) (kind_in r) ≡ Pass
      unfolding standing full
      tail-stands = rw (e, go f.place)
        where
          go : Place numbers st on → stands on.stage Tail ≡ true
          go (Open s g b) = ap (λ (t : Stage). stands t Tail) s ∙ rw e at (right_of name st r p).ordered
          go (Gone x y b c) = closed-tail on c some

      -- Its counts and its sum are no larger than they were.
      tail-fits : fits_all (stored_of on (kind_in r)) ≡ true
      unfolding fits_all
      tail-fits =
          let w = rw e at (fault-fits st r l name p) in
          let a = both_true (ltb st.deleghe 10000000) _ w in
          let b = both_true (ltb (st.seen + 1) 10000000) _ a.1 in
          let c = both_true (ltb st.money.total 1000000000000000) _ b.1 in
          let x = ltb-true st.deleghe 10000000 a.0 in
          let y = ltb-true (st.seen + 1) 10000000 b.0 in
          let z = ltb-true st.money.total 1000000000000000 c.0 in
          let u = f.seen in
          let v = f.total in
          rw (e, lt-ltb on.deleghe 10000000 (omega (arith, f.number, left-most numbers st.deleghe)), lt-ltb (on.seen + 1) 10000000 (omega arith), lt-ltb on.money.total 1000000000000000 (omega arith))

      tail_more : (ks : List (List ℕ)) → Mends (next on r) ks → Mends on (r ∷ ks)
      unfolding numbered number_fault
      tail_more =
          let n : numbered (kind_in r) ≡ false = rw e in
          unnumbered-more n (unnumbered-passes n tail-stands (rw e) (rw e)) tail-fits
          (record {
            was = l;
            is = emit-length on r l;
            same = λ i h. emit-outside on r l i (rw e (covers-clear i (tail_deleghe ∷ tail_records ∷ tail_sum ∷ []) (stored_of on Tail) (refl, refl, (refl, refl, (refl, refl, tt))) (sym (swapped i tail_deleghe tail_sum tail_records []) ∙ rw e at h)));
            number = λ z. absurd (false≢true (sym n ∙ z));
          })

  -- Behind EF nothing is left.
  tail-ends : (on : State) (r : List ℕ) (rs : List (List ℕ)) → kind_in r ≡ Tail → rs ≡ [] → Mends (next on r) (kept_of numbers rs)
  unfolding kept_of renumbered rebalanced
  tail-ends on r rs e q = rw q (tail-phase on r e, tt)

  -- One record, and those behind it.
  step-mends : (st on : State) (r : List ℕ) (rs : List (List ℕ)) → length r ≡ 120 → fault name st r ≡ Pass → NoFault name (next st r) rs → Follows numbers st on → (left_of numbers (state_after (next st r) rs).deleghe ≡ 0 → ⊥) →
      ((on' : State) → Follows numbers (next st r) on' → Mends on' (kept_of numbers rs)) → Mends on (kept_of numbers (r ∷ rs))
  unfolding kept_of numbered stands state_after
  step-mends st on r rs l p h f some ih = go (sort (kind_in r)) refl
    where
      stay : stays numbers r ≡ true → Mends on (r ∷ kept_of numbers rs) → Mends on (cond (stays numbers r) (r ∷ kept_of numbers rs) (kept_of numbers rs))
      stay e m = rw e m

      by_number : numbered (kind_in r) ≡ true → (b : Bool) → among (value_of r delega_number) numbers ≡ b → Mends on (cond (stays numbers r) (r ∷ kept_of numbers rs) (kept_of numbers rs))
      by_number n true a = rw (goes st on r l p f n a) (ih on (behind-gone st on r l p f n a))
      by_number n false a = stay (numbered-stays st on r l p f n a) (numbered_more st on r l p f n a (kept_of numbers rs) (ih _ (follows st on r l p f n a)))

      go : {k : Kind} → Sort k → kind_in r ≡ k → Mends on (cond (stays numbers r) (r ∷ kept_of numbers rs) (kept_of numbers rs))
      go head e = stay (unnumbered-stays r (rw e) numbers) (head_more st on r l p f e (kept_of numbers rs) (ih (next on r) (head-follows st on r l p f e)))
      go opening e = by_number (rw e) (among (value_of r delega_number) numbers) refl
      go (inside m d w) e = by_number (ap numbered e ∙ m) (among (value_of r delega_number) numbers) refl
      go tail e =
          let q = none-after-tail name (next st r) rs (tail-phase st r e) h in
          stay (unnumbered-stays r (rw e) numbers) (tail_more st on r l p f e (λ z. some (ap (λ (xs : List (List ℕ)). left_of numbers (state_after (next st r) xs).deleghe) q ∙ (ap (left_of numbers) (next-deleghe st r ∙ rw e) ∙ (sym f.number ∙ z)))) (kept_of numbers rs) (tail-ends on r rs e q))
      go none e = absurd (false≢true (rw e at (right_of name st r p).ordered))

  -- The records that stay of records without a fault that end with EF, where a delega is left.
  pub left-mends : (st on : State) (rs : List (List ℕ)) → Sized rs → NoFault name st rs → Follows numbers st on → (left_of numbers (state_after st rs).deleghe ≡ 0 → ⊥) → (state_after st rs).stage.phase ≡ after_tail →
      Mendable name on (renumbered on.deleghe (kept_of numbers rs)) × EachStayed numbers (kept_of numbers rs) (rebalanced on (renumbered on.deleghe (kept_of numbers rs)))
  unfolding state_after kept_of renumbered rebalanced
  left-mends st on [] z h f s t = (go f.place, tt)
    where
      go : Place numbers st on → on.stage.phase ≡ after_tail
      go (Open e g b) = ap (λ (p : Stage). p.phase) e ∙ t
      go (Gone x y b c) = absurd (omega (arith, t))
  left-mends st on (r ∷ rs) z h f s t = step-mends st on r rs z.0 h.0 h.1 f s (λ on' f'. left-mends (next st r) on' rs z.1 h.1 f' s t)
