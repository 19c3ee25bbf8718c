-- Deleghe dropped one by one, with numbers that move up, leave the same flow as dropped together.
use Prim.Native.Nat.{ℕ, zero, suc, ◌-◌, ◌≤◌}
use mathlib.Core.Path.{◌≡◌, refl, sym, ap, ◌∙◌}
use mathlib.Core.Bool.{Bool, true, false, cond, false≢true}
use mathlib.Core.List.{List, [], ◌∷◌, map}
use native.Mathlib.Omega.{arith}
use borrow.Author.Tests.{eqb-false, ne_eqb}
use lib.Dec.{eqb}
use lib.ListN.{length, take, length-map}
use Rattle.text.specs.Among.{among}
use Rattle.layout.specs.Kinds.{kind_in, numbered}
use Rattle.layout.specs.Fields.{delega_number, value_of}
use Rattle.rules.specs.State.{start_state}
use Rattle.judge.specs.Flow.{records_of, judged}
use Rattle.rebalance.specs.Rebalance.{rebalanced, flat, refreshed}
use Rattle.close.specs.Closing.{stays, kept_of, left_of}
use Rattle.close.proofs.Counted.{once-parts, left-counted}
use Rattle.dropping.specs.Answers.{Dropped}
use Rattle.dropping.specs.Dropping.{shortened, dropping_of, dropped_flow}
use Rattle.dropping.specs.Inner.{Droppable}
use Rattle.dropping.specs.Effect.{Stayed, EachStayed, moved, OneByOne, Ended, Next}
use Rattle.dropping.proofs.Stayed.{stayed-kind}
use Rattle.dropping.proofs.Moved.{moved-left, moved-among, moved-once, first-once, first-left, others-left}
use Rattle.dropping.proofs.Again.{all-again}
use Rattle.dropping.proofs.Shortened.{records-closed, shortened-accepted, shortened-stayed}
use Rattle.dropping.proofs.Numbers.{deleghe-left}
use Rattle.dropping.proofs.Answered.{drops, droppable}
use Rattle.dropping.proofs.Dropped.{dropped-room}
use Rattle.dropping.proofs.Unchanged.{shortened-none}

-- One delega, and others that a list names.
module _ (d : ℕ) (ds : List ℕ) where
  -- A record that goes with the one goes with all.
  goes_with : (r : List ℕ) → stays (d ∷ []) r ≡ false → stays (d ∷ ds) r ≡ false
  unfolding stays among
  goes_with r = go (numbered (kind_in r)) (eqb (value_of r delega_number) d)
    where
      go : (n b : Bool) → cond n (cond (cond b true false) false true) true ≡ false → cond n (cond (cond b true (among (value_of r delega_number) ds)) false true) true ≡ false
      go true true e = refl
      go true false e = absurd (false≢true (sym e))
      go false b e = absurd (false≢true (sym e))

  -- A record that stays without the one goes with the others where it does with all.
  stays-with : (r : List ℕ) → stays (d ∷ []) r ≡ true → (stays (d ∷ ds) r ≡ stays ds r) × (numbered (kind_in r) ≡ true → value_of r delega_number ≡ d → ⊥)
  unfolding stays among
  stays-with r = go (numbered (kind_in r)) (eqb (value_of r delega_number) d) refl
    where
      go : (n b : Bool) → eqb (value_of r delega_number) d ≡ b → cond n (cond (cond b true false) false true) true ≡ true →
          (cond n (cond (cond b true (among (value_of r delega_number) ds)) false true) true ≡ cond n (cond (among (value_of r delega_number) ds) false true) true) × (n ≡ true → value_of r delega_number ≡ d → ⊥)
      go true true q e = absurd (false≢true e)
      go true false q e = (refl, λ n. eqb-false _ d q)
      go false b q e = (refl, λ n. absurd (false≢true n))

  -- With its new number it goes with the new numbers of the others where it did with the old ones.
  stays_moved : (r q : List ℕ) → 1 ≤ d → among d ds ≡ false → Stayed (d ∷ []) r q → stays (d ∷ []) r ≡ true → stays (map (moved d) ds) q ≡ stays ds r
  unfolding stays
  stays_moved r q lo a s e = rw (stayed-kind s) (go (numbered (kind_in r)) refl (stays-with r e).1)
    where
      go : (n : Bool) → numbered (kind_in r) ≡ n → (numbered (kind_in r) ≡ true → value_of r delega_number ≡ d → ⊥) → cond n (cond (among (value_of q delega_number) (map (moved d) ds)) false true) true ≡ cond n (cond (among (value_of r delega_number) ds) false true) true
      go true h x =
          let v = s.number h ∙ moved-left d (value_of r delega_number) lo (x h) in
          ap (λ (b : Bool). cond b false true) (ap (λ (i : ℕ). among i (map (moved d) ds)) v ∙ moved-among d ds a (value_of r delega_number) (x h))
      go false h x = refl

  -- So of the records that stay, those go with the new numbers that go with all.
  kept_again : 1 ≤ d → among d ds ≡ false → (rs qs : List (List ℕ)) → EachStayed (d ∷ []) (kept_of (d ∷ []) rs) qs → EachStayed (d ∷ []) (kept_of (d ∷ ds) rs) (kept_of (map (moved d) ds) qs)
  unfolding kept_of
  kept_again lo a [] [] s = tt
  kept_again lo a [] (q ∷ qs) s = absurd s
  kept_again lo a (r ∷ rs) qs s = one (stays (d ∷ []) r) refl qs s (kept_again lo a rs)
    where
      two : (b : Bool) (q : List ℕ) (qs : List (List ℕ)) → Stayed (d ∷ []) r q → EachStayed (d ∷ []) (kept_of (d ∷ ds) rs) (kept_of (map (moved d) ds) qs) →
          EachStayed (d ∷ []) (cond b (r ∷ kept_of (d ∷ ds) rs) (kept_of (d ∷ ds) rs)) (cond b (q ∷ kept_of (map (moved d) ds) qs) (kept_of (map (moved d) ds) qs))
      two true q qs h k = (h, k)
      two false q qs h k = k

      one : (b : Bool) → stays (d ∷ []) r ≡ b → (qs : List (List ℕ)) → EachStayed (d ∷ []) (cond b (r ∷ kept_of (d ∷ []) rs) (kept_of (d ∷ []) rs)) qs →
          ((ps : List (List ℕ)) → EachStayed (d ∷ []) (kept_of (d ∷ []) rs) ps → EachStayed (d ∷ []) (kept_of (d ∷ ds) rs) (kept_of (map (moved d) ds) ps)) →
          EachStayed (d ∷ []) (cond (stays (d ∷ ds) r) (r ∷ kept_of (d ∷ ds) rs) (kept_of (d ∷ ds) rs)) (kept_of (map (moved d) ds) qs)
      one true e [] s h = absurd s
      one true e (q ∷ qs) s h = rw ((stays-with r e).0, stays_moved r q lo a s.0 e) (two (stays ds r) q qs s.0 (h qs s.1))
      one false e qs s h = rw (goes_with r e) (h qs s)

-- A flow from which several may be dropped.
module _ (f : List ℕ) (d : ℕ) (ds : List ℕ) (m : Droppable f (d ∷ ds)) where
  abbrev n : ℕ
  n = (judged f).summary.deleghe

  -- The first may be dropped by itself.
  pub first-droppable : Droppable f (d ∷ [])
  first-droppable =
      let q = eqb-false (left_of (d ∷ ds) n) 0 m.some in
      record { accepted = m.accepted; once = first-once n d ds m.once; some = ne_eqb (left_of (d ∷ []) n) 0 (λ z. q (omega (arith, left-counted n (d ∷ ds) m.once, left-counted n (d ∷ []) (first-once n d ds m.once)))) }

  -- What is left then has one delega less.
  one_less : (judged (shortened f (d ∷ []))).summary.deleghe ≡ (judged f).summary.deleghe - 1
  one_less = deleghe-left f (d ∷ []) first-droppable ∙ first-left n d ds m.once

  -- The others may be dropped from it, with numbers that move up.
  pub others-droppable : Droppable (shortened f (d ∷ [])) (map (moved d) ds)
  others-droppable =
      let p = once-parts n d ds m.once in
      record {
        accepted = shortened-accepted f (d ∷ []) first-droppable;
        once = rw one_less (moved-once n d ds p.0.0 p.0.1 p.1 p.2);
        some = rw (one_less, others-left n d ds m.once) m.some;
      }

  -- The flow that is left then is the one that is left when all are dropped together.
  pub first-then-others : shortened (shortened f (d ∷ [])) (map (moved d) ds) ≡ shortened f (d ∷ ds)
  unfolding shortened refreshed
  first-then-others =
      let p = once-parts n d ds m.once in
      let s = kept_again d ds p.0.0 p.1 (records_of f) (records_of (shortened f (d ∷ []))) (shortened-stayed f (d ∷ []) first-droppable) in
      ap (λ (rs : List (List ℕ)). flat (rebalanced start_state rs)) (records-closed (shortened f (d ∷ [])) (map (moved d) ds) others-droppable)
      ∙ (ap flat (all-again (d ∷ []) start_state 0 (kept_of (d ∷ ds) (records_of f)) (kept_of (map (moved d) ds) (records_of (shortened f (d ∷ [])))) s)
      ∙ sym (ap (λ (rs : List (List ℕ)). flat (rebalanced start_state rs)) (records-closed f (d ∷ ds) m)))

-- So one after the other, by so many calls as there are numbers.
steps : (k : ℕ) (f numbers : List ℕ) → length numbers ≡ k → Droppable f numbers → OneByOne f numbers (shortened f numbers)
steps zero f [] l m = rw (shortened-none f m.accepted) Ended
steps zero f (d ∷ ds) l m = absurd (omega arith)
steps (suc k) f [] l m = absurd (omega arith)
steps (suc k) f (d ∷ ds) l m =
    let e = drops f (d ∷ []) (first-droppable f d ds m) in
    Next {d = d} {ds = ds} {g = shortened f (d ∷ ds)} (length (shortened f (d ∷ []))) e
    (rw ((dropped-room f (d ∷ []) e).0, ← (first-then-others f d ds m)) (steps k (shortened f (d ∷ [])) (map (moved d) ds) (length-map ds (moved d) ∙ omega arith) (others-droppable f d ds m)))

-- Dropping one by one, with numbers that move up, ends in the same flow as dropping together.
pub one_by_one : (f numbers : List ℕ) {n : ℕ} → dropping_of f numbers ≡ Dropped n → OneByOne f numbers (take n (dropped_flow f numbers))
one_by_one f numbers e = rw (dropped-room f numbers e).0 (steps (length numbers) f numbers refl (droppable f numbers e).0)

-- It ends in one flow only.
pub one_end : {f numbers g h : List ℕ} → OneByOne f numbers g → OneByOne f numbers h → g ≡ h
one_end Ended Ended = refl
one_end (Next n e x) (Next m q y) = let z : m ≡ n = cc in one_end x (rw z at y)
