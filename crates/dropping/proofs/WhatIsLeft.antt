-- Which records are left, in which order, and with which numbers, by the names in the list alone.
use Prim.Native.Nat.{ℕ, ◌+◌, ◌<◌, ◌≤◌}
use mathlib.Core.Path.{◌≡◌, refl, sym, ap, ◌∙◌}
use mathlib.Core.Bool.{Bool, true, false, cond, false≢true}
use mathlib.Core.List.{List, [], ◌∷◌}
use native.Mathlib.Omega.{arith}
use native.Mathlib.Decide.{dec_lt}
use borrow.Author.Tests.{lt-ltb, le-ltb}
use lib.Dec.{ltb}
use lib.ListN.{take}
use Rattle.text.specs.Among.{among}
use Rattle.layout.specs.Kinds.{kind_in, numbered}
use Rattle.layout.specs.Fields.{delega_number, value_of}
use Rattle.judge.specs.Flow.{records_of}
use Rattle.close.specs.Closing.{stays, kept_of, each_once, left_of}
use Rattle.close.proofs.Counted.{once-parts, left-before, left_less, left-all}
use Rattle.dropping.specs.Answers.{Dropped}
use Rattle.dropping.specs.Dropping.{dropping_of, dropped_flow}
use Rattle.dropping.specs.Effect.{Stayed, EachStayed}
use Rattle.dropping.specs.WhatIsLeft.{before, Left, Ends, Goes, Stays}
use Rattle.dropping.proofs.Answered.{among-names, names-among, droppable}
use Rattle.dropping.proofs.Moved.{not-among}
use Rattle.dropping.proofs.BeforeAndAfter.{kept-differ}

-- The deleghe that are left up to one that is left, and those before it that are named, are all up to it.
left-and-named : (n : ℕ) (numbers : List ℕ) → each_once n numbers ≡ true → (v : ℕ) → among v numbers ≡ false → left_of numbers v + before v numbers ≡ v
unfolding before
left-and-named n [] e v a = omega (arith, left-all v)
left-and-named n (d ∷ ds) e v a =
    let p = once-parts n d ds e in
    let q = not-among v d ds a in
    go p.0.0 p.1 q.0 (left-and-named n ds p.2 v q.1) (dec_lt d v)
  where
    go : 1 ≤ d → among d ds ≡ false → (v ≡ d → ⊥) → left_of ds v + before v ds ≡ v → Dec (d < v) → left_of (d ∷ ds) v + (cond (ltb d v) 1 0 + before v ds) ≡ v
    go lo f x h (yes g) = rw (lt-ltb d v g) (omega (arith, left_less d ds v lo (omega arith) f))
    go lo f x h (no g) = rw (le-ltb d v (omega arith)) (omega (arith, left-before d ds v (omega arith)))

-- A list that names each of its deleghe once.
module _ (n : ℕ) (numbers : List ℕ) (e : each_once n numbers ≡ true) where
  -- A record that stays has a number less by those named before it.
  moves-up : (r q : List ℕ) → (numbered (kind_in r) ≡ true → among (value_of r delega_number) numbers ≡ false) → Stayed numbers r q → numbered (kind_in r) ≡ true → value_of q delega_number + before (value_of r delega_number) numbers ≡ value_of r delega_number
  moves-up r q a s h = ap (λ (m : ℕ). m + before (value_of r delega_number) numbers) (s.number h) ∙ left-and-named n numbers e (value_of r delega_number) (a h)

  -- Records of which those that are not named stayed.
  each_left : (rs qs : List (List ℕ)) → EachStayed numbers (kept_of numbers rs) qs → Left numbers rs qs
  unfolding kept_of stays
  each_left [] [] s = Ends
  each_left [] (q ∷ qs) s = absurd s
  each_left (r ∷ rs) qs s = go (numbered (kind_in r)) (among (value_of r delega_number) numbers) refl refl qs s (each_left rs)
    where
      stay : (numbered (kind_in r) ≡ true → among (value_of r delega_number) numbers ≡ false) → (qs : List (List ℕ)) → EachStayed numbers (r ∷ kept_of numbers rs) qs → ((ps : List (List ℕ)) → EachStayed numbers (kept_of numbers rs) ps → Left numbers rs ps) → Left numbers (r ∷ rs) qs
      stay a [] s i = absurd s
      stay a (q ∷ qs) s i = Stays {r = r} {q = q} (λ h x. false≢true (sym (a h) ∙ names-among x)) s.0 (moves-up r q a s.0) (i qs s.1)

      go : (b c : Bool) → numbered (kind_in r) ≡ b → among (value_of r delega_number) numbers ≡ c → (qs : List (List ℕ)) → EachStayed numbers (cond (cond b (cond c false true) true) (r ∷ kept_of numbers rs) (kept_of numbers rs)) qs → ((ps : List (List ℕ)) → EachStayed numbers (kept_of numbers rs) ps → Left numbers rs ps) → Left numbers (r ∷ rs) qs
      go true true h a qs s i = Goes {r = r} h (among-names (value_of r delega_number) numbers a) (i qs s)
      go true false h a qs s i = stay (λ z. a) qs s i
      go false c h a qs s i = stay (λ z. absurd (false≢true (sym h ∙ z))) qs s i

-- What is left of a flow: which records, in which order, with which numbers, and which of their bytes differ.
pub what-is-left : (f numbers : List ℕ) {n : ℕ} → dropping_of f numbers ≡ Dropped n → Left numbers (records_of f) (records_of (take n (dropped_flow f numbers)))
what-is-left f numbers e = each_left _ numbers (droppable f numbers e).0.once (records_of f) _ (kept-differ f numbers e)
