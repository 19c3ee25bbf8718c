-- The bounds on what is handed in: a turn of the loop over numbers, and what the tests say of a state.
use Prim.Native.Nat.{ℕ, zero, suc, ◌+◌, ◌<◌, ◌≤◌}
use mathlib.Core.Path.{◌≡◌}
use mathlib.Core.Bool.{true, false}
use mathlib.Core.List.{List, [], ◌∷◌}
use native.Mathlib.Omega.{arith}
use borrow.Author.Tests.{leb-true, le-leb, lt-leb}
use lib.Dec.{leb}
use lib.ListN.{length, drop, get_or, drop_of_length-le}
use Rattle.text.proofs.Bytes.{drop-one}
use Rattle.text.proofs.Tests.{both_true}
use Rattle.rules.specs.declared.State.{State}
use Rattle.portion.specs.Portion.{at_most, counts_right}

module _ (m : ℕ) (l : List ℕ) (i : ℕ) (h : i < length l) where
  pub most-on : get_or l i 0 ≤ m → at_most m (drop i l) ≡ at_most m (drop (i + 1) l)
  unfolding at_most
  most-on e = rw (drop-one l i h, le-leb _ _ e)

  pub most-not : m < get_or l i 0 → at_most m (drop i l) ≡ false
  unfolding at_most
  most-not e = rw (drop-one l i h, lt-leb _ _ e)

pub most-end : (m : ℕ) (l : List ℕ) (i : ℕ) → length l ≤ i → at_most m (drop i l) ≡ true
unfolding at_most
most-end m l i h = rw (drop_of_length-le l h)

-- a number of a list that is nowhere above m
pub each-most : (m : ℕ) (l : List ℕ) (i : ℕ) → at_most m l ≡ true → get_or l i 0 ≤ m
unfolding at_most
each-most m [] i e = omega arith
each-most m (n ∷ ns) zero e = leb-true n m (both_true (leb n m) (at_most m ns) e).0
each-most m (n ∷ ns) (suc i) e = each-most m ns i (both_true (leb n m) (at_most m ns) e).1

-- counts, phase and section one by one
pub record Counts (st : State) : Type 0 where
  pub seen : st.seen ≤ 546
  pub others : st.others ≤ st.seen
  pub deleghe : st.deleghe ≤ st.seen
  pub lines : st.stage.lines ≤ st.seen
  pub phase : st.stage.phase ≤ 9
  pub section : st.stage.section ≤ 4

pub counts-say : (st : State) → counts_right st ≡ true → Counts st
unfolding counts_right
counts-say st e =
    let a = both_true (leb st.seen 546) _ e in
    let b = both_true (leb st.others st.seen) _ a.1 in
    let c = both_true (leb st.deleghe st.seen) _ b.1 in
    let d = both_true (leb st.stage.lines st.seen) _ c.1 in
    let f = both_true (leb st.stage.phase 9) _ d.1 in
    record { seen = leb-true _ _ a.0; others = leb-true _ _ b.0; deleghe = leb-true _ _ c.0; lines = leb-true _ _ d.0; phase = leb-true _ _ f.0; section = leb-true _ _ f.1 }

pub counts-so : (st : State) → Counts st → counts_right st ≡ true
unfolding counts_right
counts-so st c = rw (le-leb _ _ c.seen, le-leb _ _ c.others, le-leb _ _ c.deleghe, le-leb _ _ c.lines, le-leb _ _ c.phase, le-leb _ _ c.section)
