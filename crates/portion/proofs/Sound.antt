-- Numbers that pass the bounds are those of a state from which a judgement may go on without an overflow.
use Prim.Native.Nat.{ℕ, zero, suc, ◌+◌, ◌*◌, ◌/◌, ◌%◌, ◌<◌, ◌≤◌}
use mathlib.Core.Path.{◌≡◌, refl, ◌∙◌}
use mathlib.Core.Bool.{true}
use mathlib.Core.List.{List}
use native.Mathlib.Omega.{arith}
use borrow.Author.Tests.{leb-true}
use lib.Dec.{leb}
use lib.ListN.{length, take, drop, get_or}
use lib.Seq.{get_or-take, get_or-drop}
use Rattle.text.proofs.Tests.{both_true}
use Rattle.rules.specs.Bounds.{SumsBelow, StateBelow}
use Rattle.rules.specs.State.{no_sums}
use Rattle.state.specs.Numbers.{sums_at, state_of}
use Rattle.portion.specs.declared.Progress.{Progress}
use Rattle.portion.specs.Portion.{course_right, at_most, counts_right, sums_right, possible}
use Rattle.portion.specs.Inner.{Goes}
use Rattle.portion.proofs.Counts.{each-most, Counts, counts-say}

-- the tests one by one
pub record Sound (x : Progress) : Type 0 where
  pub counts : Counts (state_of x.kept)
  pub course : course_right (state_of x.kept).seen x.course ≡ true
  pub sums : sums_right x.kept ≡ true

pub possible-says : (x : Progress) → possible x ≡ true → Sound x
unfolding possible
possible-says x e =
    let a = both_true (counts_right (state_of x.kept)) _ e in
    let b = both_true (course_right (state_of x.kept).seen x.course) _ a.1 in
    record { counts = counts-say _ a.0; course = b.0; sums = b.1 }

-- five sums that stand among numbers of which none is above b
sums-below : (b : ℕ) (l : List ℕ) (j : ℕ) → ((i : ℕ) → i < 10 → get_or l (j + i) 0 ≤ b) → SumsBelow b (sums_at l j)
unfolding sums_at
sums-below b l j h = record { five = refl; each = go }
  where
    go : (i : ℕ) → ((get_or (sums_at l j) i no_sums).debit ≤ b) × ((get_or (sums_at l j) i no_sums).credit ≤ b)
    go zero = (rw (let q : j + 0 ≡ j = omega arith in q) at (h 0 (omega arith)), h 1 (omega arith))
    go (suc zero) = (h 2 (omega arith), h 3 (omega arith))
    go (suc (suc zero)) = (h 4 (omega arith), h 5 (omega arith))
    go (suc (suc (suc zero))) = (h 6 (omega arith), h 7 (omega arith))
    go (suc (suc (suc (suc zero)))) = (h 8 (omega arith), h 9 (omega arith))
    go (suc (suc (suc (suc (suc i))))) = (omega arith, omega arith)

module _ (kept : List ℕ) (s : sums_right kept ≡ true) where
  abbrev most : ℕ
  most = get_or kept 0 0 * 999_999_999_999_999

  together : (get_or kept 6 0 + get_or kept 7 0 ≤ most) × (at_most most (take 21 (drop 8 kept)) ≡ true)
  unfolding sums_right
  together = let a = both_true (leb (get_or kept 6 0 + get_or kept 7 0) most) _ s in (leb-true _ _ a.0, a.1)

  -- each of the last twenty-one
  each_below : (j : ℕ) → j < 21 → get_or kept (8 + j) 0 ≤ most
  each_below j h = let e = get_or-take 21 (drop 8 kept) j 0 h ∙ get_or-drop 8 kept j 0 in let m = each-most most (take 21 (drop 8 kept)) j together.1 in omega arith

  pub kept-below : Counts (state_of kept) → StateBelow (state_of kept)
  unfolding state_of
  kept-below c =
      record {
        money-below = record {
          debits = together.0;
          credits = each_below 0 (omega arith);
          delegas = sums-below most kept 9 (λ i h. let e = each_below (1 + i) (omega arith) in rw (let q : 9 + i ≡ 8 + (1 + i) = omega arith in q) e);
          flows = sums-below most kept 19 (λ i h. let e = each_below (11 + i) (omega arith) in rw (let q : 19 + i ≡ 8 + (11 + i) = omega arith in q) e);
        };
        lines-below = c.lines;
        deleghe-below = c.deleghe;
        others_below = c.others;
      }

-- so the judgement goes on where the flow has more records
pub sound-goes : (s : List ℕ) (x : Progress) → possible x ≡ true → length s ≤ 65520 → (length s ≡ 0 → ⊥) → length s % 120 ≡ 0 → (state_of x.kept).seen < length s / 120 → Goes s x
unfolding state_of
sound-goes s x e h n w m =
    let y = possible-says x e in
    record {
      ready = record { some = omega arith; whole = w; short = h; ahead = omega arith; below = kept-below x.kept y.sums y.counts };
      more = m;
      phase = let p = y.counts.phase in omega arith;
    }
