-- Spaces behind the bytes that are left.
use Prim.Native.Nat.{ℕ, ◌-◌, ◌≤◌}
use mathlib.Core.Path.{◌≡◌, sym, ap, ◌∙◌}
use mathlib.Core.List.{List, [], ◌++◌, append-nil}
use native.Mathlib.Omega.{arith}
use borrow.Author.Rules.{part_to_end}
use borrow.Rule.Slice.PartMut.{put_mid, post_of}
use lib.ListN.{length, take, drop, replicate, length-append, length-drop, drop_of_length-le}
use lib.Seq.{take_at, drop_at}
use Rattle.close.specs.Closing.{spaced}

-- Where bytes stand at the front of a flow, spaces in the place of all that is behind them leave those bytes, spaced.
pub spaces-behind : (g f m s : List ℕ) (n : ℕ) → n ≡ length g → n ≤ length f → m ≡ g ++ drop n f → s ≡ replicate (length (take (length m - n) (drop n m))) 32 → put_mid n (length m - n) m s ≡ spaced g (length f)
unfolding spaced
spaces-behind g f m s n e h p q =
    let l : length m ≡ length f = ap length p ∙ rw (length-append, length-drop) (omega arith) in
    let a : take n m ≡ g = ap (take n) p ∙ take_at g (drop n f) n (sym e) in
    let b : post_of n (length m - n) m ≡ [] = drop_of_length-le (drop n m) {i = length m - n} (rw length-drop (omega arith)) in
    let c : length (take (length m - n) (drop n m)) ≡ length f - length g = rw (part_to_end, length-drop) (omega arith) in
    rw (a, b, append-nil, q, c)

-- Bytes with spaces behind them: the bytes, and the spaces.
module _ (g : List ℕ) (n : ℕ) where
  pub spaced-front : (k : ℕ) → length g ≡ k → take k (spaced g n) ≡ g
  unfolding spaced
  spaced-front k e = take_at g _ k e

  pub spaced-behind : (k : ℕ) → length g ≡ k → drop k (spaced g n) ≡ replicate (n - k) 32
  unfolding spaced
  spaced-behind k e = drop_at g _ k e ∙ ap (λ (m : ℕ). replicate (n - m) 32) e
