-- Laws of lengths: of what a dropping with a record answers, and of a room that was read into.
use Prim.Native.Nat.{ℕ, ◌<◌, ◌≤◌}
use mathlib.Core.Path.{◌≡◌, refl, sym, ap, ◌∙◌}
use mathlib.Core.Bool.{Bool, true, false, true≢false}
use mathlib.Core.List.{List}
use borrow.Author.Tests.{leb-true, leb-false}
use lib.Dec.{leb}
use lib.ListN.{length}
use Rattle.dropping.specs.Answers.{Dropped}
use Rattle.dropping.proofs.Dropped.{dropped-room}
use Rattle.sums.specs.declared.KeptSums.{KeptSums}
use Rattle.kept.specs.Answers.{DroppingKept}
use Rattle.kept.specs.Keeping.{dropping_kept}
use Rattle.kept.proofs.Answered.{dropping-done}

-- The length answered lies within the flow that was lent.
pub kept-within : (k : KeptSums) (f numbers : List ℕ) (n : ℕ) (x : DroppingKept) → x ≡ dropping_kept k f numbers → x.answer ≡ Dropped n → n ≤ length f
unfolding dropping_kept
kept-within k f numbers n x p e = (dropped-room f numbers ((dropping-done k f numbers n).0 (sym (ap (λ (y : DroppingKept). y.answer) p) ∙ e)).0).2

-- A room that bytes were read into is longer than they are.
pub read_below : (m n : ℕ) (b : Bool) {X : Type 0} → (m ≤ n → (b ≡ false) × X) → b ≡ true → n < m
read_below m n b h e = go (leb m n) refl
  where
    go : (t : Bool) → leb m n ≡ t → n < m
    go true p = absurd (true≢false (sym e ∙ (h (leb-true m n p)).0))
    go false p = leb-false m n p
