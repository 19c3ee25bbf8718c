-- A correction is made exactly when all its tests are passed, and a refused one leaves every byte.
use Prim.Native.Nat.{ℕ}
use mathlib.Core.Path.{◌≡◌}
use mathlib.Core.List.{List}
use mathlib.Core.Logic.{◌↔◌}
use borrow.Author.Tests.{ne_eqb}
use Rattle.rebalance.specs.Rebalance.{refreshed}
use Rattle.find.specs.Line.{line_of, found_in}
use Rattle.correct.specs.Answers.{Made, Refused}
use Rattle.correct.specs.Correction.{correction_of, corrected_bytes}
use Rattle.correct.specs.Effect.{with_amounts}
use Rattle.correct.specs.WhenRefused.{Answers, IsMade}
use Rattle.correct.proofs.Answered.{Passed, passed-of, passed-made, answered-exactly}

module _ (f : List ℕ) (d subtype n x y : ℕ) where
  -- A correction is made exactly when all its tests are passed.
  pub made-passed : (correction_of f d subtype n x y ≡ Made) ↔ Passed f d subtype n x y
  made-passed = (λ e. go ((answered-exactly f d subtype n x y Made).0 e), passed-made f d subtype n x y)
    where
      go : Answers f d subtype n x y Made → Passed f d subtype n x y
      go (IsMade m) = passed-of f d subtype n x y m

  -- A correction that is made leaves the flow with the line's amounts replaced and every stored field worked out afresh.
  pub made_bytes : correction_of f d subtype n x y ≡ Made → corrected_bytes f d subtype n x y ≡ refreshed (with_amounts f d subtype n x y)
  unfolding corrected_bytes found_in
  made_bytes e = let m = made-passed.0 e in rw (e, m.accepted, ne_eqb (line_of f d subtype n) 0 m.found)

  -- A refused one leaves every byte.
  pub refused-untouched : {m r p : ℕ} → correction_of f d subtype n x y ≡ Refused m r p → corrected_bytes f d subtype n x y ≡ f
  unfolding corrected_bytes
  refused-untouched e = rw e
