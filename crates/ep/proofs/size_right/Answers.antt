-- `ep::size_right` meets its contract.
use Prim.Native.Nat.{ℕ, ◌<◌}
use mathlib.Core.Bool.{false, not}
use mathlib.Core.Logic.{◌⊎◌, inl, inr}
use mathlib.Core.Path.{◌≡◌, sym, ap, ◌∙◌}
use borrow.Author.Tests.{eq-eqb, ne_eqb, lt-ltb, le-ltb, lt-leb}
use Rattle.ep.specs.Payments.{size_right}
use Rattle.ep.proofs.size_right.Goals.{then-len-ne0, else-len-ne0}
use Rattle.ep.proofs.size_right.Goals as goal

-- No bytes, and too many.
wrong-size : (n : ℕ) → ((n ≡ 0 → ⊥) × (19000000 < n)) ⊎ (n ≡ 0) → size_right n ≡ false
unfolding size_right
wrong-size n (inl p) = simp (ne_eqb n 0 p.0, lt-ltb 19000000 n p.1)
wrong-size n (inr z) = simp (eq-eqb n 0 z)

too-many : (n : ℕ) → ((n ≡ 0 → ⊥) × (19000000 < n)) ⊎ (n ≡ 0) → (n ≡ 0 → ⊥) → 19000000 < n
too-many n (inl p) d = p.1
too-many n (inr z) d = absurd (d z)

pub returns-then-len-le-MOST_BYTES : goal.returns-then-len-le-MOST_BYTES
unfolding size_right
returns-then-len-le-MOST_BYTES c = let t = c.if-len-le-MOST_BYTES.true in simp (ne_eqb _ _ t.0, le-ltb _ _ t.1)

pub returns-else-len-le-MOST_BYTES : goal.returns-else-len-le-MOST_BYTES
returns-else-len-le-MOST_BYTES c =
    let e = c.if-len-le-MOST_BYTES.either in
    let w = sym (wrong-size _ e) in
    elim c.if-len-ne0.branch [
      | then-len-ne0 v ↦ v.t-3-is ∙ (lt-leb _ _ (too-many _ e v.if-len-ne0.true) ∙ w)
      | else-len-ne0 v ↦ v.t-3-is ∙ (ap not (eq-eqb _ _ v.if-len-ne0.false) ∙ w)
    ]
