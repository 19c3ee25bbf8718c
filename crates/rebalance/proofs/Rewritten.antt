-- Records that differ in what rebalancing writes alone: they lead to the same states, and rebalancing makes them equal.
use Prim.Native.Nat.{ℕ}
use mathlib.Core.Path.{◌≡◌, refl, sym, ◌∙◌}
use mathlib.Core.List.{List, [], ◌∷◌, ◌++◌, map}
use native.Mathlib.Omega.{arith}
use lib.ListN.{length}
use Rattle.layout.specs.declared.Kind.TheVariants.{Line}
use Rattle.layout.specs.Kinds.{kind_in}
use Rattle.rules.specs.declared.State.{State}
use Rattle.rules.specs.State.{start_state}
use Rattle.rules.specs.Step.{next}
use Rattle.rebalance.specs.Rebalance.{emit, rebalanced, all_fit, Sized}
use Rattle.rebalance.specs.Weigh.{any_negative}
use Rattle.rebalance.proofs.Emit.{emit-kind, next-emit, emit-over, emit-plain}

-- Two records that lead to the same states, and that rebalancing makes equal.
pub record Like (x y : List ℕ) : Type 0 where
  pub kind : kind_in x ≡ kind_in y
  pub step : (a : State) → next a x ≡ next a y
  pub written : (a : State) → emit a x ≡ emit a y

-- A record is like itself.
like-self : (r : List ℕ) → Like r r
like-self r = record { kind = refl; step = λ a. refl; written = λ a. refl }

-- A record after rebalancing is like it was before.
like-emit : (b : State) (r : List ℕ) → length r ≡ 120 → Like (emit b r) r
like-emit b r l = record { kind = emit-kind b r l; step = next-emit b r l; written = emit-over b r l }

-- Lines, in which nothing is written, are equal where they are alike.
pub like-lines : (x y : List ℕ) (s : ℕ) → kind_in y ≡ Line s → Like x y → x ≡ y
like-lines x y s e h = sym (emit-plain start_state x (rw (h.kind ∙ e))) ∙ (h.written start_state ∙ emit-plain start_state y (rw e))

-- Records that are alike one by one.
abbrev pub AllLike : List (List ℕ) → List (List ℕ) → Type 0
AllLike [] [] = Unit {0}
AllLike [] (y ∷ ys) = ⊥
AllLike (x ∷ xs) [] = ⊥
AllLike (x ∷ xs) (y ∷ ys) = Like x y × AllLike xs ys

-- Records after rebalancing are like they were before.
pub like-rebalanced : (b : State) (rs : List (List ℕ)) → Sized rs → AllLike (rebalanced b rs) rs
unfolding rebalanced
like-rebalanced b [] z = tt
like-rebalanced b (r ∷ rs) z = (like-emit b r z.0, like-rebalanced (next b r) rs z.1)

-- A record may stand between such records.
pub like-around : (xs ys : List (List ℕ)) (r : List ℕ) (us vs : List (List ℕ)) → AllLike xs ys → AllLike us vs → AllLike (xs ++ (r ∷ us)) (ys ++ (r ∷ vs))
like-around [] [] r us vs p q = (like-self r, q)
like-around [] (y ∷ ys) r us vs p q = absurd p
like-around (x ∷ xs) [] r us vs p q = absurd p
like-around (x ∷ xs) (y ∷ ys) r us vs p q = (p.0, like-around xs ys r us vs p.1 q)

-- Where a record stands behind as many in both, those before it are alike, and it, and those behind it.
pub like-parts : (xs ys : List (List ℕ)) (r q : List ℕ) (us vs : List (List ℕ)) → length xs ≡ length ys → AllLike (xs ++ (r ∷ us)) (ys ++ (q ∷ vs)) → AllLike xs ys × Like r q × AllLike us vs
like-parts [] [] r q us vs e h = (tt, h.0, h.1)
like-parts [] (y ∷ ys) r q us vs e h = absurd (omega arith)
like-parts (x ∷ xs) [] r q us vs e h = absurd (omega arith)
like-parts (x ∷ xs) (y ∷ ys) r q us vs e h = let p = like-parts xs ys r q us vs (omega arith) h.1 in ((h.0, p.0), p.1, p.2)

-- Records that are alike have the same kinds.
pub same-kinds : (xs ys : List (List ℕ)) → AllLike xs ys → map kind_in xs ≡ map kind_in ys
same-kinds [] [] h = refl
same-kinds [] (y ∷ ys) h = absurd h
same-kinds (x ∷ xs) [] h = absurd h
same-kinds (x ∷ xs) (y ∷ ys) h = rw (h.0.kind, same-kinds xs ys h.1)

-- They are rebalanced alike.
pub same-rebalanced : (xs ys : List (List ℕ)) → AllLike xs ys → (a : State) → rebalanced a xs ≡ rebalanced a ys
unfolding rebalanced
same-rebalanced [] [] h a = refl
same-rebalanced [] (y ∷ ys) h a = absurd h
same-rebalanced (x ∷ xs) [] h a = absurd h
same-rebalanced (x ∷ xs) (y ∷ ys) h a = rw (h.0.step a, h.0.written a, same-rebalanced xs ys h.1 (next a y))

-- The same delega is negative.
pub same-negative : (xs ys : List (List ℕ)) → AllLike xs ys → (a : State) → any_negative a xs ≡ any_negative a ys
unfolding any_negative
same-negative [] [] h a = refl
same-negative [] (y ∷ ys) h a = absurd h
same-negative (x ∷ xs) [] h a = absurd h
same-negative (x ∷ xs) (y ∷ ys) h a = rw (h.0.kind, h.0.step a, same-negative xs ys h.1 (next a y))

-- The same fits.
pub same-fits : (xs ys : List (List ℕ)) → AllLike xs ys → (a : State) → all_fit a xs ≡ all_fit a ys
unfolding all_fit
same-fits [] [] h a = refl
same-fits [] (y ∷ ys) h a = absurd h
same-fits (x ∷ xs) [] h a = absurd h
same-fits (x ∷ xs) (y ∷ ys) h a = rw (h.0.kind, h.0.step a, same-fits xs ys h.1 (next a y))
