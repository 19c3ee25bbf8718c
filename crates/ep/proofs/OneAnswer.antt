-- The promise of each function that another crate can call settles its answer.
use Prim.Native.Nat.{ℕ}
use mathlib.Core.Path.{◌≡◌, sym, ◌∙◌}
use mathlib.Core.List.{List}
use Rattle.ep.specs.Answers.{EpAnswer}
use Rattle.ep.specs.declared.Course.{Course}
use Rattle.ep.specs.Payments.{judged}
use Rattle.ep.specs.Stream.{took, answered}

-- `ep_judge`
pub one-ep-judge : (records : List ℕ) (a b : EpAnswer) → a ≡ judged records → b ≡ judged records → a ≡ b
one-ep-judge records a b p q = p ∙ sym q

-- `take`
pub one-take : (c : Course) (piece : List ℕ) (a b : Course) → a ≡ took c piece → b ≡ took c piece → a ≡ b
one-take c piece a b p q = p ∙ sym q

-- `answered`
pub one-answered : (c : Course) (a b : EpAnswer) → a ≡ answered c → b ≡ answered c → a ≡ b
one-answered c a b p q = p ∙ sym q
