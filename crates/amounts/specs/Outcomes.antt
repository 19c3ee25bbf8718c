-- Believed. The outcome of a check: it passes, or it has a fault with a number and a position.
use Rattle.std.specs.Prelude.{List, [], ◌∷◌, Err}
use Rattle.refusal.specs.Outcomes.{Outcome, Pass}

-- the first of two outcomes that is a fault
abbrev pub first : Outcome → Outcome → Outcome
first Pass o = o
first (Err why) o = Err why

-- the first of several outcomes that is a fault
abbrev pub first_of : List Outcome → Outcome
first_of [] = Pass
first_of (o ∷ []) = o
first_of (o ∷ (p ∷ os)) = first o (first_of (p ∷ os))
