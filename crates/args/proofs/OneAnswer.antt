-- The promise of `decimal` settles its answer.
use Prim.Native.Nat.{ℕ}
use mathlib.Core.Path.{◌≡◌, sym, ◌∙◌}
use mathlib.Core.List.{List}
use Rattle.args.specs.Answers.{Argument}
use Rattle.args.specs.Decimal.{decimal_of}

-- "any two answers allowed by it are equal"
pub one-decimal : (word : List ℕ) (a b : Argument) → a ≡ decimal_of word → b ≡ decimal_of word → a ≡ b
one-decimal word a b p q = p ∙ sym q
