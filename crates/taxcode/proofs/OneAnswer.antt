-- The promise of `code_right` settles its answer.
use Prim.Native.Nat.{ℕ}
use mathlib.Core.Path.{◌≡◌, sym, ◌∙◌}
use mathlib.Core.Bool.{Bool}
use mathlib.Core.List.{List}
use Rattle.taxcode.specs.TaxCodes.{code_right}

-- "any two answers allowed by it are equal"
pub one_code : (code : List ℕ) (a b : Bool) → a ≡ code_right code → b ≡ code_right code → a ≡ b
one_code code a b p q = p ∙ sym q
