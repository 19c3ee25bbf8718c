-- The promise of `read_total` settles its answer.
use Prim.Native.Nat.{ℕ}
use mathlib.Core.Path.{◌≡◌, sym, ◌∙◌}
use mathlib.Core.List.{List}
use Rattle.ep_total.specs.Answers.{Total}
use Rattle.ep_total.specs.Total.{total_of}

-- `read_total`
pub one-total : (part : List ℕ) (a b : Total) → a ≡ total_of part → b ≡ total_of part → a ≡ b
one-total part a b p q = p ∙ sym q
