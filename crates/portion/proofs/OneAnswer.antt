-- The promise settles the answer.
use Prim.Native.Nat.{ℕ}
use mathlib.Core.Path.{◌≡◌, sym, ◌∙◌}
use mathlib.Core.List.{List}
use Rattle.portion.specs.declared.Progress.{Progress}
use Rattle.portion.specs.declared.Portion.{Portion}
use Rattle.portion.specs.Portion.{portioned}

-- `judge_portion`
pub one-portion : (s : List ℕ) (p : ℕ) (x : Progress) (a b : Portion) → a ≡ portioned s p x → b ≡ portioned s p x → a ≡ b
one-portion s p x a b h k = h ∙ sym k
