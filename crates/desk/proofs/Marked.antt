-- Laws of a list that is filled with marks.
use Prim.Native.Nat.{ℕ, ◌+◌, ◌<◌}
use mathlib.Core.Path.{◌≡◌, refl, sym, ap, ◌∙◌}
use mathlib.Core.List.{List, [], ◌∷◌, ◌++◌}
use native.Mathlib.Numerals.{add-one}
use lib.ListN.{length, take, set}
use lib.Seq.{take-suc-set}
use Rattle.desk.specs.Marks.{marks}

-- None stands there yet.
pub marks-none : [] ≡ marks 0
unfolding marks
marks-none = refl

-- One mark more stands at the front of a list.
pub marks-on : (i : ℕ) (l : List ℕ) → i < length l → take i l ≡ marks i → take (i + 1) (set l i (9_000_000_000 + i)) ≡ marks (i + 1)
unfolding marks
marks-on i l h e =
    ap (λ (n : ℕ). take n (set l i (9_000_000_000 + i))) (add-one i)
    ∙ (take-suc-set l i (9_000_000_000 + i) h ∙ (ap (λ (s : List ℕ). s ++ ((9_000_000_000 + i) ∷ [])) e ∙ ap marks (sym (add-one i))))
