-- Serves inner functions. One step of printing, which puts a text behind what is printed already.
use Rattle.std.specs.Prelude.{ℕ, List}
use Rattle.printing.specs.Appended as Printing

-- "One space stands between fields": one step of printing puts t, of at most m bytes, at s of the room r, up to e, and leaves r'
abbrev pub Appended : ℕ → List ℕ → ℕ → List ℕ → List ℕ → ℕ → Type 0
Appended s t m r r' e = Printing.Appended s t m r r' e
