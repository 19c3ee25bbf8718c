-- The promise of the lenient judgement settles its answer.
use Rattle.std.specs.Prelude.{Option}
use Prim.Native.Nat.{ℕ}
use mathlib.Core.Path.{◌≡◌, sym, ◌∙◌}
use mathlib.Core.List.{List}
use Rattle.rules.specs.State.{start_state}
use Rattle.judge.specs.Flow.{records_of, head_name_of}
use Rattle.lenient.specs.declared.Misfit.{Misfit}
use Rattle.lenient.specs.Answers.{Lenient}
use Rattle.lenient.specs.Lenient.{lenient_from}

-- "any two answers allowed by it are equal"
pub one_answer : (s : List ℕ) (m : Option Misfit) (a b : Lenient) → a ≡ lenient_from (head_name_of s) m start_state (records_of s) → b ≡ lenient_from (head_name_of s) m start_state (records_of s) → a ≡ b
one_answer s m a b e f = e ∙ sym f
