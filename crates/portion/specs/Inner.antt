-- Serves inner functions. How far a portion reaches, and how the judgement stands then.
use Rattle.std.specs.Prelude.{ℕ, ◌+◌, ◌-◌, ◌/◌, ◌<◌, cond, List, ltb, leb, length, get_or}
use Rattle.state.specs.Numbers.{state_of}
use Rattle.judge.specs.Refusal.{Verdict}
use Rattle.judge.specs.Flow.{Ready}
use Rattle.portion.specs.declared.Course.{Course}
use Rattle.portion.specs.declared.Course.TheVariants.{Going}
use Rattle.portion.specs.declared.Progress.{Progress}
use Rattle.portion.specs.Portion.{ended_by}

-- how many records will have been examined at most, of n
abbrev pub last_of : ℕ → ℕ → ℕ → ℕ
last_of seen p n = cond (leb (n - seen) p) n (seen + p)

-- the judgement of the records up to the last that a portion allows: it goes on where all of them have passed and there are more
abbrev pub course_by : Verdict → ℕ → ℕ → ℕ → Course
course_by v seen last n = cond (ltb seen last) (ended_by v) (cond (ltb last n) Going (ended_by v))

-- a flow of whole records, and a state that it can go on from
pub record Goes (s : List ℕ) (x : Progress) : Type 0 where
  pub ready : Ready s (state_of x.kept)
  pub more : (state_of x.kept).seen < length s / 120
  pub phase : get_or x.kept 3 0 < 256
