-- Serves inner functions. A flow that was judged, and one from which a list of deleghe may be dropped.
use Rattle.std.specs.Prelude.{ℕ, ◌≡◌, true, false, List, eqb}
use Rattle.judge.specs.Refusal.{Accepted}
use Rattle.judge.specs.Flow.{judged}
use Rattle.close.specs.Closing.{each_once, left_of}

-- it is accepted, and has so many deleghe
pub record Judged (f : List ℕ) (n : ℕ) : Type 0 where
  pub accepted : (judged f).verdict ≡ Accepted
  pub deleghe : (judged f).summary.deleghe ≡ n

-- it is accepted, every number of the list is that of one of its deleghe and named once, and some are left
pub record Droppable (f numbers : List ℕ) : Type 0 where
  pub accepted : (judged f).verdict ≡ Accepted
  pub once : each_once (judged f).summary.deleghe numbers ≡ true
  pub some : eqb (left_of numbers (judged f).summary.deleghe) 0 ≡ false
