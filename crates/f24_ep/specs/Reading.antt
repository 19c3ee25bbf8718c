-- Serves inner functions. What can be said of records that are read piece by piece, where nothing can be said of what a read gives: that there are pieces, and bytes.
use Rattle.std.specs.Prelude.{ℕ, ◌≤◌, ◌≡◌, List, length}
use Rattle.ep.specs.declared.Course.{Course}
use Rattle.ep.specs.Answers.{EpAnswer}
use Rattle.ep.specs.Payments.{judged}
use Rattle.ep.specs.Stream.{start_course, took_all, Cut}

-- a course is what pieces have come to that are cut as records are, one after the other from the start; with 10,001 records there is one too many, and no more are read
pub record FromPieces (c : Course) : Type 0 where
  pub pieces : List (List ℕ)
  pub cut : Cut pieces
  pub few : length pieces ≤ 10001
  pub course : c ≡ took_all start_course pieces

-- an answer is the judgement of some bytes
pub record FromBytes (a : EpAnswer) : Type 0 where
  pub bytes : List ℕ
  pub answer : a ≡ judged bytes
