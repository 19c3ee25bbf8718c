-- Serves inner functions. The places of fields written into a list one after the other, so far as there is room.
use Rattle.std.specs.Prelude.{ℕ, ◌+◌, ◌*◌, ◌/◌, ◌≤◌, ◌≡◌, cond, List, [], ◌∷◌, ltb, length, set}
use Rattle.judge.specs.Plain.{Whole}
use Rattle.changes.specs.Changes.{Place}

-- a place as the n-th pair, counted from 0; nothing where the list has no such pair
unfoldable pub put_place : ℕ → Place → List ℕ → List ℕ
put_place n p list = cond (ltb n (length list / 2)) (set (set list (2 * n) p.«record») (2 * n + 1) p.start) list

-- places from the n-th pair on
unfoldable pub put_places : ℕ → List Place → List ℕ → List ℕ
put_places n [] list = list
put_places n (p ∷ ps) list = put_places (n + 1) ps (put_place n p list)

-- two records of 120 bytes, the k-th of their flows
pub record Pair (old new : List ℕ) (k : ℕ) : Type 0 where
  pub old-sized : length old ≡ 120
  pub new-sized : length new ≡ 120
  pub few : k ≤ 1000

-- a flow of whole records, and another of the same length
pub record Beside (old new : List ℕ) : Type 0 where
  pub whole : Whole old
  pub as_long : length new ≡ length old
