-- Serves inner functions. How large the numbers of a tally are: no sum of at most 10,000 V, each below 10 ^ 15, leaves 64 bits.
use Rattle.std.specs.Prelude.{◌*◌, ◌≤◌}
use Rattle.ep.specs.declared.Tally.{Tally}
use Rattle.ep.specs.declared.Course.{Course}

-- of so many records
pub record Small (t : Tally) : Type 0 where
  pub few : t.seen ≤ 10000
  pub counted : t.count ≤ t.seen
  pub all-added : t.sum ≤ t.seen * 1000000000000000
  pub own-added : t.own ≤ t.seen * 1000000000000000

-- of so many pieces
pub record Sound (c : Course) : Type 0 where
  pub small : Small c.tally
  pub behind : c.tally.seen ≤ c.records
  pub most : c.records ≤ 10000
