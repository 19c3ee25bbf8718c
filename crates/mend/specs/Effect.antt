-- For theorems. What rebalancing may change, and that it is listed.
use Rattle.std.specs.Prelude.{ℕ, ◌+◌, ◌/◌, ◌%◌, ◌<◌, ◌≤◌, ◌≡◌, Bool, List}
use Rattle.layout.specs.declared.Field.{Field}
use Rattle.layout.specs.Kinds.{kind_in}
use Rattle.layout.specs.Fields.{in_columns}
use Rattle.changes.specs.Changes.{written_fields, Place}
use Rattle.changes.specs.Listed.{record_behind, Listed, OneOf}

-- Rebalancing may change the byte at an index of the flow.
unfoldable pub may_change : List ℕ → ℕ → Bool
may_change f i = in_columns (i % 120) (written_fields (kind_in (record_behind f (i / 120))))

-- The byte at an index of the flow lies in a field that is listed.
pub record InListed (f : List ℕ) (ps : List Place) (i : ℕ) : Type 0 where
  pub field : Field
  pub written : OneOf field (written_fields (kind_in (record_behind f (i / 120))))
  pub from : field.start ≤ i % 120
  pub to : i % 120 < field.end
  pub at : Place
  pub numbered : at.«record» ≡ i / 120 + 1
  pub starts : at.start ≡ field.start + 1
  pub listed : Listed at ps

-- A place is listed whose record and start these are.
pub record ListedAt (ps : List Place) (k p : ℕ) : Type 0 where
  pub at : Place
  pub numbered : at.«record» ≡ k
  pub starts : at.start ≡ p
  pub listed : Listed at ps
