-- Believed. The number of its delega in a record.
use Rattle.std.specs.Prelude.{ℕ, cond, List}
use Rattle.text.specs.Numbers.{digits_of}
use Rattle.text.specs.Placing.{put_at}
use Rattle.layout.specs.declared.Kind.{Kind}
use Rattle.layout.specs.Sections.{at}
use Rattle.layout.specs.Kinds.{numbered}

-- "all records of a delega carry its number", "delega number at 4-10": a record of a kind with the number d
unfoldable pub with_number : Kind → ℕ → List ℕ → List ℕ
with_number k d r = cond (numbered k) (put_at (at 4) (digits_of 7 d) r) r
