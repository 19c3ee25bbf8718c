-- Believed. "A found line is handed back as that record within the caller's own buffer; a refusal hands back an empty part."
use Rattle.std.specs.Prelude.{ℕ, List, [], Err}
use Rattle.judge.specs.Part.{record_at, record_start}
use Rattle.find.specs.Answers.{Found, At}

-- the bytes of the part: those of the k-th record, or none
abbrev pub part_of : List ℕ → Found → List ℕ
part_of f (At k) = record_at f k
part_of f (Err why) = []

-- the index at which it starts: an empty part lies at the flow's start
abbrev pub part_start : List ℕ → Found → ℕ
part_start f (At k) = record_start f k
part_start f (Err why) = 0
