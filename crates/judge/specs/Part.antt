-- Believed. The k-th record of a flow, as a part of the flow.
use Rattle.std.specs.Prelude.{ℕ, ◌+◌, ◌-◌, ◌*◌, ◌/◌, ◌≡◌, cond, List, [], ◌∷◌, eqb, ltb, length, get_or}
use Rattle.std.specs.Borrow.{Bor}
use Rattle.judge.specs.Flow.{records_of}

-- "the k-th record", counted from 1; empty where there is none
unfoldable pub record_at : List ℕ → ℕ → List ℕ
record_at f k = get_or ([] ∷ records_of f) k []

-- "Each record has 120 characters. Records follow one another with no line ends": where the k-th starts; 0 where there is none
unfoldable pub record_start : List ℕ → ℕ → ℕ
record_start f k = cond (eqb k 0) 0 (cond (ltb (length f / 120) k) 0 (k * 120 - 120))

-- "within the caller's own buffer": the bytes of a part, and where in the flow it starts
abbrev pub LiesAt : Bor (List ℕ) → List ℕ → ℕ → Bor (List ℕ) → Type 0
LiesAt flow bytes start r = (r.now ≡ bytes) × (r.ref_ptr.0 ≡ flow.ref_ptr.0) × (r.ref_ptr.1 ≡ flow.ref_ptr.1 + start)
