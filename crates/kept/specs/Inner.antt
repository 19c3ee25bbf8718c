-- Serves inner functions. What a call is refused whose record is not the flow's.
use Rattle.std.specs.Prelude.{cond, eqb, Result, Ok, Err}
use Rattle.refusal.specs.declared.Refusal.{Refusal}
use Rattle.refusal.specs.Refusals.{refusal}

-- the refusal of the call's own judgement, else 29
unfoldable pub mismatch_of : Refusal → Refusal
mismatch_of x = cond (eqb x.number 0) (refusal 29 0 0) x

-- the same, by the judgement
abbrev pub or_foreign : Result Unit Refusal → Refusal
or_foreign (Ok tt) = refusal 29 0 0
or_foreign (Err why) = why
