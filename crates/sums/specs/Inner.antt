-- Serves inner functions. A record and a flow that may be too long to be gone through.
use Rattle.std.specs.Prelude.{ℕ, Bool, false, cond, List, ltb, length}
use Rattle.sums.specs.declared.KeptSums.{KeptSums}
use Rattle.sums.specs.LineSums.{stands_for}

-- the record stands for the flow, and the flow is no longer than one may be
unfoldable pub matched : KeptSums → List ℕ → Bool
matched k f = cond (ltb 65520 (length f)) false (stands_for k f)
