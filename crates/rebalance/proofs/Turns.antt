-- One record of a flow after the other: what a record leaves of the bounds on the state, and what it leaves of the flow.
use Prim.Native.Nat.{ℕ, ◌+◌, ◌-◌, ◌*◌, ◌/◌, ◌<◌, ◌≤◌}
use mathlib.Core.Path.{◌≡◌}
use mathlib.Core.List.{List, [], ◌∷◌}
use native.Mathlib.Omega.{arith}
use native.Mathlib.Nat.{sub-zero}
use lib.ListN.{length, take, drop}
use Rattle.layout.specs.declared.Kind.{Kind}
use Rattle.layout.specs.Kinds.{kind_in}
use Rattle.amounts.specs.declared.Sums.{Sums}
use Rattle.rules.specs.declared.State.{State}
use Rattle.rules.specs.Bounds.{Small, MoneyBelow, StateBelow}
use Rattle.rules.specs.Step.{line_sums, next_of, next}
use Rattle.rules.proofs.Growth.{step_room, state-on}
use Rattle.judge.specs.Flow.{chunks, records_of, rest_of}
use Rattle.judge.proofs.Records.{chunks-on}
use Rattle.records.proofs.Sizes.{sums-small}
use Rattle.rebalance.specs.Weigh.{Turn}

-- The state after a record, by its kind and its amounts.
pub next-by : (st : State) (k : Kind) (r : List ℕ) (x : Sums) → k ≡ kind_in r → x ≡ line_sums k r → next_of st k x ≡ next st r
unfolding next
next-by st k r x e f = rw (f, ← e)

-- The bounds on a state hold after a record.
pub next-below : (st : State) (r : List ℕ) → Turn r st → StateBelow (next st r)
unfolding next
next-below st r t = state-on st (kind_in r) (line_sums (kind_in r) r) t.below (sums-small (kind_in r) r t.sized)

-- The step over a record has room, with the amounts of its line.
pub turn-room : (r : List ℕ) (st : State) (k : Kind) (x : Sums) → Turn r st → x ≡ line_sums k r →
    (MoneyBelow 1_000_000_000_000_000_000 st.money × Small x) × ((st.stage.lines < 1000) × (st.deleghe < 1000) × (st.others < 1000) × (st.seen < 1000))
turn-room r st k x t e = step_room st x t.below t.few (rw e (sums-small k r t.sized))

-- The records that are left are the next one and those behind it.
pub rest-on : (s : List ℕ) (n : ℕ) → n < length s / 120 → rest_of s n ≡ take 120 (drop (n * 120) s) ∷ rest_of s (n + 1)
rest-on s n h = chunks-on (length s / 120 - n) (length s / 120 - (n + 1)) n s (omega arith)

-- No record is left behind the last.
pub rest_end : (s : List ℕ) (n : ℕ) → length s / 120 ≤ n → rest_of s n ≡ []
unfolding chunks
rest_end s n h = let e : length s / 120 - n ≡ 0 = omega arith in rw e

-- All records are left at the start.
pub rest-start : (s : List ℕ) → rest_of s 0 ≡ records_of s
rest-start s = rw sub-zero
