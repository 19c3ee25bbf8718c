-- Believed; `state_in`, `kept_after` and `Kept` serve inner functions. The state of a judgement as numbers.
use Rattle.std.specs.Prelude.{ℕ, ◌+◌, ◌<◌, ◌≡◌, List, [], ◌∷◌, ◌++◌, length, drop, get_or}
use Rattle.amounts.specs.declared.Sums.{Sums}
use Rattle.order.specs.Stages.{stage_at}
use Rattle.rules.specs.declared.State.{State}
use Rattle.rules.specs.State.{start_state}

-- The first numbers of a room are replaced by those of a list, and the rest stays as it came.
unfoldable pub overlay : List ℕ → List ℕ → List ℕ
overlay xs room = xs ++ drop (length xs) room

-- The debit and the credit of each section stand one after the other, in the order of the sections.
unfoldable pub sums_numbers : List Sums → List ℕ
sums_numbers [] = []
sums_numbers (s ∷ ss) = s.debit ∷ s.credit ∷ sums_numbers ss

-- The numbers of a state: the records that have passed and those that are no lines, the deleghe, the stage, the sum of final balances, the open delega, and the sections over the flow.
unfoldable pub state_numbers : State → List ℕ
state_numbers st =
    st.seen ∷ st.others ∷ st.deleghe ∷ st.stage.phase ∷ st.stage.section ∷ st.stage.lines ∷ st.money.total ∷ st.money.delega.all.debit ∷ st.money.delega.all.credit
    ∷ (sums_numbers st.money.delega.sections ++ sums_numbers st.money.flow)

-- A debit and a credit that stand at two places, and the five of the sections from a place on.
abbrev pair_at : List ℕ → ℕ → ℕ → Sums
pair_at l i j = record { debit = get_or l i 0; credit = get_or l j 0 }

unfoldable pub sums_at : List ℕ → ℕ → List Sums
sums_at l i = pair_at l i (i + 1) ∷ pair_at l (i + 2) (i + 3) ∷ pair_at l (i + 4) (i + 5) ∷ pair_at l (i + 6) (i + 7) ∷ pair_at l (i + 8) (i + 9) ∷ []

-- The state that numbers say.
unfoldable pub state_of : List ℕ → State
state_of l =
    record {
      stage = stage_at (get_or l 3 0) (get_or l 4 0) (get_or l 5 0);
      deleghe = get_or l 2 0;
      money = record { delega = record { sections = sums_at l 9; all = pair_at l 7 8 }; flow = sums_at l 19; total = get_or l 6 0 };
      seen = get_or l 0 0;
      others = get_or l 1 0;
    }

-- Where there are no numbers, it is the state before the first record.
unfoldable pub state_in : List ℕ → State
state_in [] = start_state
state_in (n ∷ ns) = state_of (n ∷ ns)

-- A room without numbers stays without; another holds those of the state.
unfoldable pub kept_after : List ℕ → State → List ℕ
kept_after [] st = []
kept_after (n ∷ ns) st = state_numbers st

-- A room has no numbers, or those of a state.
abbrev pub Kept : List ℕ → Type 0
Kept l = 0 < length l → (length l ≡ 29) × (get_or l 3 0 < 256)
