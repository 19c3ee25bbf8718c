-- Serves inner functions. What keeps the sums of a state within 64 bits: every record adds at most one amount of fifteen digits.
use Rattle.std.specs.Prelude.{ℕ, ◌+◌, ◌*◌, ◌≤◌, ◌<◌, ◌≡◌, List, length, get_or}
use Rattle.amounts.specs.declared.Sums.{Sums}
use Rattle.rules.specs.declared.Money.{Money}
use Rattle.rules.specs.declared.State.{State}
use Rattle.rules.specs.State.{no_sums}

-- a line's amounts have at most fifteen digits
pub record Small (x : Sums) : Type 0 where
  pub debit-small : x.debit < 1_000_000_000_000_000
  pub credit-small : x.credit < 1_000_000_000_000_000

-- a line's amounts can be added
pub record Room (t : Sums) : Type 0 where
  pub debit-room : t.debit ≤ 1_000_000_000_000_000_000
  pub credit-room : t.credit ≤ 1_000_000_000_000_000_000

-- no sum of a list of sums is above b
pub record SumsBelow (b : ℕ) (l : List Sums) : Type 0 where
  pub five : length l ≡ 5
  pub each : (i : ℕ) → ((get_or l i no_sums).debit ≤ b) × ((get_or l i no_sums).credit ≤ b)

-- the sums of a flow's lines so far are at most b
pub record MoneyBelow (b : ℕ) (m : Money) : Type 0 where
  pub debits : m.total + m.delega.all.debit ≤ b
  pub credits : m.delega.all.credit ≤ b
  pub delegas : SumsBelow b m.delega.sections
  pub flows : SumsBelow b m.flow

-- every record adds at most one line, one delega, one record that is no line, and one amount of fifteen digits
pub record StateBelow (st : State) : Type 0 where
  pub money-below : MoneyBelow (st.seen * 999_999_999_999_999) st.money
  pub lines-below : st.stage.lines ≤ st.seen
  pub deleghe-below : st.deleghe ≤ st.seen
  pub others_below : st.others ≤ st.seen
