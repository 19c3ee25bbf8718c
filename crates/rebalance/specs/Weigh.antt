-- Believed; `Turn`, the last, serves inner functions. What a flow comes to before anything is written: whether some delega is negative; and what a step over one record asks for.
use Rattle.std.specs.Prelude.{ℕ, ◌<◌, ◌≡◌, Bool, true, false, cond, List, [], ◌∷◌, ltb, length}
use Rattle.layout.specs.declared.Kind.{Kind}
use Rattle.layout.specs.Kinds.{of_payment, kind_in}
use Rattle.rules.specs.declared.State.{State}
use Rattle.rules.specs.Bounds.{StateBelow}
use Rattle.rules.specs.Step.{next}

-- "negative is not": some delega has debits below its credits
abbrev pub negative_at : State → Kind → Bool
negative_at st k = of_payment false (ltb st.money.delega.all.debit st.money.delega.all.credit) k

unfoldable pub any_negative : State → List (List ℕ) → Bool
any_negative st [] = false
any_negative st (r ∷ rs) = cond (negative_at st (kind_in r)) true (any_negative (next st r) rs)

-- A record of 120 bytes, and a state that has room for one record more.
pub record Turn (r : List ℕ) (st : State) : Type 0 where
  pub sized : length r ≡ 120
  pub few : st.seen < 1000
  pub below : StateBelow st
