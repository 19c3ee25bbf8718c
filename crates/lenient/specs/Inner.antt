-- Serves inner functions. The checks that stay, of a record whose kind has been read: the same as in Lenient, on the kind.
use Rattle.std.specs.Prelude.{ℕ, List, Option}
use Rattle.text.specs.Characters.{first_bad}
use Rattle.layout.specs.declared.Kind.{Kind}
use Rattle.layout.specs.Kinds.{type_in}
use Rattle.layout.specs.Fields.{delega_number, value_of}
use Rattle.refusal.specs.Outcomes.{Outcome}
use Rattle.amounts.specs.Outcomes.{first}
use Rattle.order.specs.Order.{standing}
use Rattle.rules.specs.declared.State.{State}
use Rattle.rules.specs.Checks.{char_fault, bad_fields, number_fault, own_fault}
use Rattle.rebalance.specs.Rebalance.{kept_fields}
use Rattle.lenient.specs.declared.Misfit.{Misfit}
use Rattle.lenient.specs.Lenient.{misfit_fault}

-- those that rebalancing leaves alone, behind 3
unfoldable pub kept_of : List ℕ → State → Kind → List ℕ → Outcome
kept_of name st k r =
    first (standing st.stage (type_in r) k) (first (bad_fields (kept_fields k) r) (first (number_fault st.deleghe k (value_of r delega_number)) (own_fault name st k r)))

-- 3 and the misfit's 4 before them
unfoldable pub lenient_of : List ℕ → Option Misfit → State → Kind → List ℕ → Outcome
lenient_of name m st k r = first (char_fault (first_bad r)) (first (misfit_fault m st.seen) (kept_of name st k r))
