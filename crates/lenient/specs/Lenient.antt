-- Believed down to `ended`; what follows serves inner functions. The lenient judgement of records: the first fault of the checks that documents 01 and 02 list, with every total, sign, balance and tail value taken as right.
use Rattle.std.specs.Prelude.{ℕ, ◌+◌, cond, List, [], ◌∷◌, eqb, Err, Option, None, Some}
use Rattle.text.specs.Characters.{first_bad}
use Rattle.order.specs.Stages.{after_tail}
use Rattle.refusal.specs.Outcomes.{Outcome, Pass, Fails}
use Rattle.amounts.specs.Outcomes.{first}
use Rattle.rules.specs.declared.State.{State}
use Rattle.rules.specs.Checks.{char_fault}
use Rattle.rules.specs.Step.{next}
use Rattle.rebalance.specs.Rebalance.{kept_fault}
use Rattle.lenient.specs.declared.Misfit.{Misfit}
use Rattle.lenient.specs.Answers.{Lenient, Passed, Refused}

-- "the first blocking fault ends the judgement", at the record after those seen
abbrev pub or_refused : Outcome → ℕ → Lenient → Lenient
or_refused Pass n x = x
or_refused (Err why) n x = Refused why.number (n + 1) why.position

-- "Refusal 5 comes after all records have passed"
unfoldable pub ended : State → Lenient
ended st = cond (eqb st.stage.phase after_tail) Passed (Refused 5 (st.seen + 1) 0)

-- 4 at the one record that is known to stand in a place of another kind, at its position. n records stand before
unfoldable pub misfit_fault : Option Misfit → ℕ → Outcome
misfit_fault None n = Pass
misfit_fault (Some m) n = cond (eqb m.at (n + 1)) (Fails 4 m.position) Pass

-- the first failed check of a record, among those that stay: 3, that 4, and then those that rebalancing leaves alone, of which the first is 3 again and has passed
unfoldable pub lenient_fault : List ℕ → Option Misfit → State → List ℕ → Outcome
lenient_fault name m st r = first (char_fault (first_bad r)) (first (misfit_fault m st.seen) (kept_fault name st r))

-- "records are judged in order": the records that are left, after those that led to a state
unfoldable pub lenient_from : List ℕ → Option Misfit → State → List (List ℕ) → Lenient
lenient_from name m st [] = ended st
lenient_from name m st (r ∷ rs) = or_refused (lenient_fault name m st r) st.seen (lenient_from name m (next st r) rs)
