-- Believed. What is answered for one delega of a flow.
use Rattle.std.specs.Prelude.{ℕ, Bool, false, cond, List, [], ◌∷◌, eqb, ltb}
use Rattle.layout.specs.declared.Kind.{Kind}
use Rattle.layout.specs.Kinds.{of_payment, kind_in}
use Rattle.rules.specs.declared.State.{State}
use Rattle.rules.specs.State.{zero_sections, start_state}
use Rattle.amounts.specs.Amounts.{final_of}
use Rattle.rules.specs.Step.{next}
use Rattle.judge.specs.Refusal.{Accepted, Refused, judged_first}
use Rattle.judge.specs.Flow.{records_of, judged}
use Rattle.delega.specs.declared.used.Used.{Used}
use Rattle.delega.specs.declared.DelegaAnswer.{DelegaAnswer}
use Rattle.delega.specs.Used.{none_used, next_used, size_of, first_of}

-- "A refusal is a number, a record counted from 1, and a position", beside zeros
abbrev pub refused_as : ℕ → ℕ → ℕ → DelegaAnswer
refused_as n r p = record { verdict = Refused n r p; balance = 0; lines = 0; set = 0; size = 0; first = 0; sums = zero_sections }

-- 21, "no such delega, section or line", at "0, 0"
abbrev pub no_such_delega : DelegaAnswer
no_such_delega = refused_as 21 0 0

-- "For one delega its final balance and its ten section sums are given", its lines, the set of sections that it uses with its size and its first: those of the delega that is open after the records that led to a state
abbrev pub answered : State → Used → DelegaAnswer
answered st u =
    record {
      verdict = Accepted;
      balance = final_of st.money.delega.all;
      lines = u.lines;
      set = u.set;
      size = size_of u.set;
      first = first_of u.set;
      sums = st.money.delega.sections;
    }

-- "one record 50-01": a record of a kind, after n records 10, is that of delega d
abbrev pub closes_at : ℕ → ℕ → Kind → Bool
closes_at d n k = of_payment false (eqb n d) k

-- "The first delega is 1, each next one is one more": the answer at the 50-01 of delega d, among the records that are left after those that led to a state
unfoldable pub delega_from : ℕ → State → Used → List (List ℕ) → DelegaAnswer
delega_from d st u [] = no_such_delega
delega_from d st u (r ∷ rs) = cond (closes_at d st.deleghe (kind_in r)) (answered st u) (delega_from d (next st r) (next_used u (kind_in r)) rs)

-- "Every call on a flow judges it first and gives that refusal if there is one"; "a number that is 0 or above the count is refused 21"
unfoldable pub delega_of : List ℕ → ℕ → DelegaAnswer
delega_of s d =
    judged_first refused_as (judged s).verdict
    (cond (eqb d 0) no_such_delega (cond (ltb (judged s).summary.deleghe d) no_such_delega (delega_from d start_state none_used (records_of s))))
