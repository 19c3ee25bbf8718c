-- The pass that judges a flow leniently: what each of its ways out says of the whole flow.
use Rattle.std.specs.Prelude.{Err, Option}
use Prim.Native.Nat.{ℕ, ◌+◌, ◌*◌, ◌/◌, ◌<◌, ◌≤◌}
use mathlib.Core.Path.{◌≡◌, refl, sym, ap, ◌∙◌}
use mathlib.Core.List.{List}
use native.Mathlib.Omega.{arith}
use lib.ListN.{length, take, drop}
use Rattle.text.specs.Characters.{first_bad}
use Rattle.layout.specs.declared.Kind.{Kind}
use Rattle.layout.specs.Kinds.{kind_in}
use Rattle.refusal.specs.Outcomes.{Outcome, Pass, Fails}
use Rattle.amounts.specs.Outcomes.{first}
use Rattle.rules.specs.declared.State.{State}
use Rattle.rules.specs.State.{start_state}
use Rattle.rules.specs.Bounds.{StateBelow}
use Rattle.rules.specs.Checks.{char_fault}
use Rattle.rules.specs.Step.{next}
use Rattle.rules.proofs.Growth.{start-below}
use Rattle.judge.specs.Flow.{records_of, rest_of, head_name_of}
use Rattle.rebalance.specs.Rebalance.{kept_fault}
use Rattle.rebalance.specs.Weigh.{Turn}
use Rattle.rebalance.proofs.Turns.{next-below, rest-on, rest_end, rest-start}
use Rattle.lenient.specs.declared.Misfit.{Misfit}
use Rattle.lenient.specs.Answers.{Lenient, Refused}
use Rattle.lenient.specs.Lenient.{misfit_fault, lenient_fault, or_refused, ended, lenient_from}
use Rattle.lenient.specs.Inner.{kept_of, lenient_of}

-- A check that comes first says nothing new behind another.
first-again : (a b c : Outcome) → first a (first b c) ≡ first a (first b (first a c))
first-again Pass b c = refl
first-again (Err why) b c = refl

-- The outcome of a record, by its kind: check 3, with which the checks that rebalancing leaves alone begin, has passed before them.
pub fault-by : (name : List ℕ) (m : Option Misfit) (st : State) (k : Kind) (r : List ℕ) → k ≡ kind_in r → lenient_of name m st k r ≡ lenient_fault name m st r
unfolding lenient_of lenient_fault kept_of kept_fault
fault-by name m st k r e = rw e (first-again (char_fault (first_bad r)) (misfit_fault m st.seen) (kept_of name st (kind_in r) r))

-- The whole flow is judged as what is left of it, from the state on.
pub record Judging (flow : List ℕ) (m : Option Misfit) (st : State) : Type 0 where
  pub below : StateBelow st
  pub ahead : st.seen ≤ length flow / 120
  pub rest : lenient_from (head_name_of flow) m start_state (records_of flow) ≡ lenient_from (head_name_of flow) m st (rest_of flow st.seen)

-- Before the first record all is left.
pub judging-start : (flow : List ℕ) (m : Option Misfit) → Judging flow m start_state
unfolding start_state
judging-start flow m = record { below = start-below; ahead = omega arith; rest = ap (lenient_from (head_name_of flow) m start_state) (sym (rest-start flow)) }

module _ (flow : List ℕ) (m : Option Misfit) (st : State) (w : Judging flow m st) where
  abbrev answer : Lenient
  answer = lenient_from (head_name_of flow) m start_state (records_of flow)

  -- Behind the last record it ends.
  pub judging-end : length flow / 120 ≤ st.seen → ended st ≡ answer
  unfolding lenient_from
  judging-end h = sym (w.rest ∙ rw (rest_end flow st.seen h))

  -- A record is left.
  module _ (more : st.seen < length flow / 120) (r : List ℕ) (er : r ≡ take 120 (drop (st.seen * 120) flow)) where
    opened : answer ≡ or_refused (lenient_fault (head_name_of flow) m st r) st.seen (lenient_from (head_name_of flow) m (next st r) (rest_of flow (st.seen + 1)))
    unfolding lenient_from
    opened = w.rest ∙ rw (rest-on flow st.seen more, ← er)

    -- Its fault is the answer.
    pub judging-refuses : {e q : ℕ} → lenient_fault (head_name_of flow) m st r ≡ Fails e q → Refused e (st.seen + 1) q ≡ answer
    judging-refuses f = sym (rw f at opened)

    -- Where it passes, the judgement goes on behind it.
    pub judging-on : Turn r st → lenient_fault (head_name_of flow) m st r ≡ Pass → Judging flow m (next st r)
    unfolding next
    judging-on t f = record { below = next-below st r t; ahead = omega arith; rest = rw f at opened }
