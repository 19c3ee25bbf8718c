-- Beside a refusal stand zeros.
use Rattle.std.specs.Prelude.{Err}
use Prim.Native.Nat.{ℕ}
use mathlib.Core.Path.{◌≡◌, ap}
use mathlib.Core.List.{List, [], ◌∷◌}
use native.Mathlib.Omega.{arith}
use lib.Dec.{eqb, ltb}
use Rattle.text.proofs.Tests.{either_way}
use Rattle.layout.specs.Kinds.{kind_in}
use Rattle.rules.specs.declared.State.{State}
use Rattle.rules.specs.State.{start_state}
use Rattle.rules.specs.Step.{next}
use Rattle.judge.specs.Refusal.{Verdict, Accepted, Refused, judged_first}
use Rattle.judge.specs.Flow.{records_of, judged}
use Rattle.delega.specs.declared.used.Used.{Used}
use Rattle.delega.specs.declared.DelegaAnswer.{DelegaAnswer}
use Rattle.delega.specs.Used.{none_used, next_used}
use Rattle.delega.specs.PlainDelega.{zeros_beside}
use Rattle.delega.specs.OneDelega.{refused_as, answered, closes_at, delega_from, delega_of}

-- an answer that is a refusal has nothing else
abbrev Zeroed : DelegaAnswer → Type 0
Zeroed a = (n r p : ℕ) → a.verdict ≡ Refused n r p → a ≡ zeros_beside (Refused n r p)

refused-zeroed : (n r p : ℕ) → Zeroed (refused_as n r p)
refused-zeroed n r p a b c e = ap zeros_beside e

from-zeroed : (d : ℕ) (st : State) (u : Used) (rs : List (List ℕ)) → Zeroed (delega_from d st u rs)
unfolding delega_from
from-zeroed d st u [] = refused-zeroed 21 0 0
from-zeroed d st u (x ∷ rs) =
    either_way Zeroed (closes_at d st.deleghe (kind_in x)) (answered st u) _ (λ n r p e. let z : ◌≡◌ {A = ℕ} 0 1 = cc in absurd (omega arith)) (from-zeroed d (next st x) (next_used u (kind_in x)) rs)

first-zeroed : (v : Verdict) (a : DelegaAnswer) → Zeroed a → Zeroed (judged_first refused_as v a)
first-zeroed Accepted a f = f
first-zeroed (Err why) a f = refused-zeroed why.number why.«record» why.position

pub refused-zeros : (s : List ℕ) (d n r p : ℕ) → (delega_of s d).verdict ≡ Refused n r p → delega_of s d ≡ zeros_beside (Refused n r p)
unfolding delega_of
refused-zeros s d =
    first-zeroed (judged s).verdict _
    (either_way Zeroed (eqb d 0) _ _ (refused-zeroed 21 0 0) (either_way Zeroed (ltb (judged s).summary.deleghe d) _ _ (refused-zeroed 21 0 0) (from-zeroed d start_state none_used (records_of s))))
