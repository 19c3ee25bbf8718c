-- Beside a refusal stand zeros.
use Rattle.std.specs.Prelude.{Err}
use Prim.Native.Nat.{ℕ, ◌+◌, ◌%◌}
use mathlib.Core.Path.{◌≡◌, refl}
use mathlib.Core.List.{List, [], ◌∷◌}
use native.Mathlib.Omega.{arith}
use lib.Dec.{eqb, ltb}
use lib.ListN.{length}
use Rattle.text.proofs.Tests.{either_way}
use Rattle.refusal.specs.Outcomes.{Outcome, Pass}
use Rattle.rules.specs.declared.State.{State}
use Rattle.rules.specs.State.{start_state}
use Rattle.order.specs.Stages.{after_tail}
use Rattle.rules.specs.Checks.{fault}
use Rattle.rules.specs.Step.{next}
use Rattle.judge.specs.Refusal.{Refused}
use Rattle.judge.specs.declared.Judgement.{Judgement}
use Rattle.judge.specs.Plain.{zeros}
use Rattle.judge.specs.Flow.{refused_with, accepted_with, closing, after, judged_from, records_of, head_name_of, judged}

-- a judgement that is a refusal has zeros
abbrev Zeroed : Judgement → Type 0
Zeroed j = (n r p : ℕ) → j.verdict ≡ Refused n r p → j.summary ≡ zeros

refused-zeroed : (n r p : ℕ) → Zeroed (refused_with n r p)
refused-zeroed n r p a b c e = refl

closing-zeroed : (st : State) → Zeroed (closing st)
unfolding closing
closing-zeroed st =
    either_way Zeroed (eqb st.stage.phase after_tail) (accepted_with st) (refused_with 5 (st.seen + 1) 0) (λ n r p e. let z : ◌≡◌ {A = ℕ} 0 1 = cc in absurd (omega arith)) (refused-zeroed 5 (st.seen + 1) 0)

after-zeroed : (o : Outcome) (k : ℕ) (j : Judgement) → Zeroed j → Zeroed (after o k j)
after-zeroed Pass k j f = f
after-zeroed (Err why) k j f = refused-zeroed why.number (k + 1) why.position

from-zeroed : (name : List ℕ) (st : State) (rs : List (List ℕ)) → Zeroed (judged_from name st rs)
unfolding judged_from
from-zeroed name st [] = closing-zeroed st
from-zeroed name st (r ∷ rs) = after-zeroed (fault name st r) st.seen (judged_from name (next st r) rs) (from-zeroed name (next st r) rs)

pub refused-zeros : (s : List ℕ) (n r p : ℕ) → (judged s).verdict ≡ Refused n r p → (judged s).summary ≡ zeros
unfolding judged
refused-zeros s =
    either_way Zeroed (ltb 65520 (length s)) _ _ (refused-zeroed 1 0 0)
    (either_way Zeroed (eqb (length s) 0) _ _ (refused-zeroed 2 0 0)
    (either_way Zeroed (eqb (length s % 120) 0) _ _ (from-zeroed (head_name_of s) start_state (records_of s)) (refused-zeroed 2 0 0)))
