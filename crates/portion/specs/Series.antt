-- For theorems. Series of calls, what a judgement needs, and the records that a run steps over.
use Rattle.std.specs.Prelude.{ℕ, zero, suc, ◌+◌, ◌-◌, ◌*◌, ◌/◌, ◌≤◌, ◌≡◌, false, List, [], ◌∷◌, ◌⊎◌, length, take, drop, Err}
use Rattle.refusal.specs.Outcomes.{Outcome, Pass}
use Rattle.rules.specs.declared.State.{State}
use Rattle.rules.specs.Checks.{fault}
use Rattle.rules.specs.Step.{next}
use Rattle.state.specs.Numbers.{state_of}
use Rattle.judge.specs.Flow.{no_summary, judged}
use Rattle.judge.specs.Plain.{Whole}
use Rattle.portion.specs.declared.Course.TheVariants.{Going, Refused}
use Rattle.portion.specs.declared.Progress.{Progress}
use Rattle.portion.specs.declared.Portion.{Portion}
use Rattle.portion.specs.Portion.{ended_by, examined_by, possible, portioned}

-- the last of a series of calls, each from what the one before it handed back
unfoldable pub called : List ℕ → Progress → ℕ → List ℕ → Portion
called s x p [] = portioned s p x
called s x p (q ∷ qs) = called s (portioned s p x).next q qs

-- the portions of a series together
unfoldable pub total : List ℕ → ℕ
total [] = 0
total (p ∷ ps) = p + total ps

-- the last record that the judgement of a flow needs: "the number of the refusing record, all records for acceptance or refusal 5, and none for 1 or 2"
unfoldable pub needed : List ℕ → ℕ
needed s = examined_by (ended_by (judged s).verdict) (length s / 120)

-- "the definition's record steps": the records that a run comes to
abbrev pub one_more : Outcome → ℕ → ℕ
one_more Pass n = suc n
one_more (Err why) n = 1

unfoldable pub steps : List ℕ → State → List (List ℕ) → ℕ
steps name st [] = zero
steps name st (r ∷ rs) = one_more (fault name st r) (steps name (next st r) rs)

-- the judgement, given with the number of records that it needed
abbrev pub Given : List ℕ → Portion → Type 0
Given s a = (a.answer ≡ ended_by (judged s).verdict) × (a.examined ≡ needed s) × (a.summary ≡ (judged s).summary)

-- no judgement yet, with the records of the portions examined
abbrev pub NotYet : ℕ → Portion → Type 0
NotYet p a = (a.answer ≡ Going) × (a.examined ≡ p) × (a.summary ≡ no_summary)

-- two flows agree in the records behind the first a, up to the b-th
abbrev pub Agree : List ℕ → List ℕ → ℕ → ℕ → Type 0
Agree s t a b = take ((b - a) * 120) (drop (a * 120) s) ≡ take ((b - a) * 120) (drop (a * 120) t)

-- a foreign answer: none examined, zeros, the state as it came; and why it is foreign
abbrev pub Foreigner : List ℕ → Progress → Portion → Type 0
Foreigner s x a = (a.examined ≡ 0) × (a.summary ≡ no_summary) × (a.next ≡ x) × ((possible x ≡ false) ⊎ ((x.course ≡ Going) × Whole s × (length s / 120 ≤ (state_of x.kept).seen)))

-- refusal 1 or 2, of a flow as it is: none examined, and the state as it came but for its end
abbrev pub AtOnce : ℕ → Progress → Portion → Type 0
AtOnce n x a = (a.answer ≡ Refused n 0 0) × (a.examined ≡ 0) × (a.summary ≡ no_summary) × (a.next.course ≡ Refused n 0 0) × (a.next.kept ≡ x.kept) × (a.next.name ≡ x.name)
