-- For theorems. When a flow is refused, with which number, record and position, and when it is rebalanced.
use Rattle.std.specs.Prelude.{ℕ, ◌+◌, ◌*◌, ◌%◌, ◌<◌, ◌≤◌, ◌≡◌, true, false, List, [], ◌∷◌, ◌++◌, ◌⊎◌, length}
use Rattle.text.specs.Answers.{Allowed, BadAt}
use Rattle.text.specs.Characters.{first_bad}
use Rattle.layout.specs.Kinds.{kind_in}
use Rattle.refusal.specs.Outcomes.{Outcome, Pass, Fails}
use Rattle.amounts.specs.Outcomes.{first}
use Rattle.order.specs.Stages.{after_tail}
use Rattle.rules.specs.declared.State.{State}
use Rattle.rules.specs.State.{start_state}
use Rattle.rules.specs.Stored.{stored_of, wrong}
use Rattle.rules.specs.Checks.{fault}
use Rattle.rules.specs.Step.{next}
use Rattle.judge.specs.Flow.{records_of, head_name_of}
use Rattle.judge.specs.Plain.{Whole, state_after}
use Rattle.rebalance.specs.Rebalance.{emit, all_fit, kept_fault}
use Rattle.changes.specs.Changes.{changes_of}
use Rattle.mend.specs.Answers.{Mending, Mended, Refused}

-- "the first remaining fault of 01's checks" in one record, after a state: 3 of its bytes as they are, those of a rewritten field too; else what the judge says of the record once it is rebalanced, but for what it says
-- of its stored fields, which are then wrong only where a value does not fit.
pub data Remains (name : List ℕ) (st : State) (r : List ℕ) : Outcome → Type 0 where
  BadCharacter : {i : ℕ} → first_bad r ≡ BadAt i → Remains name st r (Fails 3 (i + 1))
  AsRebalanced : {o : Outcome} → first_bad r ≡ Allowed → fault name st (emit st r) ≡ first o (wrong (stored_of st (kind_in r)) (emit st r)) → Remains name st r o

-- No fault remains in records.
abbrev pub NoneRemains : List ℕ → State → List (List ℕ) → Type 0
NoneRemains name st [] = Unit {0}
NoneRemains name st (r ∷ rs) = (kept_fault name st r ≡ Pass) × NoneRemains name (next st r) rs

-- The first record in which a fault remains, number n at position p, is the k-th of a list.
pub record FirstRemaining (name : List ℕ) (st : State) (rs : List (List ℕ)) (n k p : ℕ) : Type 0 where
  pub before : List (List ℕ)
  pub here : List ℕ
  pub behind : List (List ℕ)
  pub split : rs ≡ before ++ (here ∷ behind)
  pub counted : k ≡ length before + 1
  pub passes : NoneRemains name st before
  pub fails : kept_fault name (state_after st before) here ≡ Fails n p

-- No fault remains in a flow: its length is right, no record has one, and the last is EF.
pub record Mends (f : List ℕ) : Type 0 where
  pub whole : Whole f
  pub passes : NoneRemains (head_name_of f) start_state (records_of f)
  pub ended : (state_after start_state (records_of f)).stage.phase ≡ after_tail

-- The numbers that a flow can be refused with for one of its records: "Faults 10 to 13, 15, 18 to 20 .. don't stop it".
abbrev pub remaining_numbers : List ℕ
remaining_numbers = 3 ∷ 4 ∷ 6 ∷ 7 ∷ 8 ∷ 9 ∷ 14 ∷ 16 ∷ 17 ∷ 26 ∷ []

-- The numbers that it can be refused with at all.
abbrev pub mending_numbers : List ℕ
mending_numbers = 1 ∷ 2 ∷ 5 ∷ 23 ∷ 27 ∷ remaining_numbers

-- "Refusals, with nothing written: the first remaining fault of 01's checks, then 23, then 27 when the lent list is too short": what is answered to a flow and a list, and when.
pub data Answers (f list : List ℕ) : Mending → Type 0 where
  TooLong : 65520 < length f → Answers f list (Refused 1 0 0)
  NotWhole : length f ≤ 65520 → (length f ≡ 0) ⊎ (length f % 120 ≡ 0 → ⊥) → Answers f list (Refused 2 0 0)
  FaultAt : {n k p : ℕ} → Whole f → FirstRemaining (head_name_of f) start_state (records_of f) n k p → Answers f list (Refused n k p)
  NoTail : Whole f → NoneRemains (head_name_of f) start_state (records_of f) → ((state_after start_state (records_of f)).stage.phase ≡ after_tail → ⊥) → Answers f list (Refused 5 (length (records_of f) + 1) 0)
  NoFit : Mends f → all_fit start_state (records_of f) ≡ false → Answers f list (Refused 23 0 0)
  ShortList : Mends f → all_fit start_state (records_of f) ≡ true → length list < 2 * length (changes_of f) → Answers f list (Refused 27 0 0)
  IsRebalanced : Mends f → all_fit start_state (records_of f) ≡ true → 2 * length (changes_of f) ≤ length list → Answers f list (Mended (length (changes_of f)))
