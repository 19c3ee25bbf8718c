-- For theorems. When a call that takes a record is refused, and when it is answered as the plain one.
use Rattle.std.specs.Prelude.{ℕ, ◌≤◌, ◌≡◌, List, Err}
use Rattle.refusal.specs.declared.Refusal.{Refusal}
use Rattle.refusal.specs.Refusals.{refusal, no_refusal}
use Rattle.lenient.specs.Answers.{Lenient}
use Rattle.lenient.specs.Answers as Leniently
use Rattle.sums.specs.declared.KeptSums.{KeptSums}
use Rattle.sums.specs.LineSums.{kept_of}

-- The refusal of a lenient judgement; one that passes has none.
abbrev pub refusal_lenient : Lenient → Refusal
refusal_lenient Leniently.Passed = no_refusal
refusal_lenient (Err why) = why

-- "29 for such a call, after the judgement's own refusals and before all others": what is answered to a call on a flow with a record, and when; x is the refusal of the call's own judgement of the flow, and plain what the call without a record is answered.
pub data Answers {A : Type 0} (refused : ℕ → ℕ → ℕ → A) (plain : A) (x : Refusal) (k : KeptSums) (f : List ℕ) : A → Type 0 where
  AsJudged : {n r p : ℕ} → x ≡ refusal n r p → 1 ≤ n → Answers refused plain x k f (refused n r p)
  Mismatched : x ≡ no_refusal → (k ≡ kept_of f → ⊥) → Answers refused plain x k f (refused 29 0 0)
  AsPlain : x ≡ no_refusal → k ≡ kept_of f → Answers refused plain x k f plain
