-- For theorems. When a list of numbers is refused, with which number, and when the deleghe that it names are dropped.
use Rattle.std.specs.Prelude.{ℕ, ◌<◌, ◌≤◌, ◌≡◌, List, ◌∷◌, ◌⊎◌, length}
use Rattle.judge.specs.Refusal as Judge
use Rattle.judge.specs.Refusal.{Accepted}
use Rattle.judge.specs.Flow.{judged}
use Rattle.dropping.specs.Answers.{Dropping, Dropped, Refused}
use Rattle.dropping.specs.Dropping.{shortened}

-- A list names delega d.
pub data Names (d : ℕ) : List ℕ → Type 0 where
  here : {n : ℕ} {ns : List ℕ} → d ≡ n → Names d (n ∷ ns)
  behind : {n : ℕ} {ns : List ℕ} → Names d ns → Names d (n ∷ ns)

-- "a number not in the flow or named twice", of a flow that has so many deleghe.
pub data BadNumber (deleghe : ℕ) : List ℕ → Type 0 where
  absent : {d : ℕ} {ds : List ℕ} → (d ≡ 0) ⊎ (deleghe < d) → BadNumber deleghe (d ∷ ds)
  twice : {d : ℕ} {ds : List ℕ} → Names d ds → BadNumber deleghe (d ∷ ds)
  later : {d : ℕ} {ds : List ℕ} → BadNumber deleghe ds → BadNumber deleghe (d ∷ ds)

-- An accepted flow, and a list that names deleghe of it, each once.
pub record GoodList (f numbers : List ℕ) : Type 0 where
  pub accepted : (judged f).verdict ≡ Accepted
  pub good : BadNumber (judged f).summary.deleghe numbers → ⊥

-- A delega of the flow that the list does not name.
pub record Unnamed (f numbers : List ℕ) : Type 0 where
  pub delega : ℕ
  pub from : 1 ≤ delega
  pub to : delega ≤ (judged f).summary.deleghe
  pub unnamed : Names delega numbers → ⊥

-- "Refusals, with nothing written, after 01's: 21 for a number not in the flow or named twice, then 28 when none would be left": what is answered to a flow and a list, and when.
pub data Answers (f numbers : List ℕ) : Dropping → Type 0 where
  NotAccepted : {n r p : ℕ} → (judged f).verdict ≡ Judge.Refused n r p → Answers f numbers (Refused n r p)
  BadList : (judged f).verdict ≡ Accepted → BadNumber (judged f).summary.deleghe numbers → Answers f numbers (Refused 21 0 0)
  NoneLeft : GoodList f numbers → ((d : ℕ) → 1 ≤ d → d ≤ (judged f).summary.deleghe → Names d numbers) → Answers f numbers (Refused 28 0 0)
  AreDropped : GoodList f numbers → Unnamed f numbers → Answers f numbers (Dropped (length (shortened f numbers)))
