-- Believed. The numbers in which the linkable library writes its answers, and those that a judgement by portions returns.
use Rattle.std.specs.Prelude.{ℕ, List, [], ◌∷◌, Result, Ok, Err}
use Rattle.refusal.specs.declared.Refusal.{Refusal}
use Rattle.state.specs.Numbers.{overlay, sums_numbers}
use Rattle.judge.specs.declared.Summary.{Summary}
use Rattle.portion.specs.declared.Course.{Course}
use Rattle.portion.specs.declared.Course.TheVariants as Portions
use Rattle.portion.specs.declared.Portion.{Portion}
use Rattle.handed.specs.Room.{progress_numbers}
use Rattle.delega.specs.declared.DelegaAnswer.{DelegaAnswer}

-- A summary is written as deleghe, records, total and lines, and then the sums of the sections.
unfoldable pub summary_numbers : Summary → List ℕ
summary_numbers s = s.deleghe ∷ s.records ∷ s.total ∷ s.lines ∷ sums_numbers s.sums

-- A delega is written as its final balance, its lines, its set of sections and the size of it, and then the sums of its sections.
unfoldable pub delega_numbers : DelegaAnswer → List ℕ
delega_numbers a = a.balance ∷ a.lines ∷ a.set ∷ a.size ∷ sums_numbers a.sums

-- A refusal is written as the record and the position.
abbrev pub refusal_numbers : ℕ → ℕ → List ℕ
refusal_numbers r p = r ∷ p ∷ []

-- A call that answers a number returns 0, and one that is refused the number of the refusal.
abbrev pub answer_code : Result ℕ Refusal → ℕ
answer_code (Ok n) = 0
answer_code (Err why) = why.number

-- It writes the number that it answers, or the refusal.
abbrev pub number_or_refusal : Result ℕ Refusal → List ℕ
number_or_refusal (Ok n) = n ∷ []
number_or_refusal (Err why) = refusal_numbers why.«record» why.position

-- A judgement that has not ended returns 101, and a foreign state 102.
abbrev pub course_code : Course → ℕ
course_code Portions.Going = 101
course_code Portions.Accepted = 0
course_code (Portions.Refused n r p) = n
course_code Portions.Foreign = 102

-- A portion writes the number of records examined so far, and behind it the summary, or the record and the position of the refusal.
abbrev pub numbers_by : Course → Portion → List ℕ
numbers_by Portions.Going a = a.examined ∷ []
numbers_by Portions.Accepted a = a.examined ∷ summary_numbers a.summary
numbers_by (Portions.Refused n r p) a = a.examined ∷ r ∷ p ∷ []
numbers_by Portions.Foreign a = a.examined ∷ []

-- So by how the judgement stands.
abbrev pub portion_numbers : Portion → List ℕ
portion_numbers a = numbers_by a.answer a

-- The state is replaced by the one that is handed back; a foreign one stays as it came.
abbrev pub state_by : Course → Portion → List ℕ → List ℕ
state_by Portions.Going a state = overlay (progress_numbers a.next) state
state_by Portions.Accepted a state = overlay (progress_numbers a.next) state
state_by (Portions.Refused n r p) a state = overlay (progress_numbers a.next) state
state_by Portions.Foreign a state = state

-- So by how the judgement stands.
abbrev pub handed_back : Portion → List ℕ → List ℕ
handed_back a state = state_by a.answer a state
