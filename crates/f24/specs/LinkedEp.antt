-- Believed. What the call of the linkable library for the F24 EP form returns, and what it leaves in the room that it is lent.
use Rattle.std.specs.Prelude.{ℕ, List, [], ◌∷◌, Ok, Err}
use Rattle.answers.specs.Numbers.{refusal_numbers}
use Rattle.ep.specs.Answers.{EpAnswer}
use Rattle.ep.specs.Payments.{judged}
use Rattle.f24.specs.Linked.{code_or, room_or}

-- A refusal returns its number, and an acceptance 0.
abbrev pub ep_number : EpAnswer → ℕ
ep_number (Ok payments) = 0
ep_number (Err why) = why.number

-- A refusal writes its record and its position, and an acceptance the number of M and the sum of their totals.
abbrev pub ep_numbers : EpAnswer → List ℕ
ep_numbers (Ok payments) = payments.count ∷ payments.sum ∷ []
ep_numbers (Err why) = refusal_numbers why.«record» why.position

-- `f24_ep_judge` returns 100 for a room of fewer than 2 numbers, and else what the judgement of the records says.
unfoldable pub ep_code : List ℕ → List ℕ → ℕ
ep_code s room = code_or 2 room (ep_number (judged s))

-- It leaves such a room as it came, and else writes the acceptance or the refusal.
unfoldable pub ep_room : List ℕ → List ℕ → List ℕ
ep_room s room = room_or 2 room (ep_numbers (judged s))
