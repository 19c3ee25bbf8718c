-- Serves inner functions. How far a sheet has been read, and what stands in the flow by then.
use Rattle.std.specs.Prelude.{ℕ, ◌+◌, ◌*◌, ◌≤◌, ◌≡◌, cond, List, [], ◌∷◌, ◌++◌, ltb, length, take, drop, Err, Option, None, Some}
use Rattle.text.specs.Answers.{Digits, TooLong}
use Rattle.text.specs.Numbers.{number_of}
use Rattle.refusal.specs.Outcomes.{Outcome, Pass}
use Rattle.rebalance.specs.Rebalance.{flat}
use Rattle.lenient.specs.declared.Misfit.{Misfit}
use Rattle.sheet.specs.declared.Spot.{Spot}
use Rattle.sheet.specs.Answers.{Walked}
use Rattle.sheet.specs.Answers as Way
use Rattle.sheet.specs.Slots.{slot_fault}
use Rattle.sheet.specs.Sheet.{Entry, Reading, NoSheet, Read}
use Rattle.sheet.specs.Filled.{filled, filled_all}

-- the first record that is not of its slot's kind: the one so far, else the n-th where it is none
abbrev pub or_misfit : Option Misfit → ℕ → Outcome → Option Misfit
or_misfit (Some m) n o = Some m
or_misfit None n Pass = None
or_misfit None n (Err why) = Some (record { at = n; position = why.position })

-- the same of more records, behind the first n
unfoldable pub misfit_from : List ℕ → ℕ → List Entry → Option Misfit → Option Misfit
misfit_from name n [] m = m
misfit_from name n (e ∷ es) m = misfit_from name (n + 1) es (or_misfit m (n + 1) (slot_fault e.slot (filled name e)))

-- the start of a sheet
abbrev pub start_spot : Spot
start_spot = record { at = 0; count = 0; misfit = None }

-- the spot n bytes further on
abbrev pub beyond_by : Spot → ℕ → Spot
beyond_by a n = record { at = a.at + n; count = a.count; misfit = a.misfit }

-- a count in w digits at the front of some bytes; no number where they are fewer
unfoldable pub count_at : ℕ → List ℕ → Digits
count_at w s = cond (ltb (length s) w) TooLong (number_of (take w s))

-- a spot within a sheet, and room for a flow
pub record Here (sheet : List ℕ) (a : Spot) (flow : List ℕ) : Type 0 where
  pub within : a.at ≤ length sheet
  pub few : a.count ≤ a.at
  pub room : length flow ≡ 65520

-- one more record in the flow, whose bytes have been read
pub record Enters (name : List ℕ) (a : Spot) (flow : List ℕ) (e : Entry) (b : Spot) (flow' : List ℕ) : Type 0 where
  pub stays : b.at ≡ a.at
  pub counts : b.count ≡ a.count + 1
  pub misfits : b.misfit ≡ or_misfit a.misfit (a.count + 1) (slot_fault e.slot (filled name e))
  pub room : length flow' ≡ length flow
  pub written : b.count ≤ 546 → take (b.count * 120) flow' ≡ take (a.count * 120) flow ++ filled name e

-- from one spot to another that has these records between them and the rest behind it
pub record Reaches (sheet name : List ℕ) (a : Spot) (flow : List ℕ) (es : List Entry) (rest : List ℕ) (b : Spot) (flow' : List ℕ) : Type 0 where
  pub within : b.at ≤ length sheet
  pub left : drop b.at sheet ≡ rest
  pub counts : b.count ≡ a.count + length es
  pub few : b.count + a.at ≤ a.count + b.at
  pub misfits : b.misfit ≡ misfit_from name a.count es a.misfit
  pub room : length flow' ≡ length flow
  pub written : b.count ≤ 546 → take (b.count * 120) flow' ≡ take (a.count * 120) flow ++ flat (filled_all name es)

-- what a walk over a part of a sheet answers, and how it leaves the flow
abbrev pub Follows : List ℕ → List ℕ → Spot → List ℕ → Reading → Walked → List ℕ → Type 0
Follows sheet name a flow NoSheet Way.NoSheet flow' = length flow' ≡ length flow
Follows sheet name a flow NoSheet (Way.To b) flow' = ⊥
Follows sheet name a flow (Read es rest) Way.NoSheet flow' = ⊥
Follows sheet name a flow (Read es rest) (Way.To b) flow' = Reaches sheet name a flow es rest b flow'
