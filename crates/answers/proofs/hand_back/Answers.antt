-- `answers::hand_back` meets its contract: a foreign state stays as it came, and any other room holds the state after the portion.
use Prim.Native.Nat.{ℕ}
use mathlib.Core.Path.{◌≡◌, refl, ap, ◌∙◌}
use mathlib.Core.List.{List}
use Rattle.portion.specs.declared.Course.{Course}
use Rattle.portion.specs.declared.Course.TheVariants.{Going, Accepted, Refused, Foreign}
use Rattle.portion.specs.declared.Portion.{Portion}
use Rattle.state.specs.Numbers.{overlay}
use Rattle.handed.specs.Room.{progress_numbers}
use Rattle.answers.specs.Numbers.{state_by}
use Rattle.answers.proofs.hand_back.Goals as goal

-- an answer that is not foreign
not-foreign : (o : Course) (a : Portion) (state : List ℕ) → (o ≡ Foreign → ⊥) → overlay (progress_numbers a.next) state ≡ state_by o a state
not-foreign Going a state t = refl
not-foreign Accepted a state t = refl
not-foreign (Refused n r p) a state t = refl
not-foreign Foreign a state t = absurd (t refl)

pub returns : goal.returns
returns c = c.put.ensures ∙ (ap (λ (l : List ℕ). overlay l c.args.room.now) c.progress_numbers.ensures ∙ not-foreign c.args.part.answer c.args.part _ c.in_default.not-Foreign)
