-- The promise of each function of the library settles what is returned, and every number and byte that it is lent.
use Prim.Native.Nat.{ℕ}
use mathlib.Core.Path.{◌≡◌, sym, ◌∙◌}
use mathlib.Core.List.{List}
use Rattle.portion.specs.Portion.{start_progress}
use Rattle.handed.specs.Room.{progress_numbers}
use Rattle.f24.specs.Linked.{code_or, room_or, judge_code, judge_room, delega_code, delega_room, find_code, find_room, correct_code, correct_flow, correct_room, write_code, write_room, write_answer, rebalance_code, rebalance_flow, rebalance_list, rebalance_answer, drop_code, drop_flow, drop_answer, portion_code, portion_state, portion_room}

-- `f24_judge`: the number returned, and the room
pub one-judge : (flow room : List ℕ) (a b : ℕ) (x y : List ℕ) →
    (a ≡ judge_code flow room) × (x ≡ judge_room flow room) → (b ≡ judge_code flow room) × (y ≡ judge_room flow room) → (a ≡ b) × (x ≡ y)
one-judge flow room a b x y p q = (p.0 ∙ sym q.0, p.1 ∙ sym q.1)

-- `f24_delega`
pub one-delega : (flow : List ℕ) (d : ℕ) (room : List ℕ) (a b : ℕ) (x y : List ℕ) →
    (a ≡ delega_code flow d room) × (x ≡ delega_room flow d room) → (b ≡ delega_code flow d room) × (y ≡ delega_room flow d room) → (a ≡ b) × (x ≡ y)
one-delega flow d room a b x y p q = (p.0 ∙ sym q.0, p.1 ∙ sym q.1)

-- `f24_find`
pub one-find : (flow : List ℕ) (d subtype n : ℕ) (room : List ℕ) (a b : ℕ) (x y : List ℕ) →
    (a ≡ find_code flow d subtype n room) × (x ≡ find_room flow d subtype n room) → (b ≡ find_code flow d subtype n room) × (y ≡ find_room flow d subtype n room) → (a ≡ b) × (x ≡ y)
one-find flow d subtype n room a b x y p q = (p.0 ∙ sym q.0, p.1 ∙ sym q.1)

-- `f24_correct`: the number returned, the flow, and the room
module _ (flow : List ℕ) (d subtype n debit credit : ℕ) (room : List ℕ) where
  -- what its contract allows
  abbrev pub Allowed : ℕ → List ℕ → List ℕ → Type 0
  Allowed code f x =
      (code ≡ correct_code flow d subtype n debit credit room)
      × (f ≡ correct_flow flow d subtype n debit credit room)
      × (x ≡ correct_room flow d subtype n debit credit room)

  pub one-correct : (a b : ℕ) (f g x y : List ℕ) → Allowed a f x → Allowed b g y → (a ≡ b) × (f ≡ g) × (x ≡ y)
  one-correct a b f g x y p q = (p.0 ∙ sym q.0, p.1 ∙ sym q.1, p.2 ∙ sym q.2)

-- `f24_write`: the number returned, the room, and the answer
module _ (sheet room answer : List ℕ) where
  -- what its contract allows
  abbrev pub Writes : ℕ → List ℕ → List ℕ → Type 0
  Writes code f x = (code ≡ write_code sheet room answer) × (f ≡ write_room sheet room answer) × (x ≡ write_answer sheet room answer)

  pub one-write : (a b : ℕ) (f g x y : List ℕ) → Writes a f x → Writes b g y → (a ≡ b) × (f ≡ g) × (x ≡ y)
  one-write a b f g x y p q = (p.0 ∙ sym q.0, p.1 ∙ sym q.1, p.2 ∙ sym q.2)

-- `f24_rebalance`: the number returned, the flow, the list, and the answer
module _ (flow list answer : List ℕ) where
  -- what its contract allows
  abbrev pub Rebalances : ℕ → List ℕ → List ℕ → List ℕ → Type 0
  Rebalances code f l x = (code ≡ rebalance_code flow list answer) × (f ≡ rebalance_flow flow list answer) × (l ≡ rebalance_list flow list answer) × (x ≡ rebalance_answer flow list answer)

  pub one-rebalance : (a b : ℕ) (f g l m x y : List ℕ) → Rebalances a f l x → Rebalances b g m y → (a ≡ b) × (f ≡ g) × (l ≡ m) × (x ≡ y)
  one-rebalance a b f g l m x y p q = (p.0 ∙ sym q.0, p.1 ∙ sym q.1, p.2 ∙ sym q.2, p.3 ∙ sym q.3)

-- `f24_drop`: the number returned, the flow, and the answer
module _ (flow numbers answer : List ℕ) where
  -- what its contract allows
  abbrev pub Drops : ℕ → List ℕ → List ℕ → Type 0
  Drops code f x = (code ≡ drop_code flow numbers answer) × (f ≡ drop_flow flow numbers answer) × (x ≡ drop_answer flow numbers answer)

  pub one-drop : (a b : ℕ) (f g x y : List ℕ) → Drops a f x → Drops b g y → (a ≡ b) × (f ≡ g) × (x ≡ y)
  one-drop a b f g x y p q = (p.0 ∙ sym q.0, p.1 ∙ sym q.1, p.2 ∙ sym q.2)

-- `f24_start`: the number returned, and the state
pub one-start : (state : List ℕ) (a b : ℕ) (x y : List ℕ) →
    (a ≡ code_or 53 state 0) × (x ≡ room_or 53 state (progress_numbers start_progress)) → (b ≡ code_or 53 state 0) × (y ≡ room_or 53 state (progress_numbers start_progress)) → (a ≡ b) × (x ≡ y)
one-start state a b x y p q = (p.0 ∙ sym q.0, p.1 ∙ sym q.1)

-- `f24_judge_portion`: the number returned, the state, and the answer
module _ (flow : List ℕ) (portion : ℕ) (state answer : List ℕ) where
  -- what its contract allows
  abbrev pub Judges : ℕ → List ℕ → List ℕ → Type 0
  Judges code f x = (code ≡ portion_code flow portion state answer) × (f ≡ portion_state flow portion state answer) × (x ≡ portion_room flow portion state answer)

  pub one-judge-portion : (a b : ℕ) (f g x y : List ℕ) → Judges a f x → Judges b g y → (a ≡ b) × (f ≡ g) × (x ≡ y)
  one-judge-portion a b f g x y p q = (p.0 ∙ sym q.0, p.1 ∙ sym q.1, p.2 ∙ sym q.2)
