-- For theorems. Which fields are listed, and in which order.
use Rattle.std.specs.Prelude.{ℕ, ◌+◌, ◌<◌, ◌≡◌, List, [], ◌∷◌, ◌⊎◌, length, get_or}
use Rattle.layout.specs.declared.Field.{Field}
use Rattle.layout.specs.Kinds.{kind_in}
use Rattle.layout.specs.Fields.{bytes_of}
use Rattle.judge.specs.Flow.{records_of}
use Rattle.changes.specs.Changes.{written_fields, Place}

-- The record behind q others.
abbrev pub record_behind : List ℕ → ℕ → List ℕ
record_behind f q = get_or (records_of f) q []

-- A place is among those of a list.
pub data Listed (p : Place) : List Place → Type 0 where
  here : {q : Place} {ps : List Place} → p ≡ q → Listed p (q ∷ ps)
  behind : {q : Place} {ps : List Place} → Listed p ps → Listed p (q ∷ ps)

-- A field that is written in a record.
pub data OneOf (g : Field) : List Field → Type 0 where
  first : {f : Field} {fs : List Field} → g ≡ f → OneOf g (f ∷ fs)
  later : {f : Field} {fs : List Field} → OneOf g fs → OneOf g (f ∷ fs)

-- "a field is listed exactly when its bytes differ": a place has the record and the start, both counted from 1, of a field that is written, and its bytes differ in two flows.
pub record Differs (old new : List ℕ) (p : Place) : Type 0 where
  pub before : ℕ
  pub field : Field
  pub there : before < length (records_of old)
  pub written : OneOf field (written_fields (kind_in (record_behind old before)))
  pub numbered : p.«record» ≡ before + 1
  pub starts : p.start ≡ field.start + 1
  pub differ : bytes_of (record_behind old before) field ≡ bytes_of (record_behind new before) field → ⊥

-- "in the order of the flow": one place stands before another in the flow.
abbrev pub Before : Place → Place → Type 0
Before p q = (p.«record» < q.«record») ⊎ ((p.«record» ≡ q.«record») × (p.start < q.start))

-- A place stands before all of a list, and so does each of a list before those behind it.
abbrev pub BeforeAll : Place → List Place → Type 0
BeforeAll p [] = Unit {0}
BeforeAll p (q ∷ qs) = Before p q × BeforeAll p qs

abbrev pub InFlowOrder : List Place → Type 0
InFlowOrder [] = Unit {0}
InFlowOrder (p ∷ ps) = BeforeAll p ps × InFlowOrder ps
