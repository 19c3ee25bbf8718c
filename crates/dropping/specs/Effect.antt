-- For theorems. What may differ in a flow from which deleghe are dropped, what is dropped, and what dropping one by one is.
use Rattle.std.specs.Prelude.{ℕ, ◌+◌, ◌-◌, ◌≡◌, true, false, cond, List, [], ◌∷◌, map, eqb, ltb, length, take, get_or}
use Rattle.layout.specs.declared.Field.{Field}
use Rattle.layout.specs.declared.Kind.{Kind}
use Rattle.layout.specs.declared.Kind.TheVariants.{Head, Taxpayer, Domicile, Line, Balance, Payment, Receipt, Addressee, Tail, Unknown}
use Rattle.layout.specs.Kinds.{kind_in, numbered}
use Rattle.layout.specs.Fields.{delega_number, tail_deleghe, tail_sum, tail_records, value_of, in_columns}
use Rattle.judge.specs.Plain.{sum_over}
use Rattle.delega.specs.PlainDelega.{of_delega}
use Rattle.close.specs.Closing.{left_of}
use Rattle.dropping.specs.Answers.{Dropped}
use Rattle.dropping.specs.Dropping.{dropping_of, dropped_flow}

-- "Kept deleghe differ only in their number", and the tail in its counts and its sum: the columns in which a record of a kind may differ.
abbrev pub renewed : Kind → List Field
renewed Head = []
renewed Taxpayer = delega_number ∷ []
renewed Domicile = delega_number ∷ []
renewed (Line s) = delega_number ∷ []
renewed (Balance s) = delega_number ∷ []
renewed Payment = delega_number ∷ []
renewed Receipt = delega_number ∷ []
renewed Addressee = delega_number ∷ []
renewed Tail = tail_deleghe ∷ tail_sum ∷ tail_records ∷ []
renewed Unknown = []

-- A record that stays, as it was and as it is: of 120 bytes, every byte outside these columns the same, and its number that of deleghe which are left up to its own.
pub record Stayed (numbers r q : List ℕ) : Type 0 where
  pub was : length r ≡ 120
  pub is : length q ≡ 120
  pub same : (i : ℕ) → in_columns i (renewed (kind_in r)) ≡ false → get_or q i 0 ≡ get_or r i 0
  pub number : numbered (kind_in r) ≡ true → value_of q delega_number ≡ left_of numbers (value_of r delega_number)

-- Records that stay, one after the other, and no others.
abbrev pub EachStayed : List ℕ → List (List ℕ) → List (List ℕ) → Type 0
EachStayed numbers [] [] = Unit {0}
EachStayed numbers [] (q ∷ qs) = ⊥
EachStayed numbers (r ∷ rs) [] = ⊥
EachStayed numbers (r ∷ rs) (q ∷ qs) = Stayed numbers r q × EachStayed numbers rs qs

-- The records of delega d, in their order: those that carry its number.
unfoldable pub records_with : ℕ → List (List ℕ) → List (List ℕ)
records_with d [] = []
records_with d (r ∷ rs) = cond (numbered (kind_in r)) (cond (eqb (value_of r delega_number) d) (r ∷ records_with d rs) (records_with d rs)) (records_with d rs)

-- A number of each delega of a list, added up.
unfoldable pub sum_for : (ℕ → ℕ) → List ℕ → ℕ
sum_for f [] = 0
sum_for f (d ∷ ds) = f d + sum_for f ds

-- The number of records of delega d.
abbrev pub record_count_of : ℕ → List (List ℕ) → ℕ
record_count_of d rs = sum_over (λ r. of_delega d r (cond (numbered (kind_in r)) 1 0)) rs

-- "renumber the rest": the number of a delega after delega d is dropped; those behind it move up.
abbrev pub moved : ℕ → ℕ → ℕ
moved d n = cond (ltb d n) (n - 1) n

-- Deleghe dropped one by one, each by a call of its own on the length that the one before it answered, with numbers that move up; and the flow at the end.
pub data OneByOne : List ℕ → List ℕ → List ℕ → Type 0 where
  Ended : {f : List ℕ} → OneByOne f [] f
  Next : {f : List ℕ} {d : ℕ} {ds : List ℕ} {g : List ℕ} (n : ℕ) → dropping_of f (d ∷ []) ≡ Dropped n → OneByOne (take n (dropped_flow f (d ∷ []))) (map (moved d) ds) g → OneByOne f (d ∷ ds) g
