-- The rule of the table of sections, by a test that is computed once over the whole table.
use mathlib.Core.Path.{◌≡◌}
use mathlib.Core.Bool.{Bool, true, false, cond, not, false≢true}
use mathlib.Core.List.{List, [], ◌∷◌}
use Prim.Native.Nat.{ℕ, zero, suc, ◌+◌, ◌≤◌, ◌<◌}
use native.Mathlib.Omega.{arith}
use lib.Dec.{T, eqb, leb, leb→le}
use lib.ListN.{length, get_or}
use borrow.Author.Tests.{eq-eqb}
use Rattle.layout.specs.declared.Section.{Section}
use Rattle.layout.specs.Sections.{sections, no_section, section_at}

abbrev pub both : Bool → Bool → Bool
both true b = b
both false b = false

pub both_left : (a b : Bool) → T (both a b) → T a
both_left true b t = tt
both_left false b t = t

pub both_right : (a b : Bool) → T (both a b) → T b
both_right true b t = t
both_right false b t = absurd t

-- what a test says of every row, and of what stands past the rows
module _ {A : Type 0} (f : A → Bool) (d : A) where
  abbrev every : List A → Bool
  every [] = true
  every (x ∷ xs) = both (f x) (every xs)

  pub at_each : (xs : List A) → T (every xs) → (k : ℕ) → k < length xs → T (f (get_or xs k d))
  at_each [] t k h = absurd (omega arith)
  at_each (x ∷ xs) t zero h = both_left (f x) (every xs) t
  at_each (x ∷ xs) t (suc k) h = at_each xs (both_right (f x) (every xs) t) k (omega arith)

  pub everywhere : (xs : List A) → T (every xs) → T (f d) → (k : ℕ) → T (f (get_or xs k d))
  everywhere [] t e k = e
  everywhere (x ∷ xs) t e zero = both_left (f x) (every xs) t
  everywhere (x ∷ xs) t e (suc k) = everywhere xs (both_right (f x) (every xs) t) e k

-- a list of inequalities, as a test and as facts
pub record Bound : Type 0 where
  pub low : ℕ
  pub high : ℕ

abbrev at_most : ℕ → ℕ → Bound
at_most a b = record { low = a; high = b }

abbrev hold : List Bound → Bool
hold [] = true
hold (x ∷ xs) = both (leb x.low x.high) (hold xs)

abbrev pub Hold : List Bound → Type 0
Hold [] = Unit {0}
Hold (x ∷ xs) = (x.low ≤ x.high) × Hold xs

held : (xs : List Bound) → T (hold xs) → Hold xs
held [] t = tt
held (x ∷ xs) t = (leb→le x.low x.high (both_left (leb x.low x.high) (hold xs) t), held xs (both_right (leb x.low x.high) (hold xs) t))

-- the width of a total: none where the balance record has no totals
abbrev pub total_width : Section → ℕ
total_width x = cond x.totals 15 0

-- a row: the fields of a line and of a balance record stand after the subtype, one after the other, within 120; there is room for a line
abbrev pub row_bounds : Section → List Bound
row_bounds x =
    (at_most 12 x.debit)
    ∷ (at_most (x.debit + 15) x.credit)
    ∷ (at_most (x.credit + 15) 120)
    ∷ (at_most (cond x.totals 12 0) x.total_debit)
    ∷ (at_most (x.total_debit + total_width x) x.total_credit)
    ∷ (at_most (x.total_credit + total_width x) x.sign)
    ∷ (at_most 12 x.sign)
    ∷ (at_most (x.sign + 1) x.balance)
    ∷ (at_most (x.balance + 15) 120)
    ∷ (at_most 1 x.most_lines)
    ∷ []

-- the rule of the table, at each of its rows
pub row-rule : (s : ℕ) → s < 5 → Hold (row_bounds (section_at s))
unfolding section_at
row-rule s h = held (row_bounds (get_or sections s no_section)) (at_each (λ (x : Section). hold (row_bounds x)) no_section sections tt s h)

-- no column is beyond a record, also past the table
abbrev pub near_bounds : Section → List Bound
near_bounds x =
    (at_most (x.debit + 15) 120)
    ∷ (at_most (x.credit + 15) 120)
    ∷ (at_most (x.total_debit + 15) 120)
    ∷ (at_most (x.total_credit + 15) 120)
    ∷ (at_most (x.sign + 1) 120)
    ∷ (at_most (x.balance + 15) 120)
    ∷ []

pub near-rule : (s : ℕ) → Hold (near_bounds (section_at s))
unfolding section_at
near-rule s = held (near_bounds (get_or sections s no_section)) (everywhere (λ (x : Section). hold (near_bounds x)) no_section sections tt tt s)

-- the subtypes of lines and balances, of all sections
abbrev pub subtypes : List Section → List ℕ
subtypes [] = []
subtypes (x ∷ xs) = x.line_subtype ∷ x.balance_subtype ∷ subtypes xs

abbrev absent : ℕ → List ℕ → Bool
absent n [] = true
absent n (x ∷ xs) = both (not (eqb n x)) (absent n xs)

abbrev distinct : List ℕ → Bool
distinct [] = true
distinct (x ∷ xs) = both (absent x xs) (distinct xs)

not_there : (n : ℕ) (xs : List ℕ) → T (absent n xs) → (k : ℕ) → k < length xs → n ≡ get_or xs k 0 → ⊥
not_there n [] t k h e = absurd (omega arith)
not_there n (x ∷ xs) t zero h e = not_same (eqb n x) (both_left (not (eqb n x)) (absent n xs) t) (eq-eqb n x e)
  where
    not_same : (b : Bool) → T (not b) → b ≡ true → ⊥
    not_same true u f = u
    not_same false u f = absurd (false≢true f)
not_there n (x ∷ xs) t (suc k) h e = not_there n xs (both_right (not (eqb n x)) (absent n xs) t) k (omega arith) e

all-distinct : (xs : List ℕ) → T (distinct xs) → (j k : ℕ) → j < k → k < length xs → get_or xs j 0 ≡ get_or xs k 0 → ⊥
all-distinct [] t j k h i e = absurd (omega arith)
all-distinct (x ∷ xs) t j zero h i e = absurd (omega arith)
all-distinct (x ∷ xs) t zero (suc k) h i e = not_there x xs (both_left (absent x xs) (distinct xs) t) k (omega arith) e
all-distinct (x ∷ xs) t (suc j) (suc k) h i e = all-distinct xs (both_right (absent x xs) (distinct xs) t) j k (omega arith) (omega arith) e

-- line and balance subtypes of all sections are distinct
pub subtypes-distinct : (j k : ℕ) → j < k → k < 10 → get_or (subtypes sections) j 0 ≡ get_or (subtypes sections) k 0 → ⊥
subtypes-distinct = all-distinct (subtypes sections) tt
