-- Indexes outside fields: which bytes a put leaves, and which stored fields they are clear of.
use Prim.Native.Nat.{ℕ, ◌+◌, ◌<◌, ◌≤◌}
use mathlib.Core.Path.{◌≡◌, refl, ap}
use mathlib.Core.Bool.{Bool, true, false, cond, true≢false}
use mathlib.Core.List.{List, [], ◌∷◌}
use native.Mathlib.Omega.{arith}
use mathlib.Core.Logic.{◌⊎◌, inl, inr, ⊎_elim}
use borrow.Author.Tests.{lt-leb, le-ltb, ltb-false, leb-false, le-leb}
use lib.Dec.{ltb, leb}
use lib.ListN.{length, get_or}
use Rattle.text.specs.Placing.{put_at}
use Rattle.text.proofs.Puts.{put-byte-before, put-byte-after}
use Rattle.layout.specs.declared.Field.{Field}
use Rattle.layout.specs.Sections.{section_at}
use Rattle.layout.specs.Fields.{amount_at, in_columns}
use Rattle.amounts.specs.declared.Sums.{Sums}
use Rattle.rules.specs.Stored.{Stored, Value, stored_balance}
use Rattle.rebalance.specs.Rebalance.{clear, start_of, width_of}
use Rattle.rebalance.specs.Places.{sign_and_balance}

-- An index lies before or behind a field.
abbrev pub Beside : ℕ → Field → Type 0
Beside i f = (i < f.start) ⊎ (f.end ≤ i)

-- An index outside fields lies before or behind each.
pub outside : (i : ℕ) (f : Field) (fs : List Field) → in_columns i (f ∷ fs) ≡ false → Beside i f × (in_columns i fs ≡ false)
unfolding in_columns
outside i f fs e = go (leb f.start i) (ltb i f.end) refl refl e
  where
    go : (t u : Bool) → leb f.start i ≡ t → ltb i f.end ≡ u → cond (cond t u false) true (in_columns i fs) ≡ false → Beside i f × (in_columns i fs ≡ false)
    go true true p q e = absurd (true≢false e)
    go true false p q e = (inr (ltb-false _ _ q), e)
    go false u p q e = (inl (leb-false _ _ p), e)

-- A byte before or behind a place stays when bytes are put there.
pub put-outside : (a : ℕ) (bs r : List ℕ) → a + length bs ≤ length r → (c : ℕ) → (c < a) ⊎ (a + length bs ≤ c) → get_or (put_at a bs r) c 0 ≡ get_or r c 0
put-outside a bs r h c o = ⊎_elim (put-byte-before a bs r h c 0) (put-byte-after a bs r h c 0) o

-- The same of bytes that fill a field.
pub put-off : (f : Field) (bs r : List ℕ) → f.start + length bs ≡ f.end → f.end ≤ length r → (i : ℕ) → Beside i f → get_or (put_at f.start bs r) i 0 ≡ get_or r i 0
put-off f bs r e h i o = put-outside f.start bs r (omega arith) i (⊎_elim (λ p. inl p) (λ p. inr (omega arith)) o)

-- An index before or behind a field and outside others is outside all.
pub off-all : (i : ℕ) (f : Field) (fs : List Field) → Beside i f → in_columns i fs ≡ false → in_columns i (f ∷ fs) ≡ false
unfolding in_columns
off-all i f fs o e = ⊎_elim (λ p. rw (lt-leb f.start i p) e) (λ p. rw (le-ltb i f.end p, go (leb f.start i)) e) o
  where
    go : (t : Bool) → cond t false false ≡ false
    go true = refl
    go false = refl

-- The order of columns is of no matter.
pub swapped : (i : ℕ) (e f g : Field) (fs : List Field) → in_columns i (e ∷ f ∷ g ∷ fs) ≡ in_columns i (e ∷ g ∷ f ∷ fs)
unfolding in_columns
swapped i e f g fs = ap (cond (cond (leb e.start i) (ltb i e.end) false) true) (go (cond (leb f.start i) (ltb i f.end) false) (cond (leb g.start i) (ltb i g.end) false))
  where
    go : (a b : Bool) → cond a true (cond b true (in_columns i fs)) ≡ cond b true (cond a true (in_columns i fs))
    go true true = refl
    go true false = refl
    go false true = refl
    go false false = refl

-- A byte outside stored fields is clear of the first, and of the others.
clear-on : (i : ℕ) (x : Stored) (xs : List Stored) → (i < start_of x) ⊎ (start_of x + width_of x ≤ i) → clear i 1 xs ≡ true → clear i 1 (x ∷ xs) ≡ true
unfolding clear
clear-on i x xs o e = rw e (⊎_elim (λ p. rw (le-leb (i + 1) (start_of x) (omega arith))) (λ p. rw (le-leb (start_of x + width_of x) i p) (go (leb (i + 1) (start_of x)))) o)
  where
    go : (t : Bool) → cond (cond t true true) true false ≡ true
    go true = refl
    go false = refl

clear_none : (i : ℕ) → clear i 1 [] ≡ true
unfolding clear
clear_none i = refl

-- Columns are those of stored fields.
abbrev pub Covers : List Field → List Stored → Type 0
Covers [] [] = Unit {0}
Covers [] (x ∷ xs) = ⊥
Covers (f ∷ fs) [] = ⊥
Covers (f ∷ fs) (x ∷ xs) = (f.start ≡ start_of x) × (f.end ≡ start_of x + width_of x) × Covers fs xs

-- An index outside them is outside the stored fields.
pub covers-clear : (i : ℕ) (fs : List Field) (xs : List Stored) → Covers fs xs → in_columns i fs ≡ false → clear i 1 xs ≡ true
covers-clear i [] [] v h = clear_none i
covers-clear i [] (x ∷ xs) v h = absurd v
covers-clear i (f ∷ fs) [] v h = absurd v
covers-clear i (f ∷ fs) (x ∷ xs) v h =
    let o = outside i f fs h in
    clear-on i x xs (⊎_elim (λ p. inl (omega (arith, v.0))) (λ p. inr (omega (arith, v.1))) o.0) (covers-clear i fs xs v.2 o.1)

-- The columns of a balance record are those of what it stores.
pub balance-covers : (x : ℕ) (t : Sums) (b : Bool) → Covers (cond b (amount_at (section_at x).total_debit ∷ amount_at (section_at x).total_credit ∷ sign_and_balance x) (sign_and_balance x))
    (cond b (Value 10 (amount_at (section_at x).total_debit) t.debit ∷ Value 11 (amount_at (section_at x).total_credit) t.credit ∷ stored_balance x t) (stored_balance x t))
balance-covers x t true = (refl, omega arith, (refl, omega arith, (refl, refl, (refl, omega arith, tt))))
balance-covers x t false = (refl, refl, (refl, omega arith, tt))
