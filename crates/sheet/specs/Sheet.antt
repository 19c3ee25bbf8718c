-- Believed. A working sheet: "F4, a count of deleghe in three digits, per delega its records 10 and 20, the five sections in 01's order, each as a count in two
-- digits and its line records, then its 50-01; last an EF". Reading one gives the records to be written, each with its slot, or says that the bytes are no sheet.
use Rattle.std.specs.Prelude.{ℕ, zero, suc, ◌+◌, cond, List, [], ◌∷◌, ◌++◌, eqb, ltb, length, take, drop}
use Rattle.text.specs.Answers.{Digits, Number, NonDigit, TooLong}
use Rattle.text.specs.Numbers.{number_of}
use Rattle.layout.specs.declared.Kind.{Kind}
use Rattle.layout.specs.declared.Kind.TheVariants.{Head, Taxpayer, Domicile, Line, Balance, Payment, Tail}
use Rattle.sheet.specs.Slots.{made_balance}

-- a record to be written: its slot, the number of its delega, and its 120 characters as they are keyed or made
pub record Entry : Type 0 where
  pub slot : Kind
  pub delega : ℕ
  pub bytes : List ℕ

-- such a record, by its parts
abbrev pub entry : Kind → ℕ → List ℕ → Entry
entry k d r = record { slot = k; delega = d; bytes = r }

-- what is read at the front of some bytes: records, and the bytes that are left; or no sheet, which is refused with 24
pub data Reading : Type 0 where
  NoSheet : Reading
  Read : List Entry → List ℕ → Reading

-- records that stand before what is read
abbrev pub before : List Entry → Reading → Reading
before es NoSheet = NoSheet
before es (Read fs rest) = Read (es ++ fs) rest

-- a part of a sheet, and then another behind it
abbrev pub and_then : Reading → (List ℕ → Reading) → Reading
and_then NoSheet f = NoSheet
and_then (Read es rest) f = before es (f rest)

-- one record, in a slot of delega d; "24 when the sheet ends early"
unfoldable pub one_record : Kind → ℕ → List ℕ → Reading
one_record k d s = cond (ltb (length s) 120) NoSheet (Read (entry k d (take 120 s) ∷ []) (drop 120 s))

-- what a count counts; 24 for "a count that isn't digits"
abbrev pub of_count : Digits → (ℕ → Reading) → Reading
of_count (Number n) f = f n
of_count (NonDigit i) f = NoSheet
of_count TooLong f = NoSheet

-- a count in w digits, and what it counts
unfoldable pub counted : ℕ → List ℕ → (ℕ → List ℕ → Reading) → Reading
counted w s f = cond (ltb (length s) w) NoSheet (of_count (number_of (take w s)) (λ n. f n (drop w s)))

-- n line records of section x
unfoldable pub lines_from : ℕ → ℕ → ℕ → List ℕ → Reading
lines_from x d zero s = Read [] s
lines_from x d (suc n) s = and_then (one_record (Line x) d s) (lines_from x d n)

-- the lines of section x and, where there are some, the balance record that the writer makes
unfoldable pub one_section : ℕ → ℕ → ℕ → List ℕ → Reading
one_section x d n s = and_then (lines_from x d n s) (Read (cond (eqb n 0) [] (entry (Balance x) d (made_balance x) ∷ [])))

-- "the five sections in 01's order, each as a count in two digits and its line records": n of them, from section x on
unfoldable pub sections_from : ℕ → ℕ → ℕ → List ℕ → Reading
sections_from d zero x s = Read [] s
sections_from d (suc n) x s = and_then (counted 2 s (one_section x d)) (sections_from d n (x + 1))

-- "per delega its records 10 and 20, the five sections .., then its 50-01"
unfoldable pub one_delega : ℕ → List ℕ → Reading
one_delega d s = and_then (one_record Taxpayer d s) (λ t. and_then (one_record Domicile d t) (λ u. and_then (sections_from d 5 0 u) (one_record Payment d)))

-- n deleghe, of which the first is number d
unfoldable pub deleghe_from : ℕ → ℕ → List ℕ → Reading
deleghe_from zero d s = Read [] s
deleghe_from (suc n) d s = and_then (one_delega d s) (deleghe_from n (d + 1))

-- 24 when the sheet "has bytes left"
unfoldable pub at_end : List ℕ → Reading
at_end s = cond (eqb (length s) 0) (Read [] []) NoSheet

-- "A sheet holds F4, a count of deleghe in three digits, per delega .., last an EF"
unfoldable pub sheet_of : List ℕ → Reading
sheet_of s = and_then (one_record Head 0 s) (λ t. and_then (counted 3 t (λ n. deleghe_from n 1)) (λ u. and_then (one_record Tail 0 u) at_end))
