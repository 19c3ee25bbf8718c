-- The section of a line or of a balance is one of the five of the table.
use Prim.Native.Nat.{ℕ, ◌+◌, ◌≤◌, ◌<◌}
use mathlib.Core.Path.{◌≡◌}
use mathlib.Core.Bool.{Bool, cond}
use mathlib.Core.List.{List, [], ◌∷◌}
use native.Mathlib.Omega.{arith}
use lib.Dec.{eqb, lit≤, lit<}
use lib.ListN.{length}
use Rattle.text.proofs.Tests.{either_way}
use Rattle.text.specs.Answers.{Digits, Number, NonDigit, TooLong}
use Rattle.layout.specs.declared.Section.{Section}
use Rattle.layout.specs.declared.RecordType.{RecordType}
use Rattle.layout.specs.declared.RecordType.TheVariants.{F4, T10, T20, T40, T50, EF, NoType}
use Rattle.layout.specs.declared.Kind.{Kind}
use Rattle.layout.specs.declared.Kind.TheVariants.{Head, Taxpayer, Domicile, Line, Balance, Payment, Receipt, Addressee, Tail, Unknown}
use Rattle.layout.specs.Sections.{sections}
use Rattle.layout.specs.Kinds.{section_kind_from, payment_kind, kind_of, type_in, subtype_in, kind_in}

-- the section of a line or of a balance
abbrev pub section_of : Kind → ℕ
section_of Head = 0
section_of Taxpayer = 0
section_of Domicile = 0
section_of (Line s) = s
section_of (Balance s) = s
section_of Payment = 0
section_of Receipt = 0
section_of Addressee = 0
section_of Tail = 0
section_of Unknown = 0

choice : (t : Bool) (j k : Kind) → section_of j < 5 → section_of k < 5 → section_of (cond t j k) < 5
choice = either_way (λ (k : Kind). section_of k < 5)

look-within : (i : ℕ) (xs : List Section) (n : ℕ) → i + length xs ≤ 5 → section_of (section_kind_from i xs n) < 5
unfolding section_kind_from
look-within i [] n h = lit< tt
look-within i (x ∷ xs) n h = choice (eqb n x.line_subtype) _ _ (omega arith) (choice (eqb n x.balance_subtype) _ _ (omega arith) (look-within (i + 1) xs n (omega arith)))

kind-within : (t : RecordType) (d : Digits) → section_of (kind_of t d) < 5
unfolding payment_kind
kind-within F4 d = lit< tt
kind-within T10 d = lit< tt
kind-within T20 d = lit< tt
kind-within T40 (Number n) = look-within 0 sections n (lit≤ tt)
kind-within T40 (NonDigit i) = lit< tt
kind-within T40 TooLong = lit< tt
kind-within T50 (Number n) = choice (eqb n 1) _ _ (lit< tt) (choice (eqb n 2) _ _ (lit< tt) (choice (eqb n 3) _ _ (lit< tt) (lit< tt)))
kind-within T50 (NonDigit i) = lit< tt
kind-within T50 TooLong = lit< tt
kind-within EF d = lit< tt
kind-within NoType d = lit< tt

-- the section of a record is in the table
pub section-within : (r : List ℕ) → section_of (kind_in r) < 5
unfolding kind_in
section-within r = kind-within (type_in r) (subtype_in r)

-- a line is of a section of the table
pub line-within : (r : List ℕ) (s : ℕ) → kind_in r ≡ Line s → s < 5
line-within r s e = rw e at (section-within r)
