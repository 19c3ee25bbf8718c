-- Believed. The kind of a record, from its type at 2-3 and its subtype at 11-12.
use Rattle.std.specs.Prelude.{ℕ, ◌+◌, Bool, true, false, cond, List, [], ◌∷◌, eqb, get_or, take, drop}
use Rattle.text.specs.Answers.{Digits, Number, NonDigit, TooLong}
use Rattle.text.specs.Numbers.{number_of}
use Rattle.layout.specs.declared.Section.{Section}
use Rattle.layout.specs.declared.RecordType.{RecordType}
use Rattle.layout.specs.declared.RecordType.TheVariants.{F4, T10, T20, T40, T50, EF, NoType}
use Rattle.layout.specs.declared.Kind.{Kind}
use Rattle.layout.specs.declared.Kind.TheVariants.{Head, Taxpayer, Domicile, Line, Balance, Payment, Receipt, Addressee, Tail, Unknown}
use Rattle.layout.specs.Sections.{sections, at}

-- two characters are x and y
unfoldable pub same : ℕ → ℕ → ℕ → ℕ → Bool
same a b x y = cond (eqb a x) (eqb b y) false

-- "All records: type at 2-3": the characters F4, 10, 20, 40, 50, EF
unfoldable pub type_of : ℕ → ℕ → RecordType
type_of a b =
    cond (same a b 70 52) F4
    (cond (same a b 49 48) T10
    (cond (same a b 50 48) T20
    (cond (same a b 52 48) T40
    (cond (same a b 53 48) T50
    (cond (same a b 69 70) EF NoType)))))

-- what a subtype names in the row of section i; what the rows below give where it names nothing here
abbrev pub in_row : ℕ → Section → ℕ → Kind → Kind
in_row i x n below = cond (eqb n x.line_subtype) (Line i) (cond (eqb n x.balance_subtype) (Balance i) below)

-- the line or the balance with this subtype, of the sections from the i-th on
unfoldable pub section_kind_from : ℕ → List Section → ℕ → Kind
section_kind_from i [] n = Unknown
section_kind_from i (x ∷ xs) n = in_row i x n (section_kind_from (i + 1) xs n)

-- "Section | Line | Balance": the records of type 40
abbrev pub section_kind : ℕ → Kind
section_kind n = section_kind_from 0 sections n

-- 50-01, 50-02 and 50-03
unfoldable pub payment_kind : ℕ → Kind
payment_kind n = cond (eqb n 1) Payment (cond (eqb n 2) Receipt (cond (eqb n 3) Addressee Unknown))

-- what a subtype names, where it is a number
abbrev pub named : (ℕ → Kind) → Digits → Kind
named f (Number n) = f n
named f (NonDigit i) = Unknown
named f TooLong = Unknown

-- the kind of a record of a type, with a subtype
abbrev pub kind_of : RecordType → Digits → Kind
kind_of F4 d = Head
kind_of T10 d = Taxpayer
kind_of T20 d = Domicile
kind_of T40 d = named section_kind d
kind_of T50 d = named payment_kind d
kind_of EF d = Tail
kind_of NoType d = Unknown

-- "type at 2-3"
abbrev pub type_in : List ℕ → RecordType
type_in r = type_of (get_or r (at 2) 0) (get_or r (at 3) 0)

-- "Records 40 and 50: subtype at 11-12"
abbrev pub subtype_in : List ℕ → Digits
subtype_in r = number_of (take 2 (drop (at 11) r))

-- the kind of a record
unfoldable pub kind_in : List ℕ → Kind
kind_in r = kind_of (type_in r) (subtype_in r)

-- one value for a line of section s, and another for a record of any other kind
abbrev pub of_line : {A : Type 0} → A → (ℕ → A) → Kind → A
of_line other f Head = other
of_line other f Taxpayer = other
of_line other f Domicile = other
of_line other f (Line s) = f s
of_line other f (Balance s) = other
of_line other f Payment = other
of_line other f Receipt = other
of_line other f Addressee = other
of_line other f Tail = other
of_line other f Unknown = other

-- one value for the balance of section s, and another for a record of any other kind
abbrev pub of_balance : {A : Type 0} → A → (ℕ → A) → Kind → A
of_balance other f Head = other
of_balance other f Taxpayer = other
of_balance other f Domicile = other
of_balance other f (Line s) = other
of_balance other f (Balance s) = f s
of_balance other f Payment = other
of_balance other f Receipt = other
of_balance other f Addressee = other
of_balance other f Tail = other
of_balance other f Unknown = other

-- one value for a record 10, and another for a record of any other kind
abbrev pub of_taxpayer : {A : Type 0} → A → A → Kind → A
of_taxpayer other x Head = other
of_taxpayer other x Taxpayer = x
of_taxpayer other x Domicile = other
of_taxpayer other x (Line s) = other
of_taxpayer other x (Balance s) = other
of_taxpayer other x Payment = other
of_taxpayer other x Receipt = other
of_taxpayer other x Addressee = other
of_taxpayer other x Tail = other
of_taxpayer other x Unknown = other

-- one value for a record 50-01, and another for a record of any other kind
abbrev pub of_payment : {A : Type 0} → A → A → Kind → A
of_payment other x Head = other
of_payment other x Taxpayer = other
of_payment other x Domicile = other
of_payment other x (Line s) = other
of_payment other x (Balance s) = other
of_payment other x Payment = x
of_payment other x Receipt = other
of_payment other x Addressee = other
of_payment other x Tail = other
of_payment other x Unknown = other

-- "all records of a delega carry its number"
unfoldable pub numbered : Kind → Bool
numbered Head = false
numbered Taxpayer = true
numbered Domicile = true
numbered (Line s) = true
numbered (Balance s) = true
numbered Payment = true
numbered Receipt = true
numbered Addressee = true
numbered Tail = false
numbered Unknown = false
