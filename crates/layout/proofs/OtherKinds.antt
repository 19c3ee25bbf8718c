-- A record that is not of the kind that a definition singles out has the definition's other value: one law for each such kind.
use Prim.Native.Nat.{ℕ}
use mathlib.Core.Path.{◌≡◌, refl}
use mathlib.Core.List.{List, [], ◌∷◌}
use types.Run.{OneOf, miss}
use denote.Enum.Declared.{tag_of}
use Rattle.layout.specs.contracts.Kind.{the_type}
use Rattle.layout.specs.declared.Kind.{Kind}
use Rattle.layout.specs.declared.Kind.TheVariants.{Head, Taxpayer, Domicile, Line, Balance, Payment, Receipt, Addressee, Tail, Unknown}
use Rattle.layout.specs.Kinds.{of_line, of_taxpayer, of_payment}

-- a record that is no line, by the tags of the other kinds
abbrev pub but-line : List ℕ
but-line = 0 ∷ 1 ∷ 2 ∷ 4 ∷ 5 ∷ 6 ∷ 7 ∷ 8 ∷ 9 ∷ []

pub no_line : {A : Type 0} (other : A) (x : ℕ → A) (k : Kind) → OneOf but-line (tag_of the_type k) → of_line other x k ≡ other
no_line other x Head t = refl
no_line other x Taxpayer t = refl
no_line other x Domicile t = refl
no_line other x (Line s) t = absurd (miss but-line 3 tt t)
no_line other x (Balance s) t = refl
no_line other x Payment t = refl
no_line other x Receipt t = refl
no_line other x Addressee t = refl
no_line other x Tail t = refl
no_line other x Unknown t = refl

-- a record that is no record 10, by the tags of the other kinds
abbrev pub but-taxpayer : List ℕ
but-taxpayer = 0 ∷ 2 ∷ 3 ∷ 4 ∷ 5 ∷ 6 ∷ 7 ∷ 8 ∷ 9 ∷ []

pub no-taxpayer : {A : Type 0} (other : A) (x : A) (k : Kind) → OneOf but-taxpayer (tag_of the_type k) → of_taxpayer other x k ≡ other
no-taxpayer other x Head t = refl
no-taxpayer other x Taxpayer t = absurd (miss but-taxpayer 1 tt t)
no-taxpayer other x Domicile t = refl
no-taxpayer other x (Line s) t = refl
no-taxpayer other x (Balance s) t = refl
no-taxpayer other x Payment t = refl
no-taxpayer other x Receipt t = refl
no-taxpayer other x Addressee t = refl
no-taxpayer other x Tail t = refl
no-taxpayer other x Unknown t = refl

-- a record that is no 50-01, by the tags of the other kinds
abbrev pub but-payment : List ℕ
but-payment = 0 ∷ 1 ∷ 2 ∷ 3 ∷ 4 ∷ 6 ∷ 7 ∷ 8 ∷ 9 ∷ []

pub no-payment : {A : Type 0} (other : A) (x : A) (k : Kind) → OneOf but-payment (tag_of the_type k) → of_payment other x k ≡ other
no-payment other x Head t = refl
no-payment other x Taxpayer t = refl
no-payment other x Domicile t = refl
no-payment other x (Line s) t = refl
no-payment other x (Balance s) t = refl
no-payment other x Payment t = absurd (miss but-payment 5 tt t)
no-payment other x Receipt t = refl
no-payment other x Addressee t = refl
no-payment other x Tail t = refl
no-payment other x Unknown t = refl
