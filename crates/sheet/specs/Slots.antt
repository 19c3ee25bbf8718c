-- Believed. The slots of a sheet: what is written in a record's type and subtype where it is of its slot's kind, and refusal 4 where it is not.
use Rattle.std.specs.Prelude.{ℕ, cond, List, [], ◌∷◌, length, take, drop, replicate}
use Rattle.text.specs.Numbers.{digits_of}
use Rattle.text.specs.Placing.{put_at}
use Rattle.layout.specs.declared.Kind.{Kind}
use Rattle.layout.specs.declared.Kind.TheVariants.{Head, Taxpayer, Domicile, Line, Balance, Payment, Receipt, Addressee, Tail, Unknown}
use Rattle.layout.specs.Sections.{at, section_at}
use Rattle.refusal.specs.Outcomes.{Outcome, Pass, Fails}
use Rattle.amounts.specs.Names.{same_bytes}

-- "type at 2-3": F4, 10, 20, 40, 50, EF; spaces, which are no type, for no kind
unfoldable pub type_text : Kind → List ℕ
type_text Head = 70 ∷ 52 ∷ []
type_text Taxpayer = 49 ∷ 48 ∷ []
type_text Domicile = 50 ∷ 48 ∷ []
type_text (Line s) = 52 ∷ 48 ∷ []
type_text (Balance s) = 52 ∷ 48 ∷ []
type_text Payment = 53 ∷ 48 ∷ []
type_text Receipt = 53 ∷ 48 ∷ []
type_text Addressee = 53 ∷ 48 ∷ []
type_text Tail = 69 ∷ 70 ∷ []
type_text Unknown = 32 ∷ 32 ∷ []

-- "Records 40 and 50: subtype at 11-12"; the others have none
unfoldable pub subtype_text : Kind → List ℕ
subtype_text Head = []
subtype_text Taxpayer = []
subtype_text Domicile = []
subtype_text (Line s) = digits_of 2 (section_at s).line_subtype
subtype_text (Balance s) = digits_of 2 (section_at s).balance_subtype
subtype_text Payment = digits_of 2 1
subtype_text Receipt = digits_of 2 2
subtype_text Addressee = digits_of 2 3
subtype_text Tail = []
subtype_text Unknown = []

-- "4 for a record not of its slot's kind": at 2 where its type is not the slot's, else at 11
unfoldable pub slot_fault : Kind → List ℕ → Outcome
slot_fault k r =
    cond (same_bytes (take 2 (drop (at 2) r)) (type_text k))
    (cond (same_bytes (take (length (subtype_text k)) (drop (at 11) r)) (subtype_text k)) Pass (Fails 4 11))
    (Fails 4 2)

-- "The writer makes the balance records (columns that 01 doesn't name are spaces)": before its number and its sums are filled, section x's has its type and its subtype
unfoldable pub made_balance : ℕ → List ℕ
made_balance x = put_at (at 11) (subtype_text (Balance x)) (put_at (at 2) (type_text (Balance x)) (replicate 120 32))
