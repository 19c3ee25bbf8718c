-- For theorems. The flow with a line's amounts replaced, the amounts that a line has, and what a series of calls leaves.
use Rattle.std.specs.Prelude.{ℕ, ◌-◌, ◌≡◌, List, [], ◌∷◌, get_or}
use Rattle.layout.specs.Sections.{section_at}
use Rattle.layout.specs.Fields.{amount_at, value_of}
use Rattle.judge.specs.Flow.{records_of}
use Rattle.find.specs.Line.{line_of}
use Rattle.correct.specs.Answers.{Correction, Made}
use Rattle.correct.specs.Correction.{section_of, replaced, correction_of, corrected_bytes}

-- The flow with the amounts of the line that is named replaced.
abbrev pub with_amounts : List ℕ → ℕ → ℕ → ℕ → ℕ → ℕ → List ℕ
with_amounts f d subtype n debit credit = replaced (line_of f d subtype n) (section_of subtype) debit credit f

-- The record of the line that is named.
abbrev pub record_named : List ℕ → ℕ → ℕ → ℕ → List ℕ
record_named f d subtype n = get_or (records_of f) (line_of f d subtype n - 1) []

-- Its debit and its credit.
abbrev pub debit_of : List ℕ → ℕ → ℕ → ℕ → ℕ
debit_of f d subtype n = value_of (record_named f d subtype n) (amount_at (section_at (section_of subtype)).debit)

abbrev pub credit_of : List ℕ → ℕ → ℕ → ℕ → ℕ
credit_of f d subtype n = value_of (record_named f d subtype n) (amount_at (section_at (section_of subtype)).credit)

-- One call: the line's delega, subtype and place in its section, and its new amounts.
pub record Call : Type 0 where
  pub delega : ℕ
  pub subtype : ℕ
  pub nth : ℕ
  pub debit : ℕ
  pub credit : ℕ

-- What a call on a flow is answered.
abbrev pub answer_to : List ℕ → Call → Correction
answer_to f c = correction_of f c.delega c.subtype c.nth c.debit c.credit

-- The flow after calls one after the other.
unfoldable pub after : List Call → List ℕ → List ℕ
after [] f = f
after (c ∷ cs) f = after cs (corrected_bytes f c.delega c.subtype c.nth c.debit c.credit)

-- "none is refused": each of calls one after the other is made.
abbrev pub AllMade : List ℕ → List Call → Type 0
AllMade f [] = Unit {0}
AllMade f (c ∷ cs) = (answer_to f c ≡ Made) × AllMade (after (c ∷ []) f) cs

-- Ask 13, "two clerks, two lines": the lines that two calls name differ in delega, subtype or place.
abbrev pub Different : Call → Call → Type 0
Different a b = a.delega ≡ b.delega → a.subtype ≡ b.subtype → a.nth ≡ b.nth → ⊥

-- Something holds of each of several calls, and something of each two of them.
abbrev pub EachOne : (Call → Type 0) → List Call → Type 0
EachOne P [] = Unit {0}
EachOne P (c ∷ cs) = P c × EachOne P cs

abbrev pub EachTwo : (Call → Call → Type 0) → List Call → Type 0
EachTwo R [] = Unit {0}
EachTwo R (c ∷ cs) = EachOne (R c) cs × EachTwo R cs

-- The same calls in another order.
pub data Reordered : List Call → List Call → Type 0 where
  None : Reordered [] []
  Keep : (c : Call) {cs ds : List Call} → Reordered cs ds → Reordered (c ∷ cs) (c ∷ ds)
  Swap : (a b : Call) (cs : List Call) → Reordered (a ∷ b ∷ cs) (b ∷ a ∷ cs)
  Then : {cs ds es : List Call} → Reordered cs ds → Reordered ds es → Reordered cs es
