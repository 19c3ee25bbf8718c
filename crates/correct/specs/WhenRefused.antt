-- For theorems. What a correction answers and when, in the words of document 01: over the plain records of the flow, and by plain sums over those of the flow with
-- the line's amounts replaced.
use Rattle.std.specs.Prelude.{ℕ, ◌-◌, ◌<◌, ◌≡◌, true, false, List, ◌⊎◌}
use Rattle.layout.specs.Sections.{section_at}
use Rattle.amounts.specs.Amounts.{apart, line_right}
use Rattle.judge.specs.Refusal as Judged
use Rattle.judge.specs.Flow.{records_of, judged}
use Rattle.judge.specs.Plain.{Debit, Credit, lines_in}
use Rattle.delega.specs.PlainDelega as Delega
use Rattle.find.specs.NamedLine.{NthLine}
use Rattle.correct.specs.Answers.{Correction, Made, Refused}
use Rattle.correct.specs.Correction.{section_of}
use Rattle.correct.specs.Effect.{with_amounts}

-- 21, "no such delega, section or line": some record is the line that is named, or none is
abbrev pub HasLine : List ℕ → ℕ → ℕ → ℕ → Type 0
HasLine f d subtype n = (k : ℕ) × NthLine f d subtype n k

-- 22, "has more digits than its field (with fifteen: above 999,999,999,999,999)"
abbrev pub Large : ℕ → Type 0
Large v = 999_999_999_999_999 < v

-- 14, "delega negative": "The final balance is all its debits less all its credits. Zero is allowed, negative is not"
abbrev pub Negative : ℕ → List (List ℕ) → Type 0
Negative d rs = Delega.lines_of d Debit rs < Delega.lines_of d Credit rs

-- 23, "a new stored total, balance or sum has more digits than its field", of a line of section s in delega d:
-- "Total debit and total credit are the sums over the section's lines", where the section stores totals; "The balance is their difference without sign"; "The final balance is all its
-- debits less all its credits"; "the sum of all final balances", which is all debits of the flow less all its credits
pub data Overflows (d s : ℕ) (rs : List (List ℕ)) : Type 0 where
  TotalDebit : (section_at s).totals ≡ true → Large (Delega.section_of d Debit s rs) → Overflows d s rs
  TotalCredit : (section_at s).totals ≡ true → Large (Delega.section_of d Credit s rs) → Overflows d s rs
  SectionBalance : Large (apart (Delega.section_of d Debit s rs) (Delega.section_of d Credit s rs)) → Overflows d s rs
  FinalBalance : Large (Delega.lines_of d Debit rs - Delega.lines_of d Credit rs) → Overflows d s rs
  TailSum : Large (lines_in Debit rs - lines_in Credit rs) → Overflows d s rs

-- "A correction then tries 21, 22, 9, 14, 23 in this order", of the n-th line of a subtype in delega d: 22 is tried where the flow is accepted and has the line
pub record Tried22 (f : List ℕ) (d subtype n : ℕ) : Type 0 where
  pub accepted : (judged f).verdict ≡ Judged.Accepted
  pub line : HasLine f d subtype n

-- and the others, of new amounts x and y
module _ (f : List ℕ) (d subtype n x y : ℕ) where
  -- the records with the line's amounts replaced
  abbrev pub new_records : List (List ℕ)
  new_records = records_of (with_amounts f d subtype n x y)

  -- 9 is tried where 22 does not hold
  pub record Tried9 : Type 0 where
    pub before : Tried22 f d subtype n
    pub debit-fits : Large x → ⊥
    pub credit-fits : Large y → ⊥

  -- 14 is tried where the new amounts keep the line rule
  pub record Tried14 : Type 0 where
    pub before : Tried9
    pub right : line_right (section_of subtype) x y ≡ true

  -- 23 is tried where the line's delega is not negative
  pub record Tried23 : Type 0 where
    pub before : Tried14
    pub not_negative : Negative d new_records → ⊥

  -- None of the refusals holds: that of the flow, 21, 22, 9, 14 and 23.
  pub record MayBeMade : Type 0 where
    pub before : Tried23
    pub all-fits : Overflows d (section_of subtype) new_records → ⊥

  -- what is answered: the flow's refusal, "Its 9 and 14 carry record 0, position 0", and so do 21, 22 and 23
  pub data Answers : Correction → Type 0 where
    AsFlow : {m r p : ℕ} → (judged f).verdict ≡ Judged.Refused m r p → Answers (Refused m r p)
    NoLine : (judged f).verdict ≡ Judged.Accepted → (HasLine f d subtype n → ⊥) → Answers (Refused 21 0 0)
    TooLarge : Tried22 f d subtype n → Large x ⊎ Large y → Answers (Refused 22 0 0)
    WrongLine : Tried9 → line_right (section_of subtype) x y ≡ false → Answers (Refused 9 0 0)
    TurnsNegative : Tried14 → Negative d new_records → Answers (Refused 14 0 0)
    HasNoRoom : Tried23 → Overflows d (section_of subtype) new_records → Answers (Refused 23 0 0)
    IsMade : MayBeMade → Answers Made
