-- Believed. What the programs print: document 01's lines as bytes, and what printing leaves in a room that is lent for them.
use Rattle.std.specs.Prelude.{ℕ, ◌+◌, ◌≤◌, ◌≡◌, List, [], ◌∷◌, ◌++◌, cond, leb, length, take}
use Rattle.text.specs.Numbers.{digits_of}
use Rattle.text.specs.Placing.{put_at}
use Rattle.printing.specs.Decimal as Printing
use Rattle.layout.specs.Sections.{section_at}
use Rattle.amounts.specs.declared.Sums.{Sums}
use Rattle.judge.specs.declared.Summary.{Summary}
use Rattle.judge.specs.declared.Judgement.{Judgement}
use Rattle.judge.specs.Refusal.{judged_first}
use Rattle.delega.specs.declared.DelegaAnswer.{DelegaAnswer}

-- "One space stands between fields"
abbrev pub space : ℕ
space = 32

-- "each line ended by one LF"
abbrev pub line_end : ℕ
line_end = 10

-- "without leading zeros": the number of digits that a number has
abbrev pub width_of : ℕ → ℕ
width_of n = Printing.width_of n

-- "prints decimal numbers without leading zeros"
abbrev pub decimal : ℕ → List ℕ
decimal n = Printing.decimal n

-- "One space stands between fields": a number and the byte after it
unfoldable pub field_text : ℕ → ℕ → List ℕ
field_text n after = decimal n ++ (after ∷ [])

-- "each line ended by one LF": the last two numbers of a line
unfoldable pub pair_text : ℕ → ℕ → List ℕ
pair_text a b = field_text a space ++ field_text b line_end

-- "per section, the line's subtype in two digits, debit sum, credit sum"
unfoldable pub section_text : ℕ → Sums → List ℕ
section_text i s = digits_of 2 (section_at i).line_subtype ++ (space ∷ pair_text s.debit s.credit)

-- "Then, per section": the lines of the sections from the i-th on
unfoldable pub sections_from : ℕ → List Sums → List ℕ
sections_from i [] = []
sections_from i (s ∷ ss) = section_text i s ++ sections_from (i + 1) ss

-- "the debit and credit sums for each of the five sections"
unfoldable pub sections_text : List Sums → List ℕ
sections_text l = sections_from 0 l

-- "ACCEPTED" and a space
abbrev pub accepted_word : List ℕ
accepted_word = 65 ∷ 67 ∷ 67 ∷ 69 ∷ 80 ∷ 84 ∷ 69 ∷ 68 ∷ space ∷ []

-- "REFUSED" and a space
abbrev pub refused_word : List ℕ
refused_word = 82 ∷ 69 ∷ 70 ∷ 85 ∷ 83 ∷ 69 ∷ 68 ∷ space ∷ []

-- "For one delega its final balance and its ten section sums are given": DELEGA and a space
abbrev pub delega_word : List ℕ
delega_word = 68 ∷ 69 ∷ 76 ∷ 69 ∷ 71 ∷ 65 ∷ space ∷ []

-- "A found line is handed back as that record": LINE and a space
abbrev pub line_word : List ℕ
line_word = 76 ∷ 73 ∷ 78 ∷ 69 ∷ space ∷ []

-- "First line: deleghe, records, sum of final balances", and "the line count as a fourth number". "Then, per section"
unfoldable pub accepted_text : Summary → List ℕ
accepted_text s = accepted_word ++ (field_text s.deleghe space ++ (field_text s.records space ++ (pair_text s.total s.lines ++ sections_text s.sums)))

-- "A refusal prints one line: REFUSED, number, record, position"
unfoldable pub refused_text : ℕ → ℕ → ℕ → List ℕ
refused_text n r p = refused_word ++ (field_text n space ++ pair_text r p)

-- "For one delega its final balance and its ten section sums are given", and the line count, the set of sections "as one number" and "its size": the delega's number, these, and per section its sums
unfoldable pub answered_text : ℕ → DelegaAnswer → List ℕ
answered_text n a = delega_word ++ (field_text n space ++ (field_text a.balance space ++ (field_text a.lines space ++ (pair_text a.set a.size ++ sections_text a.sums))))

-- "A found line is handed back as that record": the record's number, counted from 1
unfoldable pub line_text : ℕ → List ℕ
line_text r = line_word ++ field_text r line_end

-- "The judging program reads standard input .. and prints": the text of a judgement
unfoldable pub judgement_text : Judgement → List ℕ
judgement_text j = judged_first refused_text j.verdict (accepted_text j.summary)

-- "Every call on a flow judges it first and gives that refusal if there is one": the text of the answer for the delega with a number
unfoldable pub delega_text : ℕ → DelegaAnswer → List ℕ
delega_text n a = judged_first refused_text a.verdict (answered_text n a)

-- "Every refusal leaves lent memory as it came; a call that succeeds leaves so the lent room past what it writes": the text stands at
-- the start of a room of 512 bytes or more, and a shorter room stays
unfoldable pub printed_bytes : List ℕ → List ℕ → List ℕ
printed_bytes t r = cond (leb 512 (length r)) (put_at 0 t r) r

-- "prints decimal numbers .., each line ended by one LF": how many bytes are printed, and 0 in a room of fewer than 512 bytes
unfoldable pub printed_size : List ℕ → List ℕ → ℕ
printed_size t r = cond (leb 512 (length r)) (length t) 0

-- "a call that succeeds leaves so the lent room past what it writes": printing t into r leaves r' and answers n, at most 512 bytes
pub record Printed (t r r' : List ℕ) (n : ℕ) : Type 0 where
  pub bytes : r' ≡ printed_bytes t r
  pub size : n ≡ printed_size t r
  pub short : n ≤ 512
  pub within : n ≤ length r'
  pub counts : n ≡ length (take n r')
