-- Examples of document 01, as 02 has them, by computing: the whole text that it prints for one delega, the refusal of empty input, and the number 0; and what is printed of that delega by itself.
use Prim.Native.Nat.{ℕ}
use mathlib.Core.Path.{◌≡◌, refl}
use mathlib.Core.List.{List, [], ◌∷◌}
use Rattle.text.specs.Numbers.{digits_of}
use Rattle.layout.specs.Sections.{section_at}
use Rattle.judge.specs.Flow.{refused_with}
use Rattle.delega.proofs.Samples.{one_delega, printed_delega}
use Rattle.printing.specs.Decimal.{width_within, width_of, decimal}
use Rattle.report.specs.Printed.{field_text, pair_text, section_text, sections_from, sections_text, accepted_text, refused_text, answered_text, judgement_text, delega_text}

-- "05 10000 2500", and zeros in the four other lines
abbrev regioni_text : List ℕ
regioni_text =
    48 ∷ 49 ∷ 32 ∷ 48 ∷ 32 ∷ 48 ∷ 10
    ∷ 48 ∷ 51 ∷ 32 ∷ 48 ∷ 32 ∷ 48 ∷ 10
    ∷ 48 ∷ 53 ∷ 32 ∷ 49 ∷ 48 ∷ 48 ∷ 48 ∷ 48 ∷ 32 ∷ 50 ∷ 53 ∷ 48 ∷ 48 ∷ 10
    ∷ 48 ∷ 55 ∷ 32 ∷ 48 ∷ 32 ∷ 48 ∷ 10
    ∷ 49 ∷ 55 ∷ 32 ∷ 48 ∷ 32 ∷ 48 ∷ 10
    ∷ []

-- "it prints this whole": six lines, from `ACCEPTED 1 8 7500 2`, which 02 makes of the first, to 17 0 0
pub whole-text :
    judgement_text one_delega
    ≡ 65 ∷ 67 ∷ 67 ∷ 69 ∷ 80 ∷ 84 ∷ 69 ∷ 68 ∷ 32 ∷ 49 ∷ 32 ∷ 56 ∷ 32 ∷ 55 ∷ 53 ∷ 48 ∷ 48 ∷ 32 ∷ 50 ∷ 10 ∷ regioni_text
unfolding judgement_text accepted_text sections_text sections_from section_text pair_text field_text decimal width_of width_within digits_of section_at
whole-text = refl

-- `DELEGA 1 7500 2 4 1`: number, balance, lines, set, size; and the same five lines
pub delega-text :
    delega_text 1 printed_delega
    ≡ 68 ∷ 69 ∷ 76 ∷ 69 ∷ 71 ∷ 65 ∷ 32 ∷ 49 ∷ 32 ∷ 55 ∷ 53 ∷ 48 ∷ 48 ∷ 32 ∷ 50 ∷ 32 ∷ 52 ∷ 32 ∷ 49 ∷ 10 ∷ regioni_text
unfolding delega_text answered_text sections_text sections_from section_text pair_text field_text decimal width_of width_within digits_of section_at
delega-text = refl

-- "empty input prints `REFUSED 2 0 0`"
pub refused-empty : judgement_text (refused_with 2 0 0) ≡ 82 ∷ 69 ∷ 70 ∷ 85 ∷ 83 ∷ 69 ∷ 68 ∷ 32 ∷ 50 ∷ 32 ∷ 48 ∷ 32 ∷ 48 ∷ 10 ∷ []
unfolding judgement_text refused_text pair_text field_text decimal width_of width_within digits_of
refused-empty = refl

-- "decimal numbers without leading zeros": the number 0 is the digit 0
pub decimal-zero : decimal 0 ≡ 48 ∷ []
unfolding decimal width_of width_within digits_of
decimal-zero = refl
