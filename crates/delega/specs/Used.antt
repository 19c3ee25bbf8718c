-- Believed. What the open delega uses: how many lines, and which of the five sections, as one number with one bit per section.
use Rattle.std.specs.Prelude.{ℕ, ◌+◌, List, [], ◌∷◌, get_or}
use Rattle.std.specs.Int.Bits.{bit_or}
use Rattle.std.specs.Int.Count.{ones, count_trailing_zeros}
use Rattle.layout.specs.declared.Kind.{Kind}
use Rattle.layout.specs.Kinds.{of_line, of_taxpayer}
use Rattle.delega.specs.declared.used.Used.{Used}

-- "1, 2, 4, 8, 16 .., in 01's order": the bits of the sections
abbrev pub section_bits : List ℕ
section_bits = 1 ∷ 2 ∷ 4 ∷ 8 ∷ 16 ∷ []

-- the bit of section s
unfoldable pub bit_of : ℕ → ℕ
bit_of s = get_or section_bits s 0

-- no line, and no section
abbrev pub none_used : Used
none_used = record { lines = 0; set = 0 }

-- one more line, of section s, whose bit is in the set from then on
abbrev pub used_with : Used → ℕ → Used
used_with u s = record { lines = u.lines + 1; set = bit_or u.set (bit_of s) }

-- "The summary of a flow, and of one delega, gains the line count; a delega's gains that set": a record 10 opens a delega, and each line counts in it
abbrev pub next_used : Used → Kind → Used
next_used u k = of_taxpayer (of_line u (used_with u) k) none_used k

-- "and its size": "ones count gives the number used"
unfoldable pub size_of : ℕ → ℕ
size_of set = ones set

-- "trailing zeros the first one"
unfoldable pub first_of : ℕ → ℕ
first_of set = count_trailing_zeros 64 set
