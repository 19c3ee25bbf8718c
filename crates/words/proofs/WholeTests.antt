-- The tests of eight bytes at once, which the code makes of a whole word.
use Prim.Native.Nat.{ℕ, ◌+◌}
use lib.Bits.{bit_and, bit_xor}

-- The top bits of a word of eight bytes.
abbrev pub tops_of : ℕ → ℕ
tops_of w = bit_and w 0x8080_8080_8080_8080

-- The test of a word: 0 where each of its eight characters is a digit.
abbrev pub test_of : ℕ → ℕ
test_of w = bit_and (bit_xor w 0x3030_3030_3030_3030 + 0x7676_7676_7676_7676) 0x8080_8080_8080_8080
