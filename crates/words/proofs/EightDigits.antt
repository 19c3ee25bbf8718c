-- Laws of eight digits read at once: the test that each is a digit, and the arithmetic on their whole word.
use Prim.Native.Nat.{ℕ, zero, suc, ◌+◌, ◌-◌, ◌*◌, ◌/◌, ◌%◌, ◌^◌, ◌<◌, ◌≤◌}
use mathlib.Core.Path.{◌≡◌, refl, sym, ap, ◌∙◌}
use mathlib.Core.List.{List, [], ◌∷◌}
use native.Mathlib.Omega.{arith}
use lib.Bits.{bit_and, bit_xor, and_block, xor_block, and_high, and_mask, xor_add_and, xor_lt, and_le_l}
use lib.Dec.{lit<}
use lib.ListN.{length, replicate}
use Rattle.words.specs.Answers as Said
use Rattle.text.specs.Numbers.{number_of}
use Rattle.words.specs.Words.{word_by, word, fifteen_of, AtMost, Spelt}
use Rattle.words.specs.Words.AtMost.{also}
use Rattle.words.proofs.Fields.{word-at-most, paired, paired-length, paired-at-most, joined}
use Rattle.words.proofs.AllDigits.{AllDigits, values, values_length, values-at-most, horner, digits-say, say-none}
use Rattle.words.proofs.AllDigits.AllDigits.{no_more, one_more}
use Rattle.words.proofs.TopBits.{top-clear, clear-top}
use Rattle.words.proofs.WholeTests.{test_of}

-- The exclusive or of a digit and 48 is what the digit says.
digit-bits : (b : ℕ) → 48 ≤ b → b ≤ 57 → bit_xor b 48 ≡ b - 48
digit-bits b h j =
    let q : b / 16 % 4 ≡ 3 = ap (λ (x : ℕ). x % 4) (let e : b / 16 ≡ 3 = omega arith in e) in
    let a : bit_and b 48 ≡ b / 16 % 4 * 16 = and_high b 2 4 in
    let s = xor_add_and b 48 in
    omega arith

-- Where the exclusive or with 48 is at most 9, it is that of a digit.
bits-digit : (b : ℕ) → bit_xor b 48 ≤ 9 → (48 ≤ b) × (b ≤ 57)
bits-digit b h =
    let a : bit_and b 48 ≡ b / 16 % 4 * 16 = and_high b 2 4 in
    let s = xor_add_and b 48 in
    let l = and_le_l b 48 in
    (omega arith, omega arith)

-- What the test leaves of each character: 0 for a digit, and 128 for another.
abbrev flags : List ℕ → List ℕ
flags [] = []
flags (b ∷ bs) = bit_and (bit_xor b 48 + 118) 128 ∷ flags bs

-- The test of as many characters as a list has.
abbrev pub tested : ℕ → ℕ → ℕ
tested n w = bit_and (bit_xor w (word (replicate n 48)) + word (replicate n 118)) (word (replicate n 128))

-- The test works on each character by itself.
test-each : (l : List ℕ) → AtMost 127 l → tested (length l) (word l) ≡ word (flags l)
unfolding word_by
test-each [] p = refl
test-each (b ∷ bs) (also h p) =
    let n = length bs in
    let low : bit_xor b 48 < 128 = xor_lt 7 b 48 (omega arith) (omega arith) in
    let x = xor_block 8 (word bs) (word (replicate n 48)) b 48 (omega arith) (omega arith) in
    let s : bit_xor (word bs * 2 ^ 8 + b) (word (replicate n 48) * 2 ^ 8 + 48) + (word (replicate n 118) * 2 ^ 8 + 118) ≡ (bit_xor (word bs) (word (replicate n 48)) + word (replicate n 118)) * 2 ^ 8 + (bit_xor b 48 + 118) = omega arith in
    ap (λ (t : ℕ). bit_and t (word (replicate n 128) * 2 ^ 8 + 128)) s
    ∙ (and_block 8 (bit_xor (word bs) (word (replicate n 48)) + word (replicate n 118)) (word (replicate n 128)) (bit_xor b 48 + 118) 128 (omega arith) (omega arith)
    ∙ ap (λ (t : ℕ). t * 2 ^ 8 + bit_and (bit_xor b 48 + 118) 128) (test-each bs p))

-- Digits leave nothing.
digits-clear : (l : List ℕ) → AllDigits l → word (flags l) ≡ 0
unfolding word_by
digits-clear [] p = refl
digits-clear (b ∷ bs) (one_more h j p) =
    let e = digits-clear bs p in
    let x = digit-bits b h j in
    let f = top-clear (bit_xor b 48 + 118) (omega arith) in
    omega arith

-- Where nothing is left, all are digits.
clear-digits : (l : List ℕ) → AtMost 127 l → word (flags l) ≡ 0 → AllDigits l
unfolding word_by
clear-digits [] p e = no_more
clear-digits (b ∷ bs) (also h p) e =
    let low : bit_xor b 48 < 128 = xor_lt 7 b 48 (omega arith) (omega arith) in
    let t = clear-top (bit_xor b 48 + 118) (omega arith) (omega arith) in
    let d = bits-digit b (omega arith) in
    one_more d.0 d.1 (clear-digits bs p (omega arith))

-- The exclusive or of a word of characters and 48 in each place stays small enough for the test's sum.
xor-at-most : (l : List ℕ) → AtMost 127 l → bit_xor (word l) (word (replicate (length l) 48)) ≤ word (replicate (length l) 127)
unfolding word_by
xor-at-most [] p = omega arith
xor-at-most (b ∷ bs) (also h p) =
    let low : bit_xor b 48 < 128 = xor_lt 7 b 48 (omega arith) (omega arith) in
    let x = xor_block 8 (word bs) (word (replicate (length bs) 48)) b 48 (omega arith) (omega arith) in
    let r = xor-at-most bs p in
    omega arith

-- The exclusive or of a word of digits and 48 in each place is the word of what they say.
xor-digits : (l : List ℕ) → AllDigits l → bit_xor (word l) (word (replicate (length l) 48)) ≡ word (values l)
unfolding word_by
xor-digits [] p = refl
xor-digits (b ∷ bs) (one_more h j p) =
    xor_block 8 (word bs) (word (replicate (length bs) 48)) b 48 (omega arith) (omega arith)
    ∙ (ap (λ (t : ℕ). t * 2 ^ 8 + bit_xor b 48) (xor-digits bs p) ∙ ap (λ (t : ℕ). word (values bs) * 2 ^ 8 + t) (digit-bits b h j))

-- Digits of base f in pairs are digits of base f * f.
horner-paired : (f n : ℕ) (l : List ℕ) (a : ℕ) → length l ≡ n + n → horner (f * f) a (paired f l) ≡ horner f a l
horner-paired f n [] a e = refl
horner-paired f n (x ∷ []) a e = absurd (omega arith)
horner-paired f zero (x ∷ y ∷ l) a e = absurd (omega arith)
horner-paired f (suc n) (x ∷ y ∷ l) a e =
    let s : a * (f * f) + (x * f + y) ≡ (a * f + x) * f + y = omega arith in
    rw s (horner-paired f n l ((a * f + x) * f + y) (omega arith))

-- The one field of a word of one is what it says.
one_field : (k f : ℕ) (l : List ℕ) → length l ≡ 1 → word_by k l ≡ horner f 0 l
unfolding word_by
one_field k f [] e = absurd (omega arith)
one_field k f (x ∷ []) e = omega arith
one_field k f (x ∷ y ∷ l) e = absurd (omega arith)

-- The three steps of the reading.
abbrev pub pairs_of : ℕ → ℕ
pairs_of y = bit_and (y * 10 + y / 256) 0x00ff_00ff_00ff_00ff

abbrev pub fours_of : ℕ → ℕ
fours_of p = bit_and (p * 100 + p / 65536) 0x0000_ffff_0000_ffff

abbrev pub all_of : ℕ → ℕ
all_of f = (f * 10000 + f / 4294967296) % 4294967296

-- Eight values, side by side.
module _ (ds : List ℕ) (p : AtMost 9 ds) (e : length ds ≡ 8) where
  pairs-are : pairs_of (word ds) ≡ word_by 16 (paired 10 ds)
  unfolding word_by
  pairs-are = joined 8 10 9 (lit< tt) 4 ds p e

  fours-are : fours_of (word_by 16 (paired 10 ds)) ≡ word_by 32 (paired 100 (paired 10 ds))
  unfolding word_by
  fours-are = joined 16 100 99 (lit< tt) 2 (paired 10 ds) (paired-at-most 10 9 ds p) (paired-length 10 4 ds e)

  all_are : all_of (word_by 32 (paired 100 (paired 10 ds))) ≡ word_by 64 (paired 10000 (paired 100 (paired 10 ds)))
  unfolding word_by
  all_are =
      sym (and_mask _ 32)
      ∙ joined 32 10000 9999 (lit< tt) 1 (paired 100 (paired 10 ds)) (paired-at-most 100 99 (paired 10 ds) (paired-at-most 10 9 ds p)) (paired-length 100 2 (paired 10 ds) (paired-length 10 4 ds e))

  whole-are : word_by 64 (paired 10000 (paired 100 (paired 10 ds))) ≡ horner 10 0 ds
  whole-are =
      let a = paired-length 10 4 ds e in
      let b = paired-length 100 2 (paired 10 ds) a in
      one_field 64 100000000 (paired 10000 (paired 100 (paired 10 ds))) (paired-length 10000 1 (paired 100 (paired 10 ds)) b)
      ∙ (horner-paired 10000 1 (paired 100 (paired 10 ds)) 0 b ∙ (horner-paired 100 2 (paired 10 ds) 0 a ∙ horner-paired 10 4 ds 0 e))

-- A word of eight characters.
module _ (w : ℕ) (s : Spelt w) where
  -- The exclusive or leaves the test's sum room.
  pub eight-room : bit_xor w 0x3030_3030_3030_3030 ≤ 0x7f7f_7f7f_7f7f_7f7f
  unfolding word_by
  eight-room = rw (s.eight, ← s.whole) at (xor-at-most s.chars s.fine)

  tested-is : test_of w ≡ word (flags s.chars)
  unfolding word_by
  tested-is = rw (s.eight, ← s.whole) at (test-each s.chars s.fine)

  -- Where the test fails, one of the eight is no digit.
  pub eight-none : (test_of w ≡ 0 → ⊥) → fifteen_of (number_of s.chars) ≡ Said.NonDigit
  eight-none f = say-none s.chars (λ p. f (tested-is ∙ digits-clear s.chars p))

  module _ (t : test_of w ≡ 0) where
    digits : AllDigits s.chars
    digits = clear-digits s.chars s.fine (sym tested-is ∙ t)

    at_most : AtMost 9 (values s.chars)
    at_most = values-at-most s.chars digits

    eight : length (values s.chars) ≡ 8
    eight = values_length s.chars ∙ s.eight

    lanes-are : bit_xor w 0x3030_3030_3030_3030 ≡ word (values s.chars)
    unfolding word_by
    lanes-are = rw (s.eight, ← s.whole) at (xor-digits s.chars digits)

    -- What each step leaves has room for the next.
    pub eight-lanes : bit_xor w 0x3030_3030_3030_3030 ≤ 0x0909_0909_0909_0909
    unfolding word_by
    eight-lanes = rw lanes-are (rw eight at (word-at-most 8 9 (values s.chars) at_most))

    pub eight-pairs : pairs_of (bit_xor w 0x3030_3030_3030_3030) ≤ 0x0063_0063_0063_0063
    unfolding word_by
    eight-pairs = rw (ap pairs_of lanes-are ∙ pairs-are (values s.chars) at_most eight) (rw (paired-length 10 4 (values s.chars) eight) at (word-at-most 16 99 (paired 10 (values s.chars)) (paired-at-most 10 9 (values s.chars) at_most)))

    fours : fours_of (pairs_of (bit_xor w 0x3030_3030_3030_3030)) ≡ word_by 32 (paired 100 (paired 10 (values s.chars)))
    fours = ap fours_of (ap pairs_of lanes-are ∙ pairs-are (values s.chars) at_most eight) ∙ fours-are (values s.chars) at_most eight

    pub eight-fours : fours_of (pairs_of (bit_xor w 0x3030_3030_3030_3030)) ≤ 0x0000_270f_0000_270f
    unfolding word_by
    eight-fours =
        let ds = values s.chars in
        rw fours (rw (paired-length 100 2 (paired 10 ds) (paired-length 10 4 ds eight)) at (word-at-most 32 9999 (paired 100 (paired 10 ds)) (paired-at-most 100 99 (paired 10 ds) (paired-at-most 10 9 ds at_most))))

    -- Where the test passes, the steps read the number.
    pub eight-said : Said.Amount (all_of (fours_of (pairs_of (bit_xor w 0x3030_3030_3030_3030)))) ≡ fifteen_of (number_of s.chars)
    eight-said =
        let ds = values s.chars in
        ap Said.Amount (ap all_of fours ∙ (all_are ds at_most eight ∙ whole-are ds at_most eight)) ∙ sym (ap fifteen_of (digits-say s.chars 0 0 digits))
