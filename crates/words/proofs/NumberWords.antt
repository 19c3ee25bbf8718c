-- Laws of the word of a number in eight digits: beside a field of seven digits it says whether the field holds the number.
use Prim.Native.Nat.{ℕ, zero, suc, ◌+◌, ◌/◌, ◌%◌, ◌^◌, ◌<◌, ◌≤◌}
use mathlib.Core.Path.{◌≡◌, sym, ap, ◌∙◌}
use mathlib.Core.List.{List, [], ◌∷◌, ◌++◌}
use native.Mathlib.Omega.{arith}
use native.Mathlib.Nat.{pow-suc}
use lib.ListN.{length, take, drop, get_or}
use Rattle.text.specs.Answers.{Allowed, Number}
use Rattle.text.specs.Characters.{first_bad}
use Rattle.text.specs.Numbers.{number_of, digits_of}
use Rattle.words.specs.Words.{word}
use Rattle.text.proofs.Bytes.{drop-one, part_length}
use Rattle.text.proofs.Allowed.{allowed-digits}
use Rattle.text.proofs.Numerals.{number_digits, length_digits, digits-of-number}
use Rattle.words.proofs.Fields.{allowed-at-most, at-most-part, word-inj}

-- One digit more than a number needs is a zero in front.
digits_more : (w n : ℕ) → n < 10 ^ w → digits_of (suc w) n ≡ 48 ∷ digits_of w n
unfolding digits_of
digits_more zero n h = rw (let e : n ≡ 0 = omega arith in e)
digits_more (suc w) n h = ap (λ (l : List ℕ). l ++ ((48 + n % 10) ∷ [])) (digits_more w (n / 10) (omega (arith, rw pow-suc at h)))

-- Eight bytes of a list are the first of them and seven.
eight-seven : (l : List ℕ) (i : ℕ) → i + 8 ≤ length l → take 8 (drop i l) ≡ get_or l i 0 ∷ take 7 (drop (i + 1) l)
eight-seven l i h = rw (drop-one l i (omega arith))

-- Eight characters with the word of a number end with seven that say the number.
pub same_number : (l : List ℕ) (i d : ℕ) → first_bad l ≡ Allowed → i + 8 ≤ length l → d < 1000 → word (take 8 (drop i l)) ≡ word (digits_of 8 d) → number_of (take 7 (drop (i + 1) l)) ≡ Number d
same_number l i d ok h k e =
    let n : length (take 8 (drop i l)) ≡ 8 = part_length 8 i l h in
    let s : take 8 (drop i l) ≡ digits_of 8 d = word-inj (omega arith) (take 8 (drop i l)) (digits_of 8 d) (at-most-part 127 8 i l (allowed-at-most l ok)) (allowed-at-most (digits_of 8 d) (allowed-digits 8 d)) (n ∙ sym (length_digits 8 d)) e in
    let t : get_or l i 0 ∷ take 7 (drop (i + 1) l) ≡ 48 ∷ digits_of 7 d = sym (eight-seven l i h) ∙ (s ∙ digits_more 7 d (omega arith)) in
    let u : take 7 (drop (i + 1) l) ≡ digits_of 7 d = cc in
    rw u (number_digits 7 d (omega arith))

-- A zero and seven digits that say a number have the number's word.
pub other-number : (l : List ℕ) (i d : ℕ) → i + 8 ≤ length l → d < 1000 → get_or l i 0 ≡ 48 → number_of (take 7 (drop (i + 1) l)) ≡ Number d → word (take 8 (drop i l)) ≡ word (digits_of 8 d)
other-number l i d h k z e =
    let n : length (take 7 (drop (i + 1) l)) ≡ 7 = part_length 7 (i + 1) l (omega arith) in
    let s : digits_of 7 d ≡ take 7 (drop (i + 1) l) = digits-of-number 7 d (take 7 (drop (i + 1) l)) n e in
    let t = eight-seven l i h in
    let u = digits_more 7 d (omega arith) in
    ap word (cc)
