-- Laws of the digits in a text, and of the field that a text fills: what the digits of a total's text say, and how long that text is.
use Prim.Native.Nat.{ℕ, zero, suc, ◌+◌, ◌-◌, ◌*◌, ◌/◌, ◌%◌, ◌^◌, ◌≤◌, ◌<◌}
use mathlib.Core.Path.{◌≡◌, refl, ap, ◌∙◌}
use mathlib.Core.Bool.{Bool, true, false, cond}
use mathlib.Core.List.{List, [], ◌∷◌, ◌++◌}
use native.Mathlib.Omega.{arith}
use native.Mathlib.Decide.{dec_le}
use native.Mathlib.Numerals.{add-one}
use native.Mathlib.Nat.{pow-suc}
use lib.Dec.{ltb}
use lib.ListN.{length, take, drop, replicate, get_or, length-append, length-replicate, drop_of_length-le}
use lib.Seq.{take-append-add}
use Rattle.text.specs.Numbers.{digit, digits_of}
use Rattle.text.specs.Placing.{put_at}
use Rattle.text.proofs.Bytes.{drop-one, between, within}
use Rattle.text.proofs.Numerals.{length_digits}
use Rattle.text.proofs.Puts.{put_is}
use Rattle.printing.specs.Decimal.{decimal}
use Rattle.printing.proofs.Widths.{width-enough, width-upto, width_above, length-decimal}
use Rattle.ep_total.specs.Total.{dot, comma, space, dotted_within, dotted, euro_text, total_text, total_field, with_digit, digits_in}
use Rattle.ep_total.proofs.Dotted.{short-dotted, euros-dotted, euros-plain}

-- A turn of the loop takes one byte from what is left.
pub digits-on : (l : List ℕ) (i n m : ℕ) → i < length l → m ≡ with_digit n (get_or l i 0) → digits_in n (drop i l) ≡ digits_in m (drop (i + 1) l)
unfolding digits_in
digits-on l i n m h e = rw (drop-one l i h, e)

-- Where no byte is left, the number is the one read so far.
pub digits-end : (l : List ℕ) (i n : ℕ) → length l ≤ i → digits_in n (drop i l) ≡ n
unfolding digits_in
digits-end l i n h = rw (drop_of_length-le l h)

-- A byte adds a digit at most.
pub digit-more : (i n b m : ℕ) → n < 10 ^ i → m ≡ with_digit n b → m < 10 ^ (i + 1)
unfolding with_digit
digit-more i n b m h f = rw (f, add-one, pow-suc) (go (digit b) refl)
  where
    go : (t : Bool) → digit b ≡ t → cond t (n * 10 + (b - 48)) n < 10 ^ i * 10
    go true e = let d = between 48 57 b e in omega arith
    go false e = omega arith

-- The digits of two texts, one after the other.
digits_append : (a : ℕ) (xs ys : List ℕ) → digits_in a (xs ++ ys) ≡ digits_in (digits_in a xs) ys
unfolding digits_in
digits_append a [] ys = refl
digits_append a (b ∷ xs) ys = digits_append (with_digit a b) xs ys

-- A number in w digits.
digits_number : (w n a : ℕ) → n < 10 ^ w → digits_in a (digits_of w n) ≡ a * 10 ^ w + n
unfolding digits_in digits_of with_digit
digits_number zero n a h = omega arith
digits_number (suc w) n a h =
    digits_append a (digits_of w (n / 10)) ((48 + n % 10) ∷ [])
    ∙ (rw (digits_number w (n / 10) a (omega (arith, rw pow-suc at h)), within 48 57 (48 + n % 10) (omega arith) (omega arith), pow-suc) (omega arith))

-- The same behind a byte that is none.
digits-behind : (b : ℕ) → digit b ≡ false → (w a n : ℕ) → n < 10 ^ w → digits_in a (b ∷ digits_of w n) ≡ a * 10 ^ w + n
unfolding digits_in with_digit
digits-behind b e w a n h = ap (λ (t : Bool). digits_in (cond t (a * 10 + (b - 48)) a) (digits_of w n)) e ∙ digits_number w n a h

-- Spaces have no digits.
digits-spaces : (k a : ℕ) → digits_in a (replicate k space) ≡ a
unfolding digits_in with_digit
digits-spaces zero a = refl
digits-spaces (suc k) a = digits-spaces k a

-- A number in the digits that it has.
digits_decimal : (n : ℕ) → digits_in 0 (decimal n) ≡ n
unfolding decimal
digits_decimal n = digits_number _ n 0 (width-enough n) ∙ (omega arith)

-- The dots of a number are no digits.
dots-within : (k n : ℕ) → n ≤ k → digits_in 0 (dotted_within k n) ≡ n
unfolding dotted_within
dots-within zero n h = digits_decimal n
dots-within (suc k) n h = go (ltb n 1000) refl (dots-within k (n / 1000) (omega arith))
  where
    go : (t : Bool) → ltb n 1000 ≡ t → digits_in 0 (dotted_within k (n / 1000)) ≡ n / 1000 → digits_in 0 (cond t (decimal n) (dotted_within k (n / 1000) ++ (dot ∷ digits_of 3 (n % 1000)))) ≡ n
    go true e ih = digits_decimal n
    go false e ih =
        let all : n / 1000 * 1000 + n % 1000 ≡ n = omega arith in
        digits_append 0 (dotted_within k (n / 1000)) (dot ∷ digits_of 3 (n % 1000))
        ∙ (ap (λ (a : ℕ). digits_in a (dot ∷ digits_of 3 (n % 1000))) ih ∙ (digits-behind dot refl 3 (n / 1000) (n % 1000) (omega arith) ∙ all))

digits-dotted : (n : ℕ) → digits_in 0 (dotted n) ≡ n
unfolding dotted
digits-dotted n = dots-within n n (omega arith)

digits-euros : (e : ℕ) → digits_in 0 (euro_text e) ≡ e
digits-euros e = go (dec_le 1000000000 e)
  where
    go : Dec (1000000000 ≤ e) → digits_in 0 (euro_text e) ≡ e
    go (yes l) = rw (euros-plain e l) (digits_decimal e)
    go (no d) = rw (euros-dotted e (omega arith)) (digits-dotted e)

-- The digits of a total's text say the total.
digits-text : (n : ℕ) → digits_in 0 (total_text n) ≡ n
unfolding total_text
digits-text n =
    let all : n / 100 * 100 + n % 100 ≡ n = omega arith in
    digits_append 0 (euro_text (n / 100)) (comma ∷ digits_of 2 (n % 100))
    ∙ (ap (λ (a : ℕ). digits_in a (comma ∷ digits_of 2 (n % 100))) (digits-euros (n / 100)) ∙ (digits-behind comma refl 2 (n / 100) (n % 100) (omega arith) ∙ all))

-- And so do those of the field that it fills.
pub digits-field : (n : ℕ) → digits_in 0 (total_field n) ≡ n
unfolding total_field
digits-field n = digits_append 0 (total_text n) (replicate (15 - length (total_text n)) space) ∙ (rw (digits-text n) (digits-spaces (15 - length (total_text n)) n))

length-text : (n : ℕ) → length (total_text n) ≡ length (euro_text (n / 100)) + 3
unfolding total_text
length-text n = rw length-append (omega (arith, length_digits 2 (n % 100)))

-- "999.999.999,99", and 999999999999,99: up to there the text has fifteen characters at most.
pub text-short : (n : ℕ) → n < 100000000000000 → length (total_text n) ≤ 15
text-short n h = rw (length-text n) (go (dec_le 1000000000 (n / 100)))
  where
    go : Dec (1000000000 ≤ n / 100) → length (euro_text (n / 100)) + 3 ≤ 15
    go (yes l) = rw (euros-plain (n / 100) l, length-decimal (n / 100)) (omega (arith, width-upto 11 (n / 100) (omega arith)))
    go (no d) = rw (euros-dotted (n / 100) (omega arith)) (omega (arith, short-dotted (n / 100) (omega arith)))

-- Above it has more.
pub text-long : (n : ℕ) → 100000000000000 ≤ n → 15 < length (total_text n)
text-long n h = rw (length-text n, euros-plain (n / 100) (omega arith), length-decimal (n / 100)) (omega (arith, width_above 12 (n / 100) (omega arith)))

-- A text of at most fifteen characters fills a field of fifteen.
pub field-length : (n : ℕ) → length (total_text n) ≤ 15 → length (total_field n) ≡ 15
unfolding total_field
field-length n h = rw (length-append, length-replicate) (omega arith)

-- A longer one is longer than the field.
pub field-long : (n : ℕ) → 15 < length (total_text n) → 15 < length (total_field n)
unfolding total_field
field-long n h = rw length-append (omega arith)

-- A part of a run of spaces is one.
spaces-part : (k m n : ℕ) → k + m ≤ n → take m (drop k (replicate n space)) ≡ replicate m space
spaces-part k zero n h = refl
spaces-part zero (suc m) zero h = absurd (omega arith)
spaces-part zero (suc m) (suc n) h = ap (λ (l : List ℕ). space ∷ l) (spaces-part zero m n (omega arith))
spaces-part (suc k) (suc m) zero h = absurd (omega arith)
spaces-part (suc k) (suc m) (suc n) h = spaces-part k (suc m) n (omega arith)

-- What a text leaves at the start of a room of spaces is its field.
pub field_put : (n : ℕ) → length (total_text n) ≤ 15 → take 15 (put_at 0 (total_text n) (replicate 40 space)) ≡ total_field n
unfolding total_field
field_put n h =
    let k = length (total_text n) in
    let e : 15 ≡ k + (15 - k) = omega arith in
    rw (put_is 0 (total_text n) (replicate 40 space))
    (ap (λ (m : ℕ). take m (total_text n ++ drop (0 + k) (replicate 40 space))) e
    ∙ (take-append-add (total_text n) (drop (0 + k) (replicate 40 space)) (15 - k) ∙ ap (λ (l : List ℕ). total_text n ++ l) (spaces-part (0 + k) (15 - k) 40 (omega arith))))
