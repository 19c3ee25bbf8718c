-- Laws of words: fields of bits side by side, the bytes of a list as one number, and neighbouring fields joined to wider ones.
use Prim.Native.Nat.{ℕ, zero, suc, ◌+◌, ◌-◌, ◌*◌, ◌/◌, ◌%◌, ◌^◌, ◌<◌, ◌≤◌}
use mathlib.Core.Path.{◌≡◌, refl, sym, ap, ◌∙◌}
use mathlib.Core.List.{List, [], ◌∷◌, ◌++◌}
use native.Mathlib.Omega.{arith}
use native.Mathlib.Nat.{mod-eq_of_lt, div-eq_of_lt, div-add-mod', mul-add-mod_self_right, mul-add-div_right, mul-le-mul_right}
use lib.Bits.{bit_and, and_block, and_mask, and_zero_r}
use lib.Pow.{pow-add}
use lib.ListN.{length, take, drop, get_or, replicate}
use Rattle.text.specs.Answers.{Allowed}
use Rattle.text.specs.Characters.{first_bad}
use Rattle.text.specs.Numbers.{digits_of}
use Rattle.words.specs.Words.{word_by, word, AtMost}
use Rattle.words.specs.Words.AtMost.{none, also}
use Rattle.text.proofs.Bytes.{drop-one}
use Rattle.text.proofs.Allowed.{allowed_at}

-- Numbers that are at most m at each place are so all together.
pub at-most-each : (m : ℕ) (l : List ℕ) → ((i : ℕ) → i < length l → get_or l i 0 ≤ m) → AtMost m l
at-most-each m [] f = none
at-most-each m (b ∷ bs) f = also (f 0 (omega arith)) (at-most-each m bs (λ i h. f (suc i) (omega arith)))

-- The top bit of a character is clear.
pub allowed-at-most : (l : List ℕ) → first_bad l ≡ Allowed → AtMost 127 l
allowed-at-most l ok = at-most-each 127 l (λ i h. omega (arith, (allowed_at l i ok h).1))

-- The front of a list, and what is behind it, have no larger numbers.
pub at-most-take : (m n : ℕ) (l : List ℕ) → AtMost m l → AtMost m (take n l)
at-most-take m zero l p = none
at-most-take m (suc n) [] p = none
at-most-take m (suc n) (b ∷ bs) (also h p) = also h (at-most-take m n bs p)

pub at-most-drop : (m n : ℕ) (l : List ℕ) → AtMost m l → AtMost m (drop n l)
at-most-drop m zero l p = p
at-most-drop m (suc n) [] p = none
at-most-drop m (suc n) (b ∷ bs) (also h p) = at-most-drop m n bs p

-- A part of a list has none either.
pub at-most-part : (m n i : ℕ) (l : List ℕ) → AtMost m l → AtMost m (take n (drop i l))
at-most-part m n i l p = at-most-take m n (drop i l) (at-most-drop m i l p)

-- Two lists, one after the other.
pub at-most-append : (m : ℕ) (xs ys : List ℕ) → AtMost m xs → AtMost m ys → AtMost m (xs ++ ys)
at-most-append m [] ys p q = q
at-most-append m (x ∷ xs) ys (also h p) q = also h (at-most-append m xs ys p q)

-- A word whose fields are at most m is at most the word of as many fields m.
pub word-at-most : (k m : ℕ) (l : List ℕ) → AtMost m l → word_by k l ≤ word_by k (replicate (length l) m)
unfolding word_by
word-at-most k m [] none = omega arith
word-at-most k m (b ∷ bs) (also h p) = omega (arith, mul-le-mul_right (2 ^ k) (word-at-most k m bs p))

-- Two lists of bytes, of one length, that make one word are equal.
pub word-inj : {m : ℕ} → m < 256 → (xs ys : List ℕ) → AtMost m xs → AtMost m ys → length xs ≡ length ys → word xs ≡ word ys → xs ≡ ys
unfolding word_by
word-inj s [] [] p q e f = refl
word-inj s [] (y ∷ ys) p q e f = absurd (omega arith)
word-inj s (x ∷ xs) [] p q e f = absurd (omega arith)
word-inj s (x ∷ xs) (y ∷ ys) (also h p) (also i q) e f =
    let a : x ≡ y = omega arith in
    let b : xs ≡ ys = word-inj s xs ys p q (omega arith) (omega arith) in
    cc

-- The first byte of a word, and the word of the bytes behind it.
word-cons : (l : List ℕ) (i j n : ℕ) → i < length l → i + 1 ≡ j → word (take (suc n) (drop i l)) ≡ word (take n (drop j l)) * 256 + get_or l i 0
unfolding word_by
word-cons l i j n h e = rw (drop-one l i h, e)

-- The first four bytes of a word, and the word of the bytes behind them.
pub four-more : (l : List ℕ) (i n : ℕ) → i + 4 ≤ length l → word (take (suc (suc (suc (suc n)))) (drop i l)) ≡
    word (take n (drop (i + 4) l)) * 4294967296 + (get_or l i 0 + get_or l (i + 1) 0 * 256 + get_or l (i + 2) 0 * 65536 + get_or l (i + 3) 0 * 16777216)
four-more l i n h =
    let a = word-cons l i (i + 1) (suc (suc (suc n))) (omega arith) refl in
    let b = word-cons l (i + 1) (i + 2) (suc (suc n)) (omega arith) (omega arith) in
    let c = word-cons l (i + 2) (i + 3) (suc n) (omega arith) (omega arith) in
    let d = word-cons l (i + 3) (i + 4) n (omega arith) (omega arith) in
    omega arith

-- Four bytes as a word.
pub four-word : (l : List ℕ) (i : ℕ) → i + 4 ≤ length l → word (take 4 (drop i l)) ≡ get_or l i 0 + get_or l (i + 1) 0 * 256 + get_or l (i + 2) 0 * 65536 + get_or l (i + 3) 0 * 16777216
unfolding word_by
four-word l i h = let a = four-more l i 0 h in omega arith

-- Eight bytes as a word: four, and four behind them.
pub eight-word : (l : List ℕ) (i : ℕ) → i + 8 ≤ length l → word (take 8 (drop i l)) ≡ word (take 4 (drop i l)) + word (take 4 (drop (i + 4) l)) * 4294967296
eight-word l i h =
    let a = four-more l i 4 (omega arith) in
    let b = four-word l i (omega arith) in
    omega arith

-- The word of a number below 1000 in eight digits.
pub number_word : (n : ℕ) → n < 1000 → word (digits_of 8 n) ≡ 0x3030_3030_3030_3030 + n / 100 * 0x100_0000_0000 + n / 10 % 10 * 0x1_0000_0000_0000 + n % 10 * 0x100_0000_0000_0000
unfolding word_by digits_of
number_word n h =
    let e : n / 10 / 10 / 10 ≡ 0 = omega arith in
    let f : n / 10 / 10 % 10 ≡ n / 100 = omega arith in
    rw (e, f) (omega arith)

-- Neighbours joined, the first one f times.
abbrev pub paired : ℕ → List ℕ → List ℕ
paired f [] = []
paired f (a ∷ []) = []
paired f (a ∷ b ∷ l) = (a * f + b) ∷ paired f l

-- Half as many are left.
pub paired-length : (f n : ℕ) (l : List ℕ) → length l ≡ n + n → length (paired f l) ≡ n
paired-length f zero [] e = refl
paired-length f zero (a ∷ l) e = absurd (omega arith)
paired-length f (suc n) [] e = absurd (omega arith)
paired-length f (suc n) (a ∷ []) e = absurd (omega arith)
paired-length f (suc n) (a ∷ b ∷ l) e = ap suc (paired-length f n l (omega arith))

-- What is joined stays small.
pub paired-at-most : (f m : ℕ) (l : List ℕ) → AtMost m l → AtMost (m * f + m) (paired f l)
paired-at-most f m [] p = none
paired-at-most f m (a ∷ []) p = none
paired-at-most f m (a ∷ b ∷ l) (also h (also i p)) = also {b = a * f + b} (omega (arith, mul-le-mul_right f h)) (paired-at-most f m l p)

-- The first field of a word.
first_field : (k m : ℕ) (l : List ℕ) → m < 2 ^ k → AtMost m l → word_by k l % 2 ^ k ≤ m
unfolding word_by
first_field k m [] h p = rw (mod-eq_of_lt {n = 0} {m = 2 ^ k} (omega arith)) (omega arith)
first_field k m (b ∷ bs) h (also i p) = rw (mul-add-mod_self_right (word_by k bs) (2 ^ k) b, mod-eq_of_lt {n = b} {m = 2 ^ k} (omega arith)) i

module _ (k f m : ℕ) (room : m * f + m < 2 ^ k) where
  -- One pair of fields of a word and the rest of it, times f and with the neighbour of each field added to it.
  pair_step : (w q h a b : ℕ) → w ≡ q * 2 ^ k + h → a * f + ((w * 2 ^ k + b) * 2 ^ k) * f + (w * 2 ^ k + b) ≡ (w * f + q) * 2 ^ (k + k) + ((b * f + h) * 2 ^ k + (a * f + b))
  pair_step w q h a b e =
      let s : w * 2 ^ k ≡ (q * 2 ^ k + h) * 2 ^ k = ap (λ (x : ℕ). x * 2 ^ k) e in
      rw (pow-add 2 k k) (omega arith)

  -- Fields of k bits, times f and with the neighbour of each field added to it, are every second time the pairs, in fields of twice as many bits.
  pub joined : (n : ℕ) (l : List ℕ) → AtMost m l → length l ≡ n + n → bit_and (word_by k l * f + word_by k l / 2 ^ k) (word_by (k + k) (replicate n (2 ^ k - 1))) ≡ word_by (k + k) (paired f l)
  unfolding word_by
  joined zero [] p e = and_zero_r (0 * f + 0 / 2 ^ k)
  joined zero (a ∷ l) p e = absurd (omega arith)
  joined (suc n) [] p e = absurd (omega arith)
  joined (suc n) (a ∷ []) p e = absurd (omega arith)
  joined (suc n) (a ∷ b ∷ l) (also ha (also hb p)) e =
      let w = word_by k l in
      let fa = mul-le-mul_right f ha in
      let fb = mul-le-mul_right f hb in
      let fm : m ≤ m * f + m = omega arith in
      let h : w % 2 ^ k ≤ m = first_field k m l (omega arith) p in
      let v : ((w * 2 ^ k + b) * 2 ^ k + a) / 2 ^ k ≡ w * 2 ^ k + b = mul-add-div_right {m = 2 ^ k} (omega arith) (w * 2 ^ k + b) a ∙ (ap (λ (x : ℕ). w * 2 ^ k + b + x) (div-eq_of_lt {n = a} {m = 2 ^ k} (omega arith)) ∙ omega arith) in
      let s : ((w * 2 ^ k + b) * 2 ^ k + a) * f + (w * 2 ^ k + b) ≡ (w * f + w / 2 ^ k) * 2 ^ (k + k) + ((b * f + w % 2 ^ k) * 2 ^ k + (a * f + b)) = omega (arith, pair_step w (w / 2 ^ k) (w % 2 ^ k) a b (sym (div-add-mod' w (2 ^ k)))) in
      let sq : 2 ^ (k + k) ≡ 2 ^ k * 2 ^ k = pow-add 2 k k in
      let r : (b * f + w % 2 ^ k) * 2 ^ k + (a * f + b) < 2 ^ (k + k) = omega (arith, mul-le-mul_right {m = b * f + w % 2 ^ k + 1} {n = 2 ^ k} (2 ^ k) (omega arith)) in
      let o : 2 ^ k - 1 < 2 ^ (k + k) = omega (arith, mul-le-mul_right {m = 1} {n = 2 ^ k} (2 ^ k) (omega arith)) in
      rw (v, s)
      (and_block (k + k) (w * f + w / 2 ^ k) (word_by (k + k) (replicate n (2 ^ k - 1))) ((b * f + w % 2 ^ k) * 2 ^ k + (a * f + b)) (2 ^ k - 1) r o
      ∙ (ap (λ (x : ℕ). x * 2 ^ (k + k) + bit_and ((b * f + w % 2 ^ k) * 2 ^ k + (a * f + b)) (2 ^ k - 1)) (joined n l p (omega arith))
      ∙ ap (λ (x : ℕ). word_by (k + k) (paired f l) * 2 ^ (k + k) + x) (and_mask ((b * f + w % 2 ^ k) * 2 ^ k + (a * f + b)) k ∙ (mul-add-mod_self_right (b * f + w % 2 ^ k) (2 ^ k) (a * f + b) ∙ mod-eq_of_lt {n = a * f + b} {m = 2 ^ k} (omega arith)))))
