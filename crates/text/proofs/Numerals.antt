-- Laws of digits and numbers: what a turn of the reading loop says, the bound on a number, and that what is written reads back.
use Prim.Native.Nat.{ℕ, zero, suc, ◌+◌, ◌-◌, ◌*◌, ◌/◌, ◌%◌, ◌^◌, ◌<◌, ◌≤◌}
use mathlib.Core.Path.{◌≡◌, refl, sym, ap, ◌∙◌}
use mathlib.Core.Bool.{Bool, true, false, cond}
use mathlib.Core.Logic.{◌⊎◌, inl, inr}
use mathlib.Core.List.{List, [], ◌∷◌, ◌++◌}
use native.Mathlib.Numerals.{add-one}
use native.Mathlib.Omega.{arith}
use native.Mathlib.Nat.{lt_of_lt_of_le, pow-le-pow_right, pow-suc, one-le-pow, mul-le-mul_right}
use borrow.Author.Tests.{lt-ltb, le-ltb, ltb-true, ltb-false}
use lib.Dec.{ltb, eqb, eqb-suc-zero, lit<}
use lib.ListN.{length, drop, get_or, length-append, drop_of_length-le}
use Rattle.std.specs.Result.{result_unwrap_or}
use Rattle.text.specs.Answers.{Digits, Number, NonDigit, TooLong}
use Rattle.text.specs.Numbers.{digit, number_from, number_of, amount_of, read_number, digits_of}
use Rattle.text.proofs.Bytes.{drop-one, between, within}

module _ (l : List ℕ) (i : ℕ) (h : i < length l) (a : ℕ) where
  -- A byte below 48 is the first that is no digit.
  pub number-low : get_or l i 0 < 48 → number_from i a (drop i l) ≡ NonDigit i
  unfolding number_from
  number-low t = rw (drop-one l i h, lt-ltb _ _ t)

  -- A byte above 57 is the first that is no digit.
  pub number-high : 48 ≤ get_or l i 0 → 57 < get_or l i 0 → number_from i a (drop i l) ≡ NonDigit i
  unfolding number_from
  number-high t u = rw (drop-one l i h, le-ltb _ _ t, lt-ltb _ _ u)

  -- A byte outside 48 to 57 is the first that is no digit.
  pub number-other : (get_or l i 0 < 48) ⊎ (57 < get_or l i 0) → number_from i a (drop i l) ≡ NonDigit i
  number-other (inl t) = number-low t
  number-other (inr u) = number-high (omega arith) u

  -- After a digit the reading goes on with ten times the number and the digit.
  pub number-on : 48 ≤ get_or l i 0 → get_or l i 0 ≤ 57 → number_from i a (drop i l) ≡ number_from (i + 1) (a * 10 + (get_or l i 0 - 48)) (drop (i + 1) l)
  unfolding number_from
  number-on t u = rw (drop-one l i h, le-ltb _ _ t, le-ltb _ _ u)

-- Where no digit is left, the number is the one read so far.
pub number-end : (l : List ℕ) (a i : ℕ) → length l ≤ i → number_from i a (drop i l) ≡ Number a
unfolding number_from
number-end l a i h = rw (drop_of_length-le l h)

-- A number of fewer than fifteen digits leaves room for one digit more.
pub small : (i n : ℕ) → i < 15 → n < 10 ^ i → n < 100000000000000
small i n h e = lt_of_lt_of_le e (pow-le-pow_right {n = 10} (lit< tt) {i = i} {j = 14} (omega arith))

-- A number of i digits with one digit more has i + 1 digits.
pub more : (i n d : ℕ) → n < 10 ^ i → d ≤ 9 → n * 10 + d < 10 ^ (i + 1)
more i n d e h = rw add-one (rw pow-suc (omega arith))

-- A part of at most fifteen characters is read as a number.
pub read-is-number : (l : List ℕ) → length l ≤ 15 → read_number l ≡ number_of l
unfolding read_number
read-is-number l h = rw (le-ltb 15 (length l) h)

-- A part of more than fifteen characters is no field.
pub read-too-long : (l : List ℕ) → 15 < length l → read_number l ≡ TooLong
unfolding read_number
read-too-long l h = rw (lt-ltb 15 (length l) h)

-- Each further character makes a number at most ten times as large.
below-from : (l : List ℕ) (i a : ℕ) → amount_of (number_from i a l) < (a + 1) * 10 ^ length l
unfolding number_from
below-from [] i a = omega arith
below-from (b ∷ bs) i a = go (digit b) refl (below-from bs (i + 1) (a * 10 + (b - 48)))
  where
    go : (t : Bool) → digit b ≡ t → amount_of (number_from (i + 1) (a * 10 + (b - 48)) bs) < (a * 10 + (b - 48) + 1) * 10 ^ length bs → amount_of (cond t (number_from (i + 1) (a * 10 + (b - 48)) bs) (NonDigit i)) < (a + 1) * 10 ^ suc (length bs)
    go true e ih =
        let d = between 48 57 b e in
        rw pow-suc (lt_of_lt_of_le ih (omega (arith, mul-le-mul_right {m = a * 10 + (b - 48) + 1} {n = a * 10 + 10} (10 ^ length bs) (omega arith))))
    go false e ih = rw pow-suc (omega (arith, one-le-pow (length bs) 10 (lit< tt)))

-- The amount of a list of w characters is below 10 ^ w.
pub number-below : (w : ℕ) (l : List ℕ) → length l ≡ w → amount_of (number_of l) < 10 ^ w
number-below w l e = rw (← e) (omega (arith, below-from l 0 0))

-- A list that says a number begins with a digit, and what follows it says the number too.
pub number-parts : (b : ℕ) (bs : List ℕ) (i a v : ℕ) → number_from i a (b ∷ bs) ≡ Number v → (digit b ≡ true) × (number_from (i + 1) (a * 10 + (b - 48)) bs ≡ Number v)
unfolding number_from
number-parts b bs i a v e = go (digit b) e
  where
    go : (t : Bool) → cond t (number_from (i + 1) (a * 10 + (b - 48)) bs) (NonDigit i) ≡ Number v → (t ≡ true) × (number_from (i + 1) (a * 10 + (b - 48)) bs ≡ Number v)
    go true f = (refl, f)
    go false f = let z : ◌≡◌ {A = ℕ} 0 1 = cc in absurd (omega arith)

-- One digit more at the end makes the number ten times as large, and adds the digit.
number-snoc : (l : List ℕ) (i a v d : ℕ) → d ≤ 9 → number_from i a l ≡ Number v → number_from i a (l ++ ((48 + d) ∷ [])) ≡ Number (v * 10 + d)
unfolding number_from
number-snoc [] i a v d h e =
    let f : a ≡ v = cc in
    rw (within 48 57 (48 + d) (omega arith) (omega arith)) (ap Number (let g : a * 10 + (48 + d - 48) ≡ v * 10 + d = omega arith in g))
number-snoc (b ∷ bs) i a v d h e =
    let p = number-parts b bs i a v e in
    rw p.0 (number-snoc bs (i + 1) (a * 10 + (b - 48)) v d h p.1)

-- The digits of a number below 10 ^ w read back as the number.
pub number_digits : (w n : ℕ) → n < 10 ^ w → number_of (digits_of w n) ≡ Number n
unfolding number_from digits_of
number_digits zero n h = ap Number (let e : 0 ≡ n = omega arith in e)
number_digits (suc w) n h =
    number-snoc (digits_of w (n / 10)) 0 0 (n / 10) (n % 10) (omega arith) (number_digits w (n / 10) (omega (arith, rw pow-suc at h)))
    ∙ ap Number (let e : n / 10 * 10 + n % 10 ≡ n = omega arith in e)

-- A number in w digits has w characters.
pub length_digits : (w n : ℕ) → length (digits_of w n) ≡ w
unfolding digits_of
length_digits zero n = refl
length_digits (suc w) n = rw (length-append, length_digits w (n / 10)) (omega arith)

-- Two lists of digits of one length that say one number, after numbers a and b, are equal.
number-inj : (xs ys : List ℕ) (i a b v : ℕ) → length xs ≡ length ys → number_from i a xs ≡ Number v → number_from i b ys ≡ Number v → (a ≡ b) × (xs ≡ ys)
unfolding number_from
number-inj [] [] i a b v l e f = (cc, refl)
number-inj [] (y ∷ ys) i a b v l e f = absurd (omega arith)
number-inj (x ∷ xs) [] i a b v l e f = absurd (omega arith)
number-inj (x ∷ xs) (y ∷ ys) i a b v l e f =
    let p = number-parts x xs i a v e in
    let q = number-parts y ys i b v f in
    let h = number-inj xs ys (i + 1) (a * 10 + (x - 48)) (b * 10 + (y - 48)) v (omega arith) p.1 q.1 in
    let dx = between 48 57 x p.0 in
    let dy = between 48 57 y q.0 in
    let xy : x ≡ y = omega arith in
    let rest : xs ≡ ys = h.1 in
    (omega arith, cc)

-- A field of w digits is determined by its number.
pub digits-of-number : (w v : ℕ) (bs : List ℕ) → length bs ≡ w → number_of bs ≡ Number v → digits_of w v ≡ bs
digits-of-number w v bs l e =
    let n : amount_of (number_of bs) < 10 ^ w = number-below w bs l in
    (number-inj (digits_of w v) bs 0 0 0 v (length_digits w v ∙ sym l) (number_digits w v (rw e at n)) e).1

-- One division takes one digit from a number.
pub spelled-on : (n i : ℕ) → 0 < i → ltb n (10 ^ i) ≡ ltb (n / 10) (10 ^ (i - 1))
spelled-on n zero h = absurd (omega arith)
spelled-on n (suc i) h = rw (let e : suc i - 1 ≡ i = omega arith in e, pow-suc) (go (ltb (n / 10) (10 ^ i)) refl)
  where
    go : (t : Bool) → ltb (n / 10) (10 ^ i) ≡ t → ltb n (10 ^ i * 10) ≡ t
    go true e = lt-ltb n (10 ^ i * 10) (omega (arith, ltb-true (n / 10) (10 ^ i) e))
    go false e = le-ltb n (10 ^ i * 10) (omega (arith, ltb-false (n / 10) (10 ^ i) e))

-- A number of no digits is zero.
pub spelled-end : (n i : ℕ) → i ≤ 0 → ltb n (10 ^ i) ≡ eqb n 0
spelled-end n i h = rw (let e : i ≡ 0 = omega arith in e) (go n)
  where
    go : (m : ℕ) → ltb m 1 ≡ eqb m 0
    go zero = refl
    go (suc m) = le-ltb (suc m) 1 (omega arith) ∙ sym (eqb-suc-zero m)

-- digits that say no number count 0
pub said-or-zero : (d : Digits) → result_unwrap_or d 0 ≡ amount_of d
said-or-zero (Number n) = refl
said-or-zero (NonDigit i) = refl
said-or-zero TooLong = refl
