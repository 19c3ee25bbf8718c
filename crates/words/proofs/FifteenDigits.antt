-- Laws of fifteen digits read by two words of eight, which share the eighth digit.
use Prim.Native.Nat.{ℕ, ◌+◌, ◌-◌, ◌*◌, ◌/◌, ◌^◌, ◌<◌, ◌≤◌}
use mathlib.Core.Path.{◌≡◌, refl, sym, ap, ◌∙◌}
use mathlib.Core.Bool.{Bool, true, false, cond}
use mathlib.Core.List.{List, [], ◌∷◌, ◌++◌}
use native.Mathlib.Omega.{arith}
use native.Mathlib.Nat.{pow-suc}
use lib.ListN.{length, take, drop, get_or, length-drop, take-append-drop}
use lib.Seq.{take-add, take-take, take-suc, drop-drop, drop_at, length-take-le}
use Rattle.std.specs.Option.{unwrap_or}
use Rattle.text.specs.Answers.{Digits, Number, NonDigit, TooLong}
use Rattle.words.specs.Answers as Said
use Rattle.text.specs.Numbers.{digit, number_from, number_of, amount_of, digits_of}
use Rattle.words.specs.Words.{word_by, word, fifteen_of, AtMost, Spelt, Halves}
use Rattle.text.proofs.Bytes.{part_length}
use Rattle.text.proofs.Allowed.{allowed-digits}
use Rattle.text.proofs.Numerals.{number-below}
use Rattle.words.proofs.Fields.{allowed-at-most, at-most-take, at-most-drop, at-most-part, at-most-append, word-inj}
use Rattle.words.proofs.AllDigits.{AllDigits, values, values_length, horner, digits-say, say-digits, say-none}
use Rattle.words.proofs.AllDigits.AllDigits.{no_more, one_more}
use Rattle.words.proofs.TopBits.{tops-clear, tops-set}
use Rattle.words.proofs.WholeTests.{tops_of}

-- How many characters stand before does not matter to the amount that is said.
amount-shift : (l : List ℕ) (i j a : ℕ) → fifteen_of (number_from i a l) ≡ fifteen_of (number_from j a l)
unfolding number_from
amount-shift [] i j a = refl
amount-shift (b ∷ bs) i j a = go (digit b) (amount-shift bs (i + 1) (j + 1) (a * 10 + (b - 48)))
  where
    go : (t : Bool) → fifteen_of (number_from (i + 1) (a * 10 + (b - 48)) bs) ≡ fifteen_of (number_from (j + 1) (a * 10 + (b - 48)) bs) → fifteen_of (cond t (number_from (i + 1) (a * 10 + (b - 48)) bs) (NonDigit i)) ≡ fifteen_of (cond t (number_from (j + 1) (a * 10 + (b - 48)) bs) (NonDigit j))
    go true e = e
    go false e = refl

-- An amount that is said is the number of the digits.
pub amount-number : (l : List ℕ) (v : ℕ) → Said.Amount v ≡ fifteen_of (number_of l) → number_of l ≡ Number v
amount-number l v e = go (number_of l) e
  where
    go : (d : Digits) → Said.Amount v ≡ fifteen_of d → d ≡ Number v
    go (Number n) f = let g : n ≡ v = cc in ap Number g
    go (NonDigit i) f = let z : ◌≡◌ {A = ℕ} 0 1 = cc in absurd (omega arith)
    go TooLong f = let z : ◌≡◌ {A = ℕ} 0 1 = cc in absurd (omega arith)

-- an amount that is not said counts 0
pub amount-or-zero : (d : Digits) → unwrap_or (fifteen_of d) 0 ≡ amount_of d
amount-or-zero (Number n) = refl
amount-or-zero (NonDigit i) = refl
amount-or-zero TooLong = refl

-- Where no amount is said, not all are digits.
none-digits : (l : List ℕ) → Said.NonDigit ≡ fifteen_of (number_of l) → AllDigits l → ⊥
none-digits l e p =
    let f : fifteen_of (number_of l) ≡ Said.Amount (horner 10 0 (values l)) = ap fifteen_of (digits-say l 0 0 p) in
    let z : ◌≡◌ {A = ℕ} 0 1 = cc in
    omega arith

digits-front : (xs ys : List ℕ) → AllDigits (xs ++ ys) → AllDigits xs
digits-front [] ys p = no_more
digits-front (x ∷ xs) ys (one_more h j p) = one_more h j (digits-front xs ys p)

digits-back : (xs ys : List ℕ) → AllDigits (xs ++ ys) → AllDigits ys
digits-back [] ys p = p
digits-back (x ∷ xs) ys (one_more h j p) = digits-back xs ys p

digits-both : (xs ys : List ℕ) → AllDigits xs → AllDigits ys → AllDigits (xs ++ ys)
digits-both [] ys p q = q
digits-both (x ∷ xs) ys (one_more h j p) q = one_more h j (digits-both xs ys p q)

-- Where the front of a list is not all digits, or what is behind it, the list says no amount.
none-front : (xs ys : List ℕ) → (AllDigits xs → ⊥) → Said.NonDigit ≡ fifteen_of (number_of (xs ++ ys))
none-front xs ys f = sym (say-none (xs ++ ys) (λ p. f (digits-front xs ys p)))

none-back : (xs ys : List ℕ) → (AllDigits ys → ⊥) → Said.NonDigit ≡ fifteen_of (number_of (xs ++ ys))
none-back xs ys f = sym (say-none (xs ++ ys) (λ p. f (digits-back xs ys p)))

-- The digits in front are read first.
value-append : (xs ys : List ℕ) (a : ℕ) → horner 10 a (values (xs ++ ys)) ≡ horner 10 (horner 10 a (values xs)) (values ys)
value-append [] ys a = refl
value-append (x ∷ xs) ys a = value-append xs ys (a * 10 + (x - 48))

-- A number in front is moved by as many digits as follow.
horner-from : (a : ℕ) (ds : List ℕ) → horner 10 a ds ≡ a * 10 ^ length ds + horner 10 0 ds
horner-from a [] = omega arith
horner-from a (d ∷ ds) =
    let e = horner-from (a * 10 + d) ds in
    let f = horner-from (0 * 10 + d) ds in
    rw pow-suc (omega arith)

-- The first seven of eight digits, and eight digits behind the seven.
seven-eight : (s : List ℕ) (x : ℕ) (b : List ℕ) (high low : ℕ) → length b ≡ 8 → number_of (s ++ (x ∷ [])) ≡ Number high → number_of b ≡ Number low → number_of (s ++ b) ≡ Number (high / 10 * 100000000 + low)
seven-eight s x b high low n e f =
    let p = say-digits (s ++ (x ∷ [])) 0 0 high e in
    let pb = say-digits b 0 0 low f in
    let front = horner 10 0 (values s) in
    let hs : Number high ≡ Number (horner 10 0 (values (s ++ (x ∷ [])))) = sym e ∙ digits-say (s ++ (x ∷ [])) 0 0 p in
    let hb : Number low ≡ Number (horner 10 0 (values b)) = sym f ∙ digits-say b 0 0 pb in
    let h : high ≡ horner 10 0 (values (s ++ (x ∷ []))) = cc in
    let k : low ≡ horner 10 0 (values b) = cc in
    let g : high ≡ front * 10 + (x - 48) = h ∙ value-append s (x ∷ []) 0 in
    let v : horner 10 0 (values (s ++ b)) ≡ front * 100000000 + horner 10 0 (values b) = value-append s b 0 ∙ rw (values_length b ∙ n) at (horner-from front (values b)) in
    let d : x - 48 ≤ 9 = small (digits-back s (x ∷ []) p) in
    let q : high / 10 ≡ front = omega arith in
    digits-say (s ++ b) 0 0 (digits-both s b (digits-front s (x ∷ []) p) pb) ∙ ap Number (let w : horner 10 0 (values (s ++ b)) ≡ high / 10 * 100000000 + low = omega arith in w)
  where
    small : AllDigits (x ∷ []) → x - 48 ≤ 9
    small (one_more h j p) = omega arith

-- Eight zeros are known by their word.
zeros-spelt : (w : ℕ) (s : Spelt w) → w ≡ 0x3030_3030_3030_3030 → s.chars ≡ digits_of 8 0
unfolding word_by digits_of
zeros-spelt w s z = word-inj (omega arith) s.chars (digits_of 8 0) s.fine (allowed-at-most (digits_of 8 0) (allowed-digits 8 0)) s.eight (sym s.whole ∙ z)

-- Eight zeros say 0.
pub zeros-said : (w : ℕ) (s : Spelt w) → w ≡ 0x3030_3030_3030_3030 → Said.Amount 0 ≡ fifteen_of (number_of s.chars)
unfolding number_from digits_of
zeros-said w s z = rw (zeros-spelt w s z)

-- Fifteen bytes with their top bits clear, by two words of eight that share the eighth.
module _ (front back : ℕ) (s : Halves front back) where
  pub first-eight : length (take 8 s.chars) ≡ 8
  first-eight = length-take-le 8 s.chars (omega (arith, s.fifteen))

  pub last-eight : length (drop 7 s.chars) ≡ 8
  last-eight = length-drop 7 s.chars ∙ omega (arith, s.fifteen)

  -- The two words.
  abbrev pub front-spelt : Spelt front
  front-spelt = record { chars = take 8 s.chars; eight = first-eight; fine = at-most-take 127 8 s.chars s.fine; whole = s.first }

  abbrev pub back-spelt : Spelt back
  back-spelt = record { chars = drop 7 s.chars; eight = last-eight; fine = at-most-drop 127 7 s.chars s.fine; whole = s.last }

  -- The last eight bytes stand behind seven.
  behind : s.chars ≡ take 7 s.chars ++ drop 7 s.chars
  behind = sym (take-append-drop 7 s.chars)

  -- After zeros the last eight say the amount.
  pub zeros-front : front ≡ 0x3030_3030_3030_3030 → fifteen_of (number_of s.chars) ≡ fifteen_of (number_of (drop 7 s.chars))
  unfolding number_from digits_of
  zeros-front z =
      let e : take 7 s.chars ≡ take 7 (digits_of 8 0) = sym (take-take 7 8 s.chars (omega arith)) ∙ ap (take 7) (zeros-spelt front front-spelt z) in
      ap (λ (t : List ℕ). fifteen_of (number_of t)) (behind ∙ ap (λ (t : List ℕ). t ++ drop 7 s.chars) e) ∙ amount-shift (drop 7 s.chars) 7 0 0

  -- Where the first eight say no amount, or the last eight do not, the fifteen say none.
  pub front-none : Said.NonDigit ≡ fifteen_of (number_of (take 8 s.chars)) → Said.NonDigit ≡ fifteen_of (number_of s.chars)
  front-none e = rw (take-append-drop 8 s.chars) at (none-front (take 8 s.chars) (drop 8 s.chars) (none-digits (take 8 s.chars) e))

  pub back_none : Said.NonDigit ≡ fifteen_of (number_of (drop 7 s.chars)) → Said.NonDigit ≡ fifteen_of (number_of s.chars)
  back_none e = rw (take-append-drop 7 s.chars) at (none-back (take 7 s.chars) (drop 7 s.chars) (none-digits (drop 7 s.chars) e))

  -- What the first eight and the last eight say makes what the fifteen say.
  pub both-said : (high low : ℕ) → Said.Amount high ≡ fifteen_of (number_of (take 8 s.chars)) → Said.Amount low ≡ fifteen_of (number_of (drop 7 s.chars)) → Said.Amount (high / 10 * 100000000 + low) ≡ fifteen_of (number_of s.chars)
  both-said high low e f =
      let seven : take 8 s.chars ≡ take 7 s.chars ++ (get_or s.chars 7 0 ∷ []) = take-suc s.chars 7 0 (omega (arith, s.fifteen)) in
      let p : number_of (take 7 s.chars ++ (get_or s.chars 7 0 ∷ [])) ≡ Number high = ap number_of (sym seven) ∙ amount-number (take 8 s.chars) high e in
      sym (ap (λ (t : List ℕ). fifteen_of (number_of t)) behind ∙ ap fifteen_of (seven-eight (take 7 s.chars) (get_or s.chars 7 0) (drop 7 s.chars) high low last-eight p (amount-number (drop 7 s.chars) low f)))

-- Fifteen bytes of a list.
module _ (l : List ℕ) (i : ℕ) (h : i + 15 ≤ length l) where
  -- Their first eight and their last eight.
  pub first_of : take 8 (take 15 (drop i l)) ≡ take 8 (drop i l)
  first_of = take-take 8 15 (drop i l) (omega arith)

  cut : take 15 (drop i l) ≡ take 7 (drop i l) ++ take 8 (drop (i + 7) l)
  cut = take-add 7 8 (drop i l) ∙ ap (λ (t : List ℕ). take 7 (drop i l) ++ take 8 t) (drop-drop 7 i l)

  pub last_of : drop 7 (take 15 (drop i l)) ≡ take 8 (drop (i + 7) l)
  last_of = ap (drop 7) cut ∙ drop_at (take 7 (drop i l)) (take 8 (drop (i + 7) l)) 7 (part_length 7 i l (omega arith))

  -- By their words, where the top bits are clear.
  abbrev pub halves-at : (front back : ℕ) → front ≡ word (take 8 (drop i l)) → back ≡ word (take 8 (drop (i + 7) l)) → AtMost 127 (take 15 (drop i l)) → Halves front back
  halves-at front back e f p = record { chars = take 15 (drop i l); fifteen = part_length 15 i l h; fine = p; first = e ∙ ap word (sym first_of); last = f ∙ ap word (sym last_of) }

  -- Bytes of any kind, by the top bits of both words.
  module _ (p : AtMost 255 l) where
    -- Where all are clear, the fifteen have them clear.
    pub clear-fifteen : tops_of (word (take 8 (drop i l))) ≡ 0 → tops_of (word (take 8 (drop (i + 7) l))) ≡ 0 → AtMost 127 (take 15 (drop i l))
    clear-fifteen e f =
        let a : AtMost 127 (take 8 (drop i l)) = tops-clear (take 8 (drop i l)) (at-most-part 255 8 i l p) (part_length 8 i l (omega arith)) e in
        let b : AtMost 127 (take 8 (drop (i + 7) l)) = tops-clear (take 8 (drop (i + 7) l)) (at-most-part 255 8 (i + 7) l p) (part_length 8 (i + 7) l (omega arith)) f in
        rw cut (at-most-append 127 (take 7 (drop i l)) (take 8 (drop (i + 7) l)) (rw (take-take 7 8 (drop i l) (omega arith)) at (at-most-take 127 7 (take 8 (drop i l)) a)) b)

    -- Where one is set, the fifteen say no amount.
    pub set_front : (tops_of (word (take 8 (drop i l))) ≡ 0 → ⊥) → Said.NonDigit ≡ fifteen_of (number_of (take 15 (drop i l)))
    set_front f = rw (← (take-add 8 7 (drop i l))) at (none-front (take 8 (drop i l)) (take 7 (drop 8 (drop i l))) (tops-set (take 8 (drop i l)) (at-most-part 255 8 i l p) (part_length 8 i l (omega arith)) f))

    pub set_back : (tops_of (word (take 8 (drop (i + 7) l))) ≡ 0 → ⊥) → Said.NonDigit ≡ fifteen_of (number_of (take 15 (drop i l)))
    set_back f = rw (← cut) at (none-back (take 7 (drop i l)) (take 8 (drop (i + 7) l)) (tops-set (take 8 (drop (i + 7) l)) (at-most-part 255 8 (i + 7) l p) (part_length 8 (i + 7) l (omega arith)) f))

-- Eight digits say less than 10 ^ 8.
pub amount-below : (l : List ℕ) (v : ℕ) → length l ≡ 8 → Said.Amount v ≡ fifteen_of (number_of l) → v < 100000000
amount-below l v n e = rw (amount-number l v e) at (number-below 8 l n)
