-- Laws of the characters of a part: which parts are allowed, and what a turn of the loops over its bytes says.
use Prim.Native.Nat.{ℕ, zero, suc, ◌+◌, ◌-◌, ◌/◌, ◌%◌, ◌<◌, ◌≤◌}
use mathlib.Core.Path.{◌≡◌, refl, sym, ap, ◌∙◌}
use mathlib.Core.Bool.{Bool, true, false, cond, false≢true}
use mathlib.Core.List.{List, [], ◌∷◌, ◌++◌}
use native.Mathlib.Omega.{arith}
use native.Mathlib.Nat.{add-zero, add-suc}
use borrow.Author.Tests.{lt-ltb, le-ltb}
use lib.ListN.{length, take, drop, get_or, drop_of_length-le}
use lib.Seq.{take-add, take-take, take-nil, take-length}
use Rattle.text.specs.Answers.{Characters, Allowed, BadAt}
use Rattle.text.specs.Characters.{allowed, first_bad_from, first_bad, is_allowed, all_allowed}
use Rattle.text.specs.Numbers.{digits_of}
use Rattle.text.proofs.Bytes.{drop-one, between, within}

-- A part whose first byte is a character and whose other bytes are allowed is allowed.
allowed-cons : (b : ℕ) (bs : List ℕ) (i : ℕ) → allowed b ≡ true → first_bad_from (i + 1) bs ≡ Allowed → first_bad_from i (b ∷ bs) ≡ Allowed
unfolding first_bad_from
allowed-cons b bs i e f = rw e f

-- The first byte of an allowed part is a character, and its other bytes are allowed.
allowed-parts : (b : ℕ) (bs : List ℕ) (i : ℕ) → first_bad_from i (b ∷ bs) ≡ Allowed → (allowed b ≡ true) × (first_bad_from (i + 1) bs ≡ Allowed)
unfolding first_bad_from
allowed-parts b bs i e = go (allowed b) e
  where
    go : (t : Bool) → cond t (first_bad_from (i + 1) bs) (BadAt i) ≡ Allowed → (t ≡ true) × (first_bad_from (i + 1) bs ≡ Allowed)
    go true f = (refl, f)
    go false f = let z : ◌≡◌ {A = ℕ} 0 1 = cc in absurd (omega arith)

-- A part is allowed wherever it stands.
pub allowed-shift : (l : List ℕ) (i j : ℕ) → first_bad_from i l ≡ Allowed → first_bad_from j l ≡ Allowed
unfolding first_bad_from
allowed-shift [] i j e = refl
allowed-shift (b ∷ bs) i j e =
    let h = allowed-parts b bs i e in
    allowed-cons b bs j h.0 (allowed-shift bs (i + 1) (j + 1) h.1)

-- Two allowed parts, one after the other, are allowed.
pub allowed-append : (xs ys : List ℕ) (i j : ℕ) → first_bad_from i xs ≡ Allowed → first_bad_from j ys ≡ Allowed → first_bad_from i (xs ++ ys) ≡ Allowed
allowed-append [] ys i j p q = allowed-shift ys j i q
allowed-append (x ∷ xs) ys i j p q =
    let h = allowed-parts x xs i p in
    allowed-cons x (xs ++ ys) i h.0 (allowed-append xs ys (i + 1) j h.1 q)

-- The front of an allowed part is allowed.
pub allowed-take : (n : ℕ) (l : List ℕ) (i : ℕ) → first_bad_from i l ≡ Allowed → first_bad_from i (take n l) ≡ Allowed
unfolding first_bad_from
allowed-take zero l i e = refl
allowed-take (suc n) [] i e = refl
allowed-take (suc n) (b ∷ bs) i e =
    let h = allowed-parts b bs i e in
    allowed-cons b (take n bs) i h.0 (allowed-take n bs (i + 1) h.1)

-- The rest of an allowed part is allowed.
pub allowed-drop : (n : ℕ) (l : List ℕ) (i : ℕ) → first_bad_from i l ≡ Allowed → first_bad_from i (drop n l) ≡ Allowed
allowed-drop zero l i e = e
allowed-drop (suc n) [] i e = e
allowed-drop (suc n) (b ∷ bs) i e = allowed-drop n bs i (allowed-shift bs (i + 1) i (allowed-parts b bs i e).1)

-- A byte from 32 to 126 is allowed.
pub allowed-byte : (b : ℕ) → 32 ≤ b → b ≤ 126 → first_bad (b ∷ []) ≡ Allowed
unfolding first_bad_from
allowed-byte b h i = allowed-cons b [] 0 (within 32 126 b h i) refl

-- The digits of a number are allowed.
pub allowed-digits : (w n : ℕ) → first_bad (digits_of w n) ≡ Allowed
unfolding first_bad_from digits_of
allowed-digits zero n = refl
allowed-digits (suc w) n = allowed-append (digits_of w (n / 10)) _ 0 0 (allowed-digits w (n / 10)) (allowed-byte (48 + n % 10) (omega arith) (omega arith))

-- Every byte of an allowed part lies from 32 to 126.
pub allowed_at : (l : List ℕ) (i : ℕ) → first_bad l ≡ Allowed → i < length l → (32 ≤ get_or l i 0) × (get_or l i 0 ≤ 126)
allowed_at [] i e h = absurd (omega arith)
allowed_at (b ∷ bs) zero e h = between 32 126 b (allowed-parts b bs 0 e).0
allowed_at (b ∷ bs) (suc i) e h = allowed_at bs i (allowed-shift bs 1 0 (allowed-parts b bs 0 e).1) (omega arith)

-- The first byte that is no character lies within the part, where j bytes stand before it.
bad-from : (l : List ℕ) (j i : ℕ) → first_bad_from j l ≡ BadAt i → i < j + length l
unfolding first_bad_from
bad-from [] j i e = let z : ◌≡◌ {A = ℕ} 0 1 = cc in absurd (omega arith)
bad-from (b ∷ bs) j i e = go (allowed b) e (bad-from bs (j + 1) i)
  where
    go : (t : Bool) → cond t (first_bad_from (j + 1) bs) (BadAt j) ≡ BadAt i → (first_bad_from (j + 1) bs ≡ BadAt i → i < j + 1 + length bs) → i < j + suc (length bs)
    go true f ih = omega (arith, ih f)
    go false f ih = let g : j ≡ i = cc in omega arith

-- The first byte of a part that is no character lies within it.
pub bad-within : (l : List ℕ) (i : ℕ) → first_bad l ≡ BadAt i → i < length l
bad-within l i e = omega (arith, bad-from l 0 i e)

module _ (l : List ℕ) (i : ℕ) (h : i < length l) where
  -- A byte below 32 is the first bad one of what is left.
  pub bad-low : get_or l i 0 < 32 → first_bad_from i (drop i l) ≡ BadAt i
  unfolding first_bad_from
  bad-low t = rw (drop-one l i h, lt-ltb _ _ t)

  -- A byte above 126 is the first bad one of what is left.
  pub bad-high : 32 ≤ get_or l i 0 → 126 < get_or l i 0 → first_bad_from i (drop i l) ≡ BadAt i
  unfolding first_bad_from
  bad-high t u = rw (drop-one l i h, le-ltb _ _ t, lt-ltb _ _ u)

  -- After a character the search goes on with what is left after it.
  pub bad-on : 32 ≤ get_or l i 0 → get_or l i 0 ≤ 126 → first_bad_from i (drop i l) ≡ first_bad_from (i + 1) (drop (i + 1) l)
  unfolding first_bad_from
  bad-on t u = rw (drop-one l i h, le-ltb _ _ t, le-ltb _ _ u)

-- Where no byte is left, none is bad.
pub bad-end : (l : List ℕ) (i : ℕ) → length l ≤ i → first_bad_from i (drop i l) ≡ Allowed
unfolding first_bad_from
bad-end l i h = rw (drop_of_length-le l h)

-- A part of which every byte is a character is allowed.
pub all-is-allowed : (l : List ℕ) → all_allowed l ≡ true → first_bad l ≡ Allowed
unfolding all_allowed
all-is-allowed l e = go (first_bad l) e
  where
    go : (x : Characters) → is_allowed x ≡ true → x ≡ Allowed
    go Allowed f = refl
    go (BadAt i) f = let z : ◌≡◌ {A = ℕ} 0 1 = cc in absurd (omega arith)

-- A part that is not allowed has a first byte that is no character.
pub record Bad (l : List ℕ) : Type 0 where
  pub place : ℕ
  pub there : first_bad l ≡ BadAt place

-- A part of which not every byte is a character has a first one that is none.
pub not-allowed : (l : List ℕ) → all_allowed l ≡ false → Bad l
unfolding all_allowed
not-allowed l e = go (first_bad l) refl e
  where
    go : (x : Characters) → first_bad l ≡ x → is_allowed x ≡ false → Bad l
    go Allowed f g = absurd (false≢true (sym g))
    go (BadAt i) f g = record { place = i; there = f }

-- Whether bytes are allowed does not depend on where they stand.
allowed-anywhere : (l : List ℕ) (i j : ℕ) → is_allowed (first_bad_from i l) ≡ is_allowed (first_bad_from j l)
unfolding first_bad_from
allowed-anywhere [] i j = refl
allowed-anywhere (b ∷ bs) i j = go (allowed b) (allowed-anywhere bs (i + 1) (j + 1))
  where
    go : (t : Bool) → is_allowed (first_bad_from (i + 1) bs) ≡ is_allowed (first_bad_from (j + 1) bs) → is_allowed (cond t (first_bad_from (i + 1) bs) (BadAt i)) ≡ is_allowed (cond t (first_bad_from (j + 1) bs) (BadAt j))
    go true e = e
    go false e = refl

-- The same as `all_append`, where i bytes stand before the first part.
all-append-from : (xs ys : List ℕ) (i : ℕ) → is_allowed (first_bad_from i (xs ++ ys)) ≡ cond (is_allowed (first_bad_from i xs)) (is_allowed (first_bad_from 0 ys)) false
unfolding first_bad_from
all-append-from [] ys i = allowed-anywhere ys i 0
all-append-from (b ∷ bs) ys i = go (allowed b) (all-append-from bs ys (i + 1))
  where
    go : (t : Bool) → is_allowed (first_bad_from (i + 1) (bs ++ ys)) ≡ cond (is_allowed (first_bad_from (i + 1) bs)) (is_allowed (first_bad_from 0 ys)) false → is_allowed (cond t (first_bad_from (i + 1) (bs ++ ys)) (BadAt i)) ≡ cond (is_allowed (cond t (first_bad_from (i + 1) bs) (BadAt i))) (is_allowed (first_bad_from 0 ys)) false
    go true e = e
    go false e = refl

-- Two parts, one after the other, are allowed where both are.
pub all_append : (xs ys : List ℕ) → all_allowed (xs ++ ys) ≡ cond (all_allowed xs) (all_allowed ys) false
unfolding all_allowed
all_append xs ys = all-append-from xs ys 0

-- Of a list that is cut in two, the whole is allowed where both are.
pub all-cut : (l : List ℕ) (a b : ℕ) → all_allowed (take (a + b) l) ≡ cond (all_allowed (take a l)) (all_allowed (take b (drop a l))) false
all-cut l a b = ap all_allowed (take-add a b l) ∙ all_append (take a l) (take b (drop a l))

-- A part is allowed where its front is, and the rest behind it.
pub all_rest : (l : List ℕ) (n : ℕ) → n ≤ length l → all_allowed l ≡ cond (all_allowed (take n l)) (all_allowed (take (length l - n) (drop n l))) false
all_rest l n h =
    let e : n + (length l - n) ≡ length l = omega arith in
    ap all_allowed (sym (ap (λ (k : ℕ). take k l) e ∙ take-length l)) ∙ all-cut l n (length l - n)

-- An allowed front grows by an allowed part behind it.
pub allowed-more : (s : List ℕ) (a b : ℕ) → all_allowed (take a s) ≡ true → all_allowed (take b (drop a s)) ≡ true → all_allowed (take (a + b) s) ≡ true
allowed-more s a b p q = rw (all-cut s a b, p, q)

-- What a front has behind its first i bytes.
drop-take : (i n : ℕ) (l : List ℕ) → drop i (take (n + i) l) ≡ take n (drop i l)
drop-take zero n l = ap (λ (k : ℕ). take k l) (add-zero n)
drop-take (suc i) n [] = rw add-suc (sym (take-nil n))
drop-take (suc i) n (b ∷ bs) = rw add-suc (drop-take i n bs)

-- A part of an allowed front is allowed.
pub allowed-part : (s : List ℕ) (m i w : ℕ) → all_allowed (take m s) ≡ true → i + w ≤ m → first_bad (take w (drop i s)) ≡ Allowed
allowed-part s m i w e h =
    let p : m - i + i ≡ m = omega arith in
    let f : first_bad (take (m - i + i) s) ≡ Allowed = rw p (all-is-allowed (take m s) e) in
    let g : first_bad (take (m - i) (drop i s)) ≡ Allowed = rw (← (drop-take i (m - i) s)) (allowed-drop i (take (m - i + i) s) 0 f) in
    rw (← (take-take w (m - i) (drop i s) (omega arith))) (allowed-take w (take (m - i) (drop i s)) 0 g)
