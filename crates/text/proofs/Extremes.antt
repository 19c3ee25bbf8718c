-- Laws of the passes by the least and the greatest byte: a turn keeps what they and the bytes left say together.
use Prim.Native.Nat.{ℕ, ◌+◌, ◌-◌, ◌*◌, ◌<◌, ◌≤◌, min, max}
use mathlib.Core.Path.{◌≡◌, refl, sym, ap, ◌∙◌}
use mathlib.Core.Bool.{Bool, true, false, cond}
use mathlib.Core.List.{List}
use native.Mathlib.Omega.{arith}
use borrow.Author.Tests.{lt-ltb, le-ltb, ltb-true, ltb-false, le-leb, lt-leb}
use lib.Dec.{ltb, leb}
use lib.ListN.{length, take, drop, get_or}
use lib.Seq.{drop-drop}
use Rattle.text.specs.Answers.{BadAt}
use Rattle.text.specs.Characters.{first_bad_from, is_allowed, all_allowed}
use Rattle.text.proofs.Bytes.{drop-one}
use Rattle.text.proofs.Allowed.{bad-end, all-cut}

-- The least byte so far is at least 32, the greatest at most 126, and the rest is as t says.
unfoldable pub passed : ℕ → ℕ → Bool → Bool
passed least most t = cond (ltb least 32) false (cond (ltb 126 most) false t)

-- The bytes of a part from i on are allowed.
unfoldable pub left : ℕ → List ℕ → Bool
left i l = is_allowed (first_bad_from i (drop i l))

-- The bytes of four parts from i on are allowed.
abbrev pub left4 : ℕ → List ℕ → List ℕ → List ℕ → List ℕ → Bool
left4 i a b c d = cond (left i a) (cond (left i b) (cond (left i c) (left i d) false) false) false

-- Before the first turn nothing has passed, and all is left.
pub passed_start : (l : List ℕ) → all_allowed l ≡ passed 126 32 (left 0 l)
unfolding all_allowed passed left
passed_start l = refl

-- A byte below 32 passes nowhere.
pub passed-low : (least most : ℕ) (t : Bool) → least < 32 → passed least most t ≡ false
unfolding passed
passed-low least most t h = rw (lt-ltb least 32 h)

-- Where no byte is left, the greatest byte decides once the least is at least 32.
pub passed-end : (least most : ℕ) (t : Bool) → 32 ≤ least → t ≡ true → passed least most t ≡ leb most 126
unfolding passed
passed-end least most t h e = rw (le-ltb least 32 h, e) (go (ltb 126 most) refl)
  where
    go : (s : Bool) → ltb 126 most ≡ s → cond s false true ≡ leb most 126
    go true f = sym (lt-leb most 126 (ltb-true 126 most f))
    go false f = sym (le-leb most 126 (ltb-false 126 most f))

-- Where no byte is left, all that are left are allowed.
pub left_end : (l : List ℕ) (i : ℕ) → length l ≤ i → left i l ≡ true
unfolding left
left_end l i h = rw (bad-end l i h)

-- Where nothing passes, it does not matter how many tests come before.
both_false : (t : Bool) → cond t false false ≡ false
both_false true = refl
both_false false = refl

-- A byte of at least 32 leaves it as it was whether the least is below 32.
low_same : (b least : ℕ) → 32 ≤ b → ltb (min b least) 32 ≡ ltb least 32
low_same b least h = go (ltb least 32) refl
  where
    go : (s : Bool) → ltb least 32 ≡ s → ltb (min b least) 32 ≡ s
    go true r = lt-ltb (min b least) 32 (omega (arith, ltb-true least 32 r))
    go false r = le-ltb (min b least) 32 (omega (arith, ltb-false least 32 r))

-- A byte of at most 126 leaves it as it was whether the greatest is above 126.
high_same : (b most : ℕ) → b ≤ 126 → ltb 126 (max b most) ≡ ltb 126 most
high_same b most h = go (ltb 126 most) refl
  where
    go : (s : Bool) → ltb 126 most ≡ s → ltb 126 (max b most) ≡ s
    go true r = lt-ltb 126 (max b most) (omega (arith, ltb-true 126 most r))
    go false r = le-ltb 126 (max b most) (omega (arith, ltb-false 126 most r))

-- A turn takes one byte from what is left into the least and the greatest; f is what else is asked.
pub passed_on : (l : List ℕ) (i : ℕ) → i < length l → (f : Bool → Bool) → f false ≡ false → (least most : ℕ) → passed least most (f (left i l)) ≡ passed (min (get_or l i 0) least) (max (get_or l i 0) most) (f (left (i + 1) l))
unfolding passed left first_bad_from
passed_on l i h f e least most = rw (drop-one l i h) (go (get_or l i 0) (ltb (get_or l i 0) 32) (ltb 126 (get_or l i 0)) refl refl)
  where
    nowhere : (x y : Bool) → cond x false (cond y false (f false)) ≡ false
    nowhere true y = refl
    nowhere false true = refl
    nowhere false false = e

    go : (b : ℕ) (u v : Bool) → ltb b 32 ≡ u → ltb 126 b ≡ v → cond (ltb least 32) false (cond (ltb 126 most) false (f (is_allowed (cond (cond u false (cond v false true)) (first_bad_from (i + 1) (drop (i + 1) l)) (BadAt i))))) ≡
        cond (ltb (min b least) 32) false (cond (ltb 126 (max b most)) false (f (is_allowed (first_bad_from (i + 1) (drop (i + 1) l)))))
    go b true v p q = nowhere (ltb least 32) (ltb 126 most) ∙ sym (rw (lt-ltb (min b least) 32 (omega (arith, ltb-true b 32 p))))
    go b false true p q = nowhere (ltb least 32) (ltb 126 most) ∙ sym (rw (lt-ltb 126 (max b most) (omega (arith, ltb-true 126 b q))) (both_false (ltb (min b least) 32)))
    go b false false p q = rw (low_same b least (ltb-false b 32 p), high_same b most (ltb-false 126 b q))

-- A turn over four parts takes a byte from each.
pub passed-on4 : (a b c d : List ℕ) (i : ℕ) → i < length a → i < length b → i < length c → i < length d → (least most : ℕ) → passed least most (left4 i a b c d) ≡
    passed (min (get_or d i 0) (min (get_or c i 0) (min (get_or b i 0) (min (get_or a i 0) least)))) (max (get_or d i 0) (max (get_or c i 0) (max (get_or b i 0) (max (get_or a i 0) most)))) (left4 (i + 1) a b c d)
passed-on4 a b c d i ha hb hc hd least most =
    passed_on a i ha (λ (t : Bool). cond t (cond (left i b) (cond (left i c) (left i d) false) false) false) refl least most
    ∙ (passed_on b i hb (λ (t : Bool). cond (left (i + 1) a) (cond t (cond (left i c) (left i d) false) false) false) (both_false (left (i + 1) a)) _ _
    ∙ (passed_on c i hc (λ (t : Bool). cond (left (i + 1) a) (cond (left (i + 1) b) (cond t (left i d) false) false) false) (rw (both_false (left (i + 1) b)) (both_false (left (i + 1) a))) _ _
    ∙ passed_on d i hd (λ (t : Bool). cond (left (i + 1) a) (cond (left (i + 1) b) (cond (left (i + 1) c) t false) false) false) (rw (both_false (left (i + 1) c), both_false (left (i + 1) b)) (both_false (left (i + 1) a))) _ _))

-- Where no byte of the four is left, all that are left are allowed.
pub left4-end : (a b c d : List ℕ) (i : ℕ) → length a ≤ i → length b ≤ i → length c ≤ i → length d ≤ i → left4 i a b c d ≡ true
left4-end a b c d i ha hb hc hd = rw (left_end a i ha, left_end b i hb, left_end c i hc, left_end d i hd)

-- Four quarters in a row are allowed where each of them is.
all-cut4 : (l : List ℕ) (q : ℕ) → all_allowed (take (q * 4) l) ≡ cond (all_allowed (take q l)) (cond (all_allowed (take q (drop q l))) (cond (all_allowed (take q (drop (q * 2) l))) (all_allowed (take q (drop (q * 3) l))) false) false) false
all-cut4 l q =
    let n : q * 4 ≡ q + (q + (q + q)) = omega arith in
    let d2 : drop q (drop q l) ≡ drop (q * 2) l = drop-drop q q l ∙ ap (λ (k : ℕ). drop k l) (let s : q + q ≡ q * 2 = omega arith in s) in
    let d3 : drop q (drop (q * 2) l) ≡ drop (q * 3) l = drop-drop q (q * 2) l ∙ ap (λ (k : ℕ). drop k l) (let s : q * 2 + q ≡ q * 3 = omega arith in s) in
    rw (n, all-cut l q (q + (q + q)), all-cut (drop q l) q (q + q), d2, all-cut (drop (q * 2) l) q q, d3)

-- Before the first turn over the four quarters nothing has passed, and all is left.
pub passed-start4 : (l : List ℕ) (q : ℕ) → all_allowed (take (q * 4) l) ≡ passed 126 32 (left4 0 (take q l) (take (q * 2 - q) (drop q l)) (take (q * 3 - q * 2) (drop (q * 2) l)) (take (q * 4 - q * 3) (drop (q * 3) l)))
unfolding all_allowed passed left
passed-start4 l q =
    let n2 : q * 2 - q ≡ q = omega arith in
    let n3 : q * 3 - q * 2 ≡ q = omega arith in
    let n4 : q * 4 - q * 3 ≡ q = omega arith in
    rw (n2, n3, n4) (all-cut4 l q)
