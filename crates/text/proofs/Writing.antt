-- A store at a time: what is put is what the stores of the writing loops leave.
use Prim.Native.Nat.{ℕ, zero, suc, ◌+◌, ◌-◌, ◌/◌, ◌%◌, ◌<◌, ◌≤◌}
use mathlib.Core.Path.{◌≡◌, ap, ◌∙◌}
use mathlib.Core.List.{List, [], ◌∷◌, ◌++◌, append_assoc}
use native.Mathlib.Omega.{arith}
use lib.ListN.{length, take, drop, get_or, set, length-append, length-set, take-append-drop, drop_of_length-le}
use lib.Seq.{take-set-le, drop-cons, get_or-set_same, drop-set-lt, take-suc-set}
use Rattle.text.specs.Numbers.{digits_of}
use Rattle.text.specs.Placing.{put_at}
use Rattle.text.proofs.Bytes.{drop-one}
use Rattle.text.proofs.Numerals.{length_digits}

-- Nothing put changes nothing.
pub put-none : (at : ℕ) (l : List ℕ) → put_at at [] l ≡ l
unfolding put_at
put-none at l = ap (λ (n : ℕ). take at l ++ drop n l) (let h : at + 0 ≡ at = omega arith in h) ∙ take-append-drop at l

-- A list from the place of a store on is the byte stored and what stood after it.
set_rest : (l : List ℕ) (i b : ℕ) → i < length l → drop i (set l i b) ≡ b ∷ drop (suc i) l
set_rest l i b h = rw (drop-cons (set l i b) i 0 (rw length-set h), get_or-set_same l i b 0 h, drop-set-lt (suc i) l i b (omega arith))

-- The last byte of a put may be stored first.
put-snoc : (at : ℕ) (xs : List ℕ) (x : ℕ) (l : List ℕ) → at + length xs < length l → put_at at (xs ++ (x ∷ [])) l ≡ put_at at xs (set l (at + length xs) x)
unfolding put_at
put-snoc at xs x l h =
    rw (take-set-le at l (at + length xs) x (omega arith), set_rest l (at + length xs) x h, append_assoc xs (x ∷ []) (drop (at + length (xs ++ (x ∷ []))) l))
    (ap (λ (n : ℕ). take at l ++ (xs ++ (x ∷ drop n l))) (let e : at + length (xs ++ (x ∷ [])) ≡ suc (at + length xs) = omega (arith, length-append xs (x ∷ [])) in e))

-- A turn of the loop over digits stores the last digit.
pub digits-on : (at i n : ℕ) (l : List ℕ) → 0 < i → at + i ≤ length l → put_at at (digits_of i n) l ≡ put_at at (digits_of (i - 1) (n / 10)) (set l (at + (i - 1)) (48 + n % 10))
unfolding digits_of
digits-on at zero n l h k = absurd (omega arith)
digits-on at (suc i) n l h k =
    let e : suc i - 1 ≡ i = omega arith in
    let d = length_digits i (n / 10) in
    rw e (put-snoc at (digits_of i (n / 10)) (48 + n % 10) l (omega arith) ∙ ap (λ (j : ℕ). put_at at (digits_of i (n / 10)) (set l (at + j) (48 + n % 10))) d)

-- Where no digit is left, nothing is written any more.
pub digits-end : (at i n : ℕ) (l : List ℕ) → i ≤ 0 → put_at at (digits_of i n) l ≡ l
unfolding digits_of
digits-end at i n l h = rw (let e : i ≡ 0 = omega arith in e) (put-none at l)

-- The first byte of a put may be stored first.
pub put-cons : (at b : ℕ) (bs l : List ℕ) → at < length l → put_at at (b ∷ bs) l ≡ put_at (suc at) bs (set l at b)
unfolding put_at
put-cons at b bs l h =
    rw (take-suc-set l at b h, drop-set-lt (suc at + length bs) l at b (omega arith), append_assoc)
    (ap (λ (n : ℕ). take at l ++ (b ∷ (bs ++ drop n l))) (let e : at + suc (length bs) ≡ suc at + length bs = omega arith in e))

-- A turn of the loop over a part stores its first byte that is left.
pub part-on : (at i : ℕ) (bs l : List ℕ) → i < length bs → at + i < length l → put_at (at + i) (drop i bs) l ≡ put_at (at + (i + 1)) (drop (i + 1) bs) (set l (at + i) (get_or bs i 0))
part-on at i bs l h k =
    let e : suc (at + i) ≡ at + (i + 1) = omega arith in
    rw (drop-one bs i h) (put-cons (at + i) (get_or bs i 0) (drop (i + 1) bs) l k ∙ ap (λ (n : ℕ). put_at n (drop (i + 1) bs) (set l (at + i) (get_or bs i 0))) e)

-- Where no byte is left, nothing is written any more.
pub part_end : (at i : ℕ) (bs l : List ℕ) → length bs ≤ i → put_at (at + i) (drop i bs) l ≡ l
part_end at i bs l h = rw (drop_of_length-le bs h) (put-none (at + i) l)
