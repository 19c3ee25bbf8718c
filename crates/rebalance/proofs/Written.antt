-- Stored fields that stand apart within a record: what the record holds once they are written, and what passing their checks says of it.
use Prim.Native.Nat.{ℕ, ◌+◌, ◌-◌, ◌^◌, ◌<◌, ◌≤◌}
use mathlib.Core.Path.{◌≡◌, refl, sym, ap, ◌∙◌}
use mathlib.Core.Bool.{Bool, true, false, cond, true≢false}
use mathlib.Core.List.{List, [], ◌∷◌}
use native.Mathlib.Omega.{arith}
use borrow.Author.Tests.{ltb-true, lt-ltb, leb-true, eqb-true, eq-eqb}
use lib.Dec.{leb, lit<}
use lib.ListN.{length, take, drop, get_or, length-drop}
use lib.Seq.{get_or-take, get_or-drop, length-take-le, drop-cons}
use Rattle.text.specs.Answers.{Allowed, Digits, Number, NonDigit, TooLong}
use Rattle.text.specs.Characters.{first_bad}
use Rattle.text.specs.Numbers.{number_of, amount_of, digits_of}
use Rattle.text.specs.Placing.{put_at}
use Rattle.text.proofs.Numerals.{number-below, number_digits, length_digits, digits-of-number}
use Rattle.text.proofs.NonDigits.{Tells, non-digit, digits-told, written-digits}
use Rattle.text.proofs.Puts.{length-put, put-here, put-after, put-before, put_same, put-allowed}
use Rattle.layout.specs.declared.Field.{Field}
use Rattle.layout.specs.Fields.{bytes_of, value_of}
use Rattle.refusal.specs.Outcomes.{Outcome, Pass}
use Rattle.rules.specs.Stored.{Stored, Value, Mark, right, fault_of, wrong}
use Rattle.rules.specs.Checks.{or_bad, bad_fields}
use Rattle.rebalance.specs.Rebalance.{start_of, width_of, text_of, put_all, fits_one, fits_all, clear}
use Rattle.text.proofs.Tests.{both_true}

-- A byte is a part of one byte.
pub byte_of : (r : List ℕ) (c : ℕ) → get_or r c 0 ≡ get_or (take 1 (drop c r)) 0 0
byte_of r c = let e : c + 0 ≡ c = omega arith in rw (get_or-take 1 (drop c r) 0 0 (lit< tt), get_or-drop, e)

-- Stored fields lie within a record of 120 bytes, and none overlaps another.
unfoldable pub laid : List Stored → Bool
laid [] = true
laid (x ∷ xs) = cond (leb (start_of x + width_of x) 120) (cond (clear (start_of x) (width_of x) xs) (laid xs) false) false

-- A stored field has as many bytes as its text.
pub length-text : (x : Stored) → length (text_of x) ≡ width_of x
length-text (Value n f v) = length_digits (f.end - f.start) v
length-text (Mark n c b) = refl

-- A record in which a stored field is written.
abbrev pub put : Stored → List ℕ → List ℕ
put x r = put_at (start_of x) (text_of x) r

-- The first of stored fields lies within the record and outside the others, these are laid out, and writing it leaves the record its length.
record First (x : Stored) (xs : List Stored) (r : List ℕ) : Type 0 where
  room : start_of x + length (text_of x) ≤ length r
  apart : clear (start_of x) (width_of x) xs ≡ true
  others : laid xs ≡ true
  sized : length (put x r) ≡ 120

-- So it is with stored fields that are laid out.
first_of : (x : Stored) (xs : List Stored) (r : List ℕ) → laid (x ∷ xs) ≡ true → length r ≡ 120 → First x xs r
unfolding laid
first_of x xs r h l =
    let p = both_true (leb (start_of x + width_of x) 120) _ h in
    let q = both_true (clear (start_of x) (width_of x) xs) (laid xs) p.1 in
    let k : start_of x + length (text_of x) ≤ length r = omega (arith, length-text x, leb-true (start_of x + width_of x) 120 p.0) in
    record { room = k; apart = q.0; others = q.1; sized = length-put (start_of x) (text_of x) r k ∙ l }

-- Bytes outside a stored field stay when it is written.
put-clear : (x : Stored) (r : List ℕ) (m n : ℕ) → start_of x + length (text_of x) ≤ length r → cond (leb (m + n) (start_of x)) true (leb (start_of x + width_of x) m) ≡ true → take n (drop m (put x r)) ≡ take n (drop m r)
put-clear x r m n k e = go (leb (m + n) (start_of x)) refl e
  where
    go : (t : Bool) → leb (m + n) (start_of x) ≡ t → cond t true (leb (start_of x + width_of x) m) ≡ true → take n (drop m (put x r)) ≡ take n (drop m r)
    go true p q = put-before (start_of x) (text_of x) r k n m (leb-true (m + n) (start_of x) p)
    go false p q = ap (take n) (put-after (start_of x) (text_of x) r k m (omega (arith, length-text x, leb-true (start_of x + width_of x) m q)))

-- A record has its length after its stored fields are written.
pub length-put_all : (xs : List Stored) (r : List ℕ) → laid xs ≡ true → length r ≡ 120 → length (put_all xs r) ≡ 120
unfolding put_all
length-put_all [] r h l = l
length-put_all (x ∷ xs) r h l = let t = first_of x xs r h l in length-put_all xs (put x r) t.others t.sized

-- Bytes outside the stored fields stay when these are written.
pub put_all-clear : (xs : List Stored) (r : List ℕ) → laid xs ≡ true → length r ≡ 120 → (m n : ℕ) → clear m n xs ≡ true → take n (drop m (put_all xs r)) ≡ take n (drop m r)
unfolding put_all clear
put_all-clear [] r h l m n e = refl
put_all-clear (x ∷ xs) r h l m n e =
    let t = first_of x xs r h l in
    let p = both_true _ (clear m n xs) e in
    put_all-clear xs (put x r) t.others t.sized m n p.1 ∙ put-clear x r m n t.room p.0

-- The record holds what every stored field should hold.
abbrev pub Holds : List Stored → List ℕ → Type 0
Holds [] r = Unit {0}
Holds (x ∷ xs) r = (take (width_of x) (drop (start_of x) r) ≡ text_of x) × Holds xs r

-- Written fields are held.
pub put_all-holds : (xs : List Stored) (r : List ℕ) → laid xs ≡ true → length r ≡ 120 → Holds xs (put_all xs r)
unfolding put_all
put_all-holds [] r h l = tt
put_all-holds (x ∷ xs) r h l =
    let t = first_of x xs r h l in (
      put_all-clear xs (put x r) t.others t.sized (start_of x) (width_of x) t.apart ∙ put-here (start_of x) (text_of x) r t.room (width_of x) (sym (length-text x)),
      put_all-holds xs (put x r) t.others t.sized,
    )

-- Writing what is held changes nothing.
pub holds_same : (xs : List Stored) (r : List ℕ) → laid xs ≡ true → length r ≡ 120 → Holds xs r → put_all xs r ≡ r
unfolding put_all
holds_same [] r h l o = refl
holds_same (x ∷ xs) r h l o =
    let t = first_of x xs r h l in
    ap (put_all xs) (put_same (start_of x) (text_of x) r t.room (rw length-text o.0)) ∙ holds_same xs r t.others l o.1

-- The text of every stored field is made of characters that a flow may hold.
abbrev pub Printable : List Stored → Type 0
Printable [] = Unit {0}
Printable (x ∷ xs) = (first_bad (text_of x) ≡ Allowed) × Printable xs

-- Writing printable fields leaves every byte of a record a character.
pub put_all-allowed : (xs : List Stored) (r : List ℕ) → laid xs ≡ true → length r ≡ 120 → Printable xs → first_bad r ≡ Allowed → first_bad (put_all xs r) ≡ Allowed
unfolding put_all
put_all-allowed [] r h l p e = e
put_all-allowed (x ∷ xs) r h l p e =
    let t = first_of x xs r h l in
    put_all-allowed xs (put x r) t.others t.sized p.1 (put-allowed (start_of x) (text_of x) r t.room p.0 e)

-- The numeric fields among stored fields.
unfoldable pub value_fields : List Stored → List Field
value_fields [] = []
value_fields (Value n f v ∷ xs) = f ∷ value_fields xs
value_fields (Mark n c b ∷ xs) = value_fields xs

-- A field that holds a number that fits it reads as that number.
holds-number : (n : ℕ) (f : Field) (v : ℕ) (r : List ℕ) → fits_one (Value n f v) ≡ true → bytes_of r f ≡ text_of (Value n f v) → number_of (bytes_of r f) ≡ Number v
holds-number n f v r h o = ap number_of o ∙ number_digits (f.end - f.start) v (ltb-true v (10 ^ (f.end - f.start)) h)

-- Digits that are written read as a number, also where the number that they were written for has more.
written-number : (w n : ℕ) → (v : ℕ) × (number_of (digits_of w n) ≡ Number v)
written-number w n = go (number_of (digits_of w n)) refl (digits-told (digits_of w n))
  where
    go : (d : Digits) → number_of (digits_of w n) ≡ d → Tells 0 (digits_of w n) d → (v : ℕ) × (number_of (digits_of w n) ≡ Number v)
    go (Number v) e t = (v, e)
    go (NonDigit k) e (non-digit m q h x g) = absurd (true≢false (sym (written-digits w n m (omega (arith, length_digits w n))) ∙ x))
    go TooLong e t = elim t [ ]

-- Held fields are made of digits, whether they fit or not.
pub holds-numbers : (xs : List Stored) (r : List ℕ) → Holds xs r → bad_fields (value_fields xs) r ≡ Pass
unfolding bad_fields value_fields
holds-numbers [] r o = refl
holds-numbers (Value n g v ∷ xs) r o = rw (ap number_of o.0 ∙ (written-number (g.end - g.start) v).1) (holds-numbers xs r o.1)
holds-numbers (Mark n c b ∷ xs) r o = holds-numbers xs r o.1

-- A held field that fits is right.
pub holds-right : (x : Stored) (r : List ℕ) → fits_one x ≡ true → take (width_of x) (drop (start_of x) r) ≡ text_of x → right x r ≡ true
holds-right (Value n f v) r h o = eq-eqb _ _ (ap amount_of (holds-number n f v r h o))
holds-right (Mark n c b) r h o = eq-eqb _ _ (byte_of r c ∙ ap (λ (t : List ℕ). get_or t 0 0) o)

-- Held fields that fit pass their checks.
pub holds-pass : (xs : List Stored) (r : List ℕ) → fits_all xs ≡ true → Holds xs r → wrong xs r ≡ Pass
unfolding fits_all
holds-pass [] r f o = refl
holds-pass (x ∷ xs) r f o = let p = both_true _ _ f in rw (holds-right x r p.0 o.0) (holds-pass xs r p.1 o.1)

-- A field that passes its check is right, and so are those after it.
wrong-pass : (x : Stored) (t : Bool) (o : Outcome) → cond t o (fault_of x) ≡ Pass → (t ≡ true) × (o ≡ Pass)
wrong-pass x true o e = (refl, e)
wrong-pass (Value n f v) false o e = (cc, cc)
wrong-pass (Mark n c b) false o e = (cc, cc)

-- Where a list of fields is of digits, the first reads as a number and the others are of digits.
pub digits-pass : (d : Digits) (f : Field) (o : Outcome) → or_bad d f o ≡ Pass → (d ≡ Number (amount_of d)) × (o ≡ Pass)
digits-pass (Number v) f o e = (refl, e)
digits-pass (NonDigit i) f o e = (cc, cc)
digits-pass TooLong f o e = (cc, cc)

-- A stored number has as many bytes in the record as its field says.
length-bytes : (n : ℕ) (f : Field) (v : ℕ) (r : List ℕ) → start_of (Value n f v) + length (text_of (Value n f v)) ≤ length r → length (bytes_of r f) ≡ f.end - f.start
length-bytes n f v r h = length-take-le (f.end - f.start) (drop f.start r) (rw length-drop (omega (arith, length-text (Value n f v))))

-- What stored fields that pass their checks should hold fits them.
pub pass_fits : (xs : List Stored) (r : List ℕ) → laid xs ≡ true → length r ≡ 120 → wrong xs r ≡ Pass → fits_all xs ≡ true
unfolding fits_all
pass_fits [] r h l e = refl
pass_fits (Value n f v ∷ xs) r h l e =
    let t = first_of (Value n f v) xs r h l in
    let p = wrong-pass (Value n f v) (right (Value n f v) r) (wrong xs r) e in
    let k : value_of r f < 10 ^ (f.end - f.start) = number-below (f.end - f.start) (bytes_of r f) (length-bytes n f v r t.room) in
    rw (lt-ltb v (10 ^ (f.end - f.start)) (rw (eqb-true (value_of r f) v p.0) at k)) (pass_fits xs r t.others l p.1)
pass_fits (Mark n c b ∷ xs) r h l e = pass_fits xs r (first_of (Mark n c b) xs r h l).others l (wrong-pass (Mark n c b) (right (Mark n c b) r) (wrong xs r) e).1

-- Stored fields of digits that pass their checks are held.
pub pass-holds : (xs : List Stored) (r : List ℕ) → laid xs ≡ true → length r ≡ 120 → bad_fields (value_fields xs) r ≡ Pass → wrong xs r ≡ Pass → Holds xs r
unfolding bad_fields value_fields
pass-holds [] r h l b e = tt
pass-holds (Value n f v ∷ xs) r h l b e =
    let t = first_of (Value n f v) xs r h l in
    let p = wrong-pass (Value n f v) (right (Value n f v) r) (wrong xs r) e in
    let q = digits-pass (number_of (bytes_of r f)) f (bad_fields (value_fields xs) r) b in
    (sym (digits-of-number (f.end - f.start) v (bytes_of r f) (length-bytes n f v r t.room) (q.0 ∙ ap Number (eqb-true _ _ p.0))), pass-holds xs r t.others l q.1 p.1)
pass-holds (Mark n c b ∷ xs) r h l d e =
    let t = first_of (Mark n c b) xs r h l in
    let p = wrong-pass (Mark n c b) (right (Mark n c b) r) (wrong xs r) e in
    (rw (drop-cons r c 0 (omega (arith, t.room))) (ap (λ (x : ℕ). x ∷ []) (eqb-true _ _ p.0)), pass-holds xs r t.others l d p.1)
