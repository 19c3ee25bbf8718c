-- A line's two amounts written into a list: once, once more, and beside others.
use Prim.Native.Nat.{ℕ, ◌+◌, ◌-◌, ◌*◌, ◌≤◌}
use mathlib.Core.Path.{◌≡◌, sym, ap, ◌∙◌}
use mathlib.Core.List.{List}
use native.Mathlib.Omega.{arith}
use lib.ListN.{length}
use Rattle.text.specs.Numbers.{digits_of}
use Rattle.text.specs.Placing.{put_at}
use Rattle.text.proofs.Numerals.{length_digits}
use Rattle.text.proofs.Puts.{length-put, put-over, puts-commute}
use Rattle.layout.specs.Sections.{section_at}
use Rattle.layout.proofs.Table.{row-rule}
use Rattle.correct.specs.Writing.{amounts_put, Room, KthLine}

-- The amounts of a line lie within its record.
pub line-room : (f : List ℕ) (k s : ℕ) → KthLine f k s → Room f ((k - 1) * 120 + (section_at s).debit) ((k - 1) * 120 + (section_at s).credit)
line-room f k s h =
    let r = row-rule s h.section in
    let a = h.counted in
    let b = h.within in
    record { apart = omega arith; inside = omega arith }

module _ (f : List ℕ) (d c : ℕ) (room : Room f d c) where
  -- Both amounts lie within the list.
  pub credit-in : (y : ℕ) → c + length (digits_of 15 y) ≤ length f
  credit-in y = let i = room.inside in omega (arith, length_digits 15 y)

  pub length-credit : (y : ℕ) → length (put_at c (digits_of 15 y) f) ≡ length f
  length-credit y = length-put c (digits_of 15 y) f (credit-in y)

  pub debit-in : (x y : ℕ) → d + length (digits_of 15 x) ≤ length (put_at c (digits_of 15 y) f)
  debit-in x y = let i = room.inside in let a = room.apart in omega (arith, length_digits 15 x, length-credit y)

  module _ (x y : ℕ) where
    -- With other amounts the list has as many bytes.
    pub length-amounts : length (amounts_put d c x y f) ≡ length f
    unfolding amounts_put
    length-amounts = length-put d (digits_of 15 x) (put_at c (digits_of 15 y) f) (debit-in x y) ∙ length-credit y

    -- Other amounts again leave nothing of these.
    pub amounts-over : (u v : ℕ) → amounts_put d c u v (amounts_put d c x y f) ≡ amounts_put d c u v f
    unfolding amounts_put
    amounts-over u v =
        let i = room.inside in
        let h = room.apart in
        let a = put-over d (digits_of 15 x) (put_at c (digits_of 15 v) f) (debit-in x v) (digits_of 15 u) (length_digits 15 u ∙ sym (length_digits 15 x)) in
        let b = puts-commute d (digits_of 15 x) c (digits_of 15 v) (put_at c (digits_of 15 y) f) (omega (arith, length_digits 15 x)) (omega (arith, length_digits 15 v, length-credit y)) in
        let e = put-over c (digits_of 15 y) f (credit-in y) (digits_of 15 v) (length_digits 15 v ∙ sym (length_digits 15 y)) in
        rw (← b, e, a)

    -- Bytes that stand before both may be put there first or last.
    put-past : (s : ℕ) (bs : List ℕ) → s + length bs ≤ d → put_at s bs (amounts_put d c x y f) ≡ amounts_put d c x y (put_at s bs f)
    unfolding amounts_put
    put-past s bs h =
        let a = room.apart in
        puts-commute s bs d (digits_of 15 x) (put_at c (digits_of 15 y) f) h (debit-in x y) ∙ ap (put_at d (digits_of 15 x)) (puts-commute s bs c (digits_of 15 y) f (omega arith) (credit-in y))

-- The amounts of two lines, the one behind the other, may be written in either order.
pub amounts-past : (f : List ℕ) (d c i j : ℕ) → Room f d c → Room f i j → c + 15 ≤ i → (x y u v : ℕ) → amounts_put d c x y (amounts_put i j u v f) ≡ amounts_put i j u v (amounts_put d c x y f)
unfolding amounts_put
amounts-past f d c i j p q h x y u v =
    let l = length-credit f d c p y in
    let a = p.apart in
    let r : Room (put_at c (digits_of 15 y) f) i j = record { apart = q.apart; inside = rw l q.inside } in
    ap (put_at d (digits_of 15 x)) (put-past f i j q u v c (digits_of 15 y) (omega (arith, length_digits 15 y)))
    ∙ put-past (put_at c (digits_of 15 y) f) i j r u v d (digits_of 15 x) (omega (arith, length_digits 15 x))
