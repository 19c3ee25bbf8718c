-- A line with other amounts: what stays of its record, and what it reads.
use Prim.Native.Nat.{ℕ, ◌+◌, ◌-◌, ◌^◌, ◌<◌, ◌≤◌}
use mathlib.Core.Path.{◌≡◌, sym, ap, ap₂, ◌∙◌}
use mathlib.Core.List.{List}
use native.Mathlib.Omega.{arith}
use lib.ListN.{length, take, drop, get_or}
use Rattle.text.specs.Answers.{Allowed, Number}
use Rattle.text.specs.Characters.{first_bad}
use Rattle.text.specs.Numbers.{digits_of, number_of}
use Rattle.text.specs.Placing.{put_at}
use Rattle.text.proofs.Bytes.{part_length}
use Rattle.text.proofs.Allowed.{allowed-digits}
use Rattle.text.proofs.Numerals.{number_digits, length_digits, digits-of-number}
use Rattle.text.proofs.Puts.{put-here, put-after, put-before, put_same, put-allowed}
use Rattle.layout.specs.declared.Kind.TheVariants.{Line}
use Rattle.layout.specs.Sections.{section_at}
use Rattle.layout.specs.Kinds.{type_of, kind_of, type_in, kind_in}
use Rattle.layout.specs.Fields.{amount_at, bytes_of, value_of}
use Rattle.layout.proofs.Table.{row-rule}
use Rattle.rebalance.proofs.Written.{byte_of}
use Rattle.layout.proofs.InTable.{line-within}
use Rattle.correct.specs.Writing.{amounts_put, Room}
use Rattle.correct.proofs.Putting.{credit-in, debit-in, length-amounts}

-- The record of a line of section s with other amounts.
unfoldable pub amended : ℕ → ℕ → ℕ → List ℕ → List ℕ
amended s x y r = amounts_put (section_at s).debit (section_at s).credit x y r

-- A record of 120 bytes, and a section of the table.
module _ (s : ℕ) (w : s < 5) (r : List ℕ) (l : length r ≡ 120) where
  -- Debit and credit lie within it.
  room : Room r (section_at s).debit (section_at s).credit
  room = record { apart = omega (arith, row-rule s w); inside = omega (arith, row-rule s w) }

  -- Fifteen digits have room at the credit.
  pub credit-room : (y : ℕ) → (section_at s).credit + length (digits_of 15 y) ≤ length r
  credit-room = credit-in r _ _ room

  -- So they have at the debit, after the credit is put.
  pub debit-room : (x y : ℕ) → (section_at s).debit + length (digits_of 15 x) ≤ length (put_at (section_at s).credit (digits_of 15 y) r)
  debit-room = debit-in r _ _ room

  module _ (x y : ℕ) where
    -- Other amounts leave the record its length.
    pub length-amended : length (amended s x y r) ≡ 120
    unfolding amended
    length-amended = length-amounts r _ _ room x y ∙ l

    -- The first twelve characters stay.
    pub amended-part : (n m : ℕ) → m + n ≤ 12 → take n (drop m (amended s x y r)) ≡ take n (drop m r)
    unfolding amended amounts_put
    amended-part n m h =
        put-before _ _ _ (debit-room x y) n m (omega (arith, row-rule s w)) ∙ put-before _ _ r (credit-room y) n m (omega (arith, row-rule s w))

    -- Each of them stays.
    amended-byte : (i : ℕ) → i < 12 → get_or (amended s x y r) i 0 ≡ get_or r i 0
    amended-byte i h = byte_of (amended s x y r) i ∙ (ap (λ (b : List ℕ). get_or b 0 0) (amended-part 1 i (omega arith)) ∙ sym (byte_of r i))

    -- The type stays.
    pub type-amended : type_in (amended s x y r) ≡ type_in r
    type-amended = ap₂ type_of (amended-byte 1 (omega arith)) (amended-byte 2 (omega arith))

    -- The kind stays.
    pub kind-amended : kind_in (amended s x y r) ≡ kind_in r
    unfolding kind_in
    kind-amended = ap₂ kind_of type-amended (ap number_of (amended-part 2 10 (omega arith)))

    -- The record stays made of characters.
    pub allowed-amended : first_bad r ≡ Allowed → first_bad (amended s x y r) ≡ Allowed
    unfolding amended amounts_put
    allowed-amended e = put-allowed _ _ _ (debit-room x y) (allowed-digits 15 x) (put-allowed _ _ r (credit-room y) (allowed-digits 15 y) e)

    -- The debit reads as the new one.
    pub debit-amended : x < 10 ^ 15 → number_of (bytes_of (amended s x y r) (amount_at (section_at s).debit)) ≡ Number x
    unfolding amended amounts_put
    debit-amended h = ap number_of (put-here _ _ _ (debit-room x y) ((section_at s).debit + 15 - (section_at s).debit) (omega (arith, length_digits 15 x))) ∙ number_digits 15 x h

    -- The credit reads as the new one.
    pub credit-amended : y < 10 ^ 15 → number_of (bytes_of (amended s x y r) (amount_at (section_at s).credit)) ≡ Number y
    unfolding amended amounts_put
    credit-amended h =
        rw (put-after (section_at s).debit (digits_of 15 x) (put_at (section_at s).credit (digits_of 15 y) r) (debit-room x y) (section_at s).credit (omega (arith, row-rule s w, length_digits 15 x)))
        (ap number_of (put-here _ _ r (credit-room y) ((section_at s).credit + 15 - (section_at s).credit) (omega (arith, length_digits 15 y))) ∙ number_digits 15 y h)

  -- A field of fifteen digits holds the digits of its number.
  digits-held : (c : ℕ) → c + 15 ≤ 120 → number_of (bytes_of r (amount_at c)) ≡ Number (value_of r (amount_at c)) → take 15 (drop c r) ≡ digits_of 15 (value_of r (amount_at c))
  digits-held c h e =
      let n : c + 15 - c ≡ 15 = omega arith in
      sym (digits-of-number 15 _ (take 15 (drop c r)) (part_length 15 c r (omega arith)) (ap (λ (m : ℕ). number_of (take m (drop c r))) (sym n) ∙ e))

  -- A line's own amounts leave every byte.
  pub amended-own : number_of (bytes_of r (amount_at (section_at s).debit)) ≡ Number (value_of r (amount_at (section_at s).debit)) → number_of (bytes_of r (amount_at (section_at s).credit)) ≡ Number (value_of r (amount_at (section_at s).credit)) →
      amended s (value_of r (amount_at (section_at s).debit)) (value_of r (amount_at (section_at s).credit)) r ≡ r
  unfolding amended amounts_put
  amended-own p q =
      let u = value_of r (amount_at (section_at s).debit) in
      let v = value_of r (amount_at (section_at s).credit) in
      let a = digits-held (section_at s).debit (omega (arith, row-rule s w)) p in
      let b = digits-held (section_at s).credit (omega (arith, row-rule s w)) q in
      let e : put_at (section_at s).credit (digits_of 15 v) r ≡ r = put_same _ _ r (credit-room v) (rw (length_digits 15 v) b) in
      rw e (put_same _ _ r (rw e at (debit-room u v)) (rw (length_digits 15 u) a))

-- A line with other amounts is a line of the same section.
pub line-amended : (s : ℕ) (r : List ℕ) → length r ≡ 120 → kind_in r ≡ Line s → (x y : ℕ) → kind_in (amended s x y r) ≡ Line s
line-amended s r l e x y = kind-amended s (line-within r s e) r l x y ∙ e
