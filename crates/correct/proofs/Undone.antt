-- What the inner functions of a correction leave: a line's amounts written, and put back; 22, 9, 14 and 23 as they are tried.
use Prim.Native.Nat.{ℕ, ◌<◌, ◌≤◌}
use mathlib.Core.Path.{◌≡◌, refl, sym, ap, ap₂, ◌∙◌}
use mathlib.Core.Bool.{Bool, true, false}
use mathlib.Core.List.{List}
use native.Mathlib.Omega.{arith}
use borrow.Author.Tests.{lt-ltb, le-ltb}
use lib.ListN.{length, take, drop}
use Rattle.text.specs.Numbers.{digits_of}
use Rattle.text.specs.Placing.{put_at, number_bytes}
use Rattle.text.proofs.Bytes.{part_length}
use Rattle.text.proofs.Numerals.{length_digits}
use Rattle.text.proofs.Puts.{put-before, put_same, put-over, put_back}
use Rattle.text.proofs.Fits.{number_fits_lem, number-written}
use Rattle.rules.specs.State.{start_state}
use Rattle.amounts.specs.Amounts.{line_right}
use Rattle.judge.specs.Flow.{records_of}
use Rattle.judge.specs.Plain.{Whole}
use Rattle.rebalance.specs.Rebalance.{all_fit}
use Rattle.rebalance.specs.Weigh.{any_negative}
use Rattle.rebalance.proofs.Judged.{whole_same}
use Rattle.correct.specs.Answers.{Made, Refused}
use Rattle.correct.specs.Correction.{replaced, outcome_of, weighed, tried}
use Rattle.correct.specs.Writing.{amounts_put, Room, Fifteen}
use Rattle.correct.proofs.Putting.{credit-in, length-credit, debit-in, length-amounts}

module _ (f : List ℕ) (d c : ℕ) (room : Room f d c) where
  -- The bytes of an amount lie within the flow.
  old-length : (m : ℕ) → m ≤ c → length (take 15 (drop m f)) ≡ 15
  old-length m h = part_length 15 m f (let i = room.inside in omega arith)

  module _ (x y : ℕ) where
    -- Two numbers of fifteen digits, put one after the other.
    pub amounts-written : (l₁ l₂ : List ℕ) → Fifteen x → Fifteen y → l₁ ≡ number_bytes c 15 y f → l₂ ≡ number_bytes d 15 x l₁ → l₂ ≡ amounts_put d c x y f
    unfolding amounts_put
    amounts-written l₁ l₂ hx hy e₁ e₂ =
        let i = room.inside in
        let a = room.apart in
        let p = e₁ ∙ (number-written c 15 y f (number_fits_lem c 15 y (length f) i hy.digits)).1 in
        let n : length l₁ ≡ length f = ap length p ∙ length-credit f d c room y in
        e₂ ∙ ((number-written d 15 x l₁ (number_fits_lem d 15 x (length l₁) (omega arith) hx.digits)).1 ∙ ap (put_at d (digits_of 15 x)) p)

    -- What stood there, put back, restores the flow.
    undone : put_at c (take 15 (drop c f)) (put_at d (take 15 (drop d f)) (amounts_put d c x y f)) ≡ f
    unfolding amounts_put
    undone =
        let a = room.apart in
        let od = old-length d (omega arith) in
        let n = length_digits 15 x in
        let m = length_digits 15 y in
        let g = put_at c (digits_of 15 y) f in
        let same : take 15 (drop d g) ≡ take 15 (drop d f) = put-before c (digits_of 15 y) f (credit-in f d c room y) 15 d a in
        let inner : put_at d (take 15 (drop d f)) (put_at d (digits_of 15 x) g) ≡ g =
        put-over d (digits_of 15 x) g (debit-in f d c room x y) (take 15 (drop d f)) (od ∙ sym n)
        ∙ put_same d (take 15 (drop d f)) g (omega (arith, length-credit f d c room y, room.inside)) (rw od same)
        in
        ap (put_at c (take 15 (drop c f))) inner ∙ (ap (λ (w : ℕ). put_at c (take w (drop c f)) g) (sym m) ∙ put_back c (digits_of 15 y) f (credit-in f d c room y))

    -- So do the bytes that were copied before the writing.
    pub restored : (u v g : List ℕ) → u ≡ take 15 (drop d f) → v ≡ take 15 (drop c f) → g ≡ amounts_put d c x y f → put_at c v (put_at d u g) ≡ f
    restored u v g p q r = rw (p, q, r) undone

-- A flow of whole records is one with other amounts too.
pub whole-amounts : (f : List ℕ) (d c : ℕ) → Room f d c → (x y : ℕ) → Whole f → Whole (amounts_put d c x y f)
whole-amounts f d c room x y w = whole_same f (amounts_put d c x y f) (length-amounts f d c room x y) w

-- 14, 23, or made.
module _ (t : List ℕ) where
  pub weighed-by : (negative fits : Bool) → negative ≡ any_negative start_state (records_of t) → fits ≡ all_fit start_state (records_of t) → outcome_of negative fits ≡ weighed t
  unfolding weighed
  weighed-by negative fits p q = ap₂ outcome_of p q

  -- What is made fits.
  pub made-fits : weighed t ≡ Made → all_fit start_state (records_of t) ≡ true
  unfolding weighed
  made-fits e = go (any_negative start_state (records_of t)) (all_fit start_state (records_of t)) e
    where
      go : (a b : Bool) → outcome_of a b ≡ Made → b ≡ true
      go true true e = refl
      go true false e = cc
      go false true e = refl
      go false false e = cc

-- 22, 9, or what the rest says.
module _ (k s x y : ℕ) (f : List ℕ) where
  pub tried-debit : 999_999_999_999_999 < x → tried k s x y f ≡ Refused 22 0 0
  unfolding tried
  tried-debit h = rw (lt-ltb _ _ h)

  pub tried-credit : x ≤ 999_999_999_999_999 → 999_999_999_999_999 < y → tried k s x y f ≡ Refused 22 0 0
  unfolding tried
  tried-credit g h = rw (le-ltb _ _ g, lt-ltb _ _ h)

  pub tried-wrong : x ≤ 999_999_999_999_999 → y ≤ 999_999_999_999_999 → line_right s x y ≡ false → tried k s x y f ≡ Refused 9 0 0
  unfolding tried
  tried-wrong g h e = rw (le-ltb _ _ g, le-ltb _ _ h, e)

  pub tried-weighed : x ≤ 999_999_999_999_999 → y ≤ 999_999_999_999_999 → line_right s x y ≡ true → tried k s x y f ≡ weighed (replaced k s x y f)
  unfolding tried
  tried-weighed g h e = rw (le-ltb _ _ g, le-ltb _ _ h, e)
