-- Laws of one text after another in a room: what is put is a step of printing, and two steps are one.
use Prim.Native.Nat.{ℕ, suc, ◌+◌, ◌^◌, ◌≤◌, ◌<◌}
use mathlib.Core.Path.{◌≡◌, refl, sym, ap, ◌∙◌}
use mathlib.Core.List.{List, [], ◌∷◌, ◌++◌, append_assoc}
use native.Mathlib.Omega.{arith}
use lib.ListN.{length, take, drop, set, length-append, take-append-drop}
use lib.Seq.{length-take-le, take_at, set_split}
use Rattle.text.specs.Numbers.{digits_of}
use Rattle.text.specs.Placing.{put_at, number_bytes}
use Rattle.text.proofs.Fits.{number_fits_lem, number-written}
use Rattle.text.proofs.Numerals.{length_digits}
use Rattle.text.proofs.Puts.{length-put, put-after, put_is}
use Rattle.printing.specs.Decimal.{width_of, decimal}
use Rattle.printing.specs.Appended.{Appended}
use Rattle.printing.proofs.Widths.{width-twenty, width-enough}

module _ (s : ℕ) (xs ys r : List ℕ) (h : s + length xs ≤ length r) where
  -- What stands up to the end of a put is what stood before it, and the bytes that were put.
  put-up-to : take (s + length xs) (put_at s xs r) ≡ take s r ++ xs
  unfolding put_at
  put-up-to =
      rw (← (append_assoc (take s r) xs (drop (s + length xs) r)))
      (take_at (take s r ++ xs) (drop (s + length xs) r) (s + length xs) (rw (length-append, length-take-le s r (omega arith))))

  -- A put right after another is one put of both.
  pub put-append : put_at (s + length xs) ys (put_at s xs r) ≡ put_at s (xs ++ ys) r
  put-append =
      let e : s + length xs + length ys ≡ s + length (xs ++ ys) = omega (arith, length-append xs ys) in
      rw (put_is (s + length xs) ys (put_at s xs r), put-up-to, put-after s xs r h (s + length xs + length ys) (omega arith), put_is s (xs ++ ys) r, ← e)
      (simp append_assoc)

-- Bytes that were put are a step of printing.
pub append-put : {s : ℕ} {t : List ℕ} {m : ℕ} {r r' : List ℕ} {e : ℕ} → r' ≡ put_at s t r → e ≡ s + length t → length t ≤ m → s + length t ≤ length r → Appended s t m r r' e
append-put {s} {t} {r = r} b n l f =
    record { bytes = b; next = n; short = l; fits = omega arith; same = ap length b ∙ length-put s t r f }

-- Nothing printed is a step of printing.
pub append-none : {s : ℕ} {r : List ℕ} → s ≤ length r → Appended s [] 0 r r s
append-none {s} {r} h =
    let e : s ≡ s + 0 = omega arith in
    append-put (sym (take-append-drop s r) ∙ (ap (λ (n : ℕ). take s r ++ drop n r) e ∙ sym (put_is s [] r))) e (omega arith) (omega arith)

-- One byte stored is a step of printing.
pub append-byte : {s b : ℕ} {r : List ℕ} → s < length r → Appended s (b ∷ []) 1 r (set r s b) (s + 1)
append-byte {s} {b} {r} h =
    let e : suc s ≡ s + 1 = omega arith in
    append-put (set_split r s b h ∙ (ap (λ (n : ℕ). take s r ++ (b ∷ drop n r)) e ∙ sym (put_is s (b ∷ []) r))) refl (omega arith) (omega arith)

-- A number that was put in w digits is a step of printing.
pub append-number : {s w n : ℕ} {r r' : List ℕ} → r' ≡ number_bytes s w n r → n < 10 ^ w → s + w ≤ length r → (m : ℕ) → w ≤ m → Appended s (digits_of w n) m r r' (s + w)
append-number {s} {w} {n} {r} b h f m l =
    let d : length (digits_of w n) ≡ w = length_digits w n in
    append-put (b ∙ (number-written s w n r (number_fits_lem s w n (length r) f h)).1) (omega arith) (omega arith) (omega arith)

-- A number of 64 bits that was put in as many digits as it has is a step of printing.
pub append-decimal : {s w n : ℕ} {r r' : List ℕ} → r' ≡ number_bytes s w n r → w ≡ width_of n → n < 2 ^ 64 → s + 20 ≤ length r → Appended s (decimal n) 20 r r' (s + w)
unfolding decimal
append-decimal {s} {w} {n} {r} b e h f =
    let l : w ≤ 20 = omega (arith, width-twenty n h) in
    rw (← e) (append-number b (rw e (width-enough n)) (omega arith) 20 l)

module _ {s : ℕ} {xs : List ℕ} {m : ℕ} {r r' : List ℕ} {e : ℕ} (a : Appended s xs m r r' e) where
  -- Two steps of printing, one after the other, are one step of both texts.
  pub append-on : {ys : List ℕ} {n : ℕ} {r'' : List ℕ} {f : ℕ} → Appended e ys n r' r'' f → Appended s (xs ++ ys) (m + n) r r'' f
  append-on {ys} b =
      record {
        bytes = cc (put-append s xs ys r (omega arith));
        next = omega (arith, length-append xs ys);
        short = omega (arith, length-append xs ys);
        fits = omega arith;
        same = b.same ∙ a.same;
      }

  -- A step of printing puts any text that is equal to its own, and leaves it room for more.
  pub append-as : {t : List ℕ} {n : ℕ} → xs ≡ t → m ≤ n → Appended s t n r r' e
  append-as q l = rw (← q) (record { bytes = a.bytes; next = a.next; short = omega arith; fits = a.fits; same = a.same })
