-- Laws of what fits a room: the sums behind the tests, and what a put answers and leaves by them.
use Prim.Native.Nat.{ℕ, ◌+◌, ◌^◌, ◌<◌, ◌≤◌}
use mathlib.Core.Path.{◌≡◌, refl, sym, ◌∙◌}
use mathlib.Core.Bool.{Bool, true, false, cond, false≢true}
use mathlib.Core.List.{List}
use native.Mathlib.Omega.{arith}
use borrow.Author.Tests.{le-leb, lt-leb, leb-true, lt-ltb, ltb-true}
use lib.Dec.{ltb}
use lib.ListN.{length, replicate, length-replicate}
use Rattle.text.specs.Answers.{Written, Unfit}
use Rattle.text.specs.Numbers.{digits_of}
use Rattle.text.proofs.Puts.{put_whole}
use Rattle.text.specs.Placing.{put_at, part_fits, number_fits, part_answer, part_bytes, number_answer, number_bytes}

module _ (s w l : ℕ) where
  -- A part that ends within the room fits.
  pub part-fits : s + w ≤ l → part_fits s w l ≡ true
  unfolding part_fits
  part-fits h = le-leb (s + w) l h

  -- A part that ends after the room does not fit.
  pub part-unfit : l < s + w → part_fits s w l ≡ false
  unfolding part_fits
  part-unfit h = lt-leb (s + w) l h

  -- A part that fits ends within the room.
  pub part-ends : part_fits s w l ≡ true → s + w ≤ l
  unfolding part_fits
  part-ends e = leb-true (s + w) l e

module _ (s w n l : ℕ) where
  -- Where the part fits, the number fits if it has at most as many digits.
  pub number-by-digits : part_fits s w l ≡ true → number_fits s w n l ≡ ltb n (10 ^ w)
  unfolding number_fits
  number-by-digits e = rw e

  -- Where the part does not fit, no number does.
  pub number-unfit : part_fits s w l ≡ false → number_fits s w n l ≡ false
  unfolding number_fits
  number-unfit e = rw e

  -- A number of at most w digits whose part ends within the room fits.
  pub number_fits_lem : s + w ≤ l → n < 10 ^ w → number_fits s w n l ≡ true
  unfolding number_fits
  number_fits_lem h k = rw (part-fits s w l h, lt-ltb n (10 ^ w) k)

  -- A number that fits has at most w digits, and its part ends within the room.
  pub number-ends : number_fits s w n l ≡ true → (s + w ≤ l) × (n < 10 ^ w)
  unfolding number_fits
  number-ends e = go (part_fits s w l) refl e
    where
      go : (t : Bool) → part_fits s w l ≡ t → cond t (ltb n (10 ^ w)) false ≡ true → (s + w ≤ l) × (n < 10 ^ w)
      go true p q = (part-ends s w l p, ltb-true n (10 ^ w) q)
      go false p q = absurd (false≢true q)

module _ (s : ℕ) (bs r : List ℕ) where
  -- A part that fits is written.
  pub part-written : part_fits s (length bs) (length r) ≡ true → (part_answer s bs r ≡ Written) × (part_bytes s bs r ≡ put_at s bs r)
  unfolding part_answer part_bytes
  part-written e = (rw e, rw e)

  -- A part that does not fit leaves every byte.
  pub part-kept : part_fits s (length bs) (length r) ≡ false → (part_answer s bs r ≡ Unfit) × (part_bytes s bs r ≡ r)
  unfolding part_answer part_bytes
  part-kept e = (rw e, rw e)

module _ (s w n : ℕ) (r : List ℕ) where
  -- A number that fits is written.
  pub number-written : number_fits s w n (length r) ≡ true → (number_answer s w n r ≡ Written) × (number_bytes s w n r ≡ put_at s (digits_of w n) r)
  unfolding number_answer number_bytes
  number-written e = (rw e, rw e)

  -- A number that does not fit leaves every byte.
  pub number-kept : number_fits s w n (length r) ≡ false → (number_answer s w n r ≡ Unfit) × (number_bytes s w n r ≡ r)
  unfolding number_answer number_bytes
  number-kept e = (rw e, rw e)

-- A part that lies within the room is put there.
pub part-put : (s : ℕ) (bs r l : List ℕ) → s + length bs ≤ length r → l ≡ part_bytes s bs r → l ≡ put_at s bs r
part-put s bs r l h e = e ∙ (part-written s bs r (part-fits s (length bs) (length r) h)).1

-- A number of at most w digits that lies within the room is put there.
pub number_put : (s w n : ℕ) (r l : List ℕ) → s + w ≤ length r → n < 10 ^ w → l ≡ number_bytes s w n r → l ≡ put_at s (digits_of w n) r
number_put s w n r l h k e = e ∙ (number-written s w n r (number_fits_lem s w n (length r) h k)).1

-- Bytes copied into room for as many are those bytes.
pub copied : (n : ℕ) (bs l : List ℕ) → length bs ≡ n → l ≡ part_bytes 0 bs (replicate n 0) → l ≡ bs
copied n bs l h e =
    let r : List ℕ = replicate n 0 in
    let z : length r ≡ n = length-replicate n 0 in
    part-put 0 bs r l (omega arith) e ∙ put_whole bs r (h ∙ sym z)
