-- Laws of sets of the five sections, each by one test that is computed over all 32 of them.
use Prim.Native.Nat.{ℕ, zero, suc, ◌+◌, ◌*◌, ◌%◌, ◌^◌, ◌≤◌, ◌<◌}
use mathlib.Core.Path.{◌≡◌, refl, sym}
use mathlib.Core.Bool.{Bool, true, false, cond}
use native.Mathlib.Omega.{arith}
use native.Mathlib.Nat.{zero-div}
use borrow.Author.Tests.{eq-eqb, eqb-true, lt-ltb, ltb-true}
use lib.Dec.{eqb, ltb, lit<}
use lib.ListN.{get_or-eq_default}
use lib.Bits.{bit_or}
use lib.Count.{ones, count_trailing_zeros}
use Rattle.text.proofs.Tests.{both_true, all_below, each_below}
use Rattle.delega.specs.Used.{section_bits, bit_of, size_of, first_of}
use Rattle.delega.specs.PlainDelega.{bit_at, added_up}

-- past the fifth section there is no bit
pub bit-none : (s : ℕ) → 5 ≤ s → 0 ≡ bit_of s
unfolding bit_of
bit-none s h = sym (get_or-eq_default section_bits 0 h)

-- the bit of a section as it is shifted
pub bit_shifted : (s : ℕ) → s < 5 → (1 * 2 ^ s) % 18446744073709551616 ≡ bit_of s
unfolding bit_of
bit_shifted s h = eqb-true _ _ (each_below (λ (i : ℕ). eqb ((1 * 2 ^ i) % 18446744073709551616) (bit_of i)) 5 refl s h)

-- a test of a set and of a section passes for each of both
each-pair : (f : ℕ → ℕ → Bool) → all_below (λ (x : ℕ). all_below (f x) 5) 32 ≡ true → (x s : ℕ) → x < 32 → s < 5 → f x s ≡ true
each-pair f t x s h l = each_below (f x) 5 (each_below (λ (y : ℕ). all_below (f y) 5) 32 t x h) s l

-- a section that is put into a set leaves it a set, has its bit from then on, and changes no other bit
abbrev puts : ℕ → ℕ → ℕ → Bool
puts i x s = cond (ltb (bit_or x (bit_of s)) 32) (eqb (bit_at (bit_or x (bit_of s)) i) (cond (eqb s i) 1 (bit_at x i))) false

pub put-section : (x s i : ℕ) → x < 32 → s < 5 → i < 5 → (bit_or x (bit_of s) < 32) × (bit_at (bit_or x (bit_of s)) i ≡ cond (eqb s i) 1 (bit_at x i))
unfolding bit_of
put-section x s i h l k =
    let t = both_true _ _ (each-pair (puts i) (each_below (λ (j : ℕ). all_below (λ (y : ℕ). all_below (puts j y) 5) 32) 5 refl i k) x s h l) in
    (ltb-true _ _ t.0, eqb-true _ _ t.1)

-- one that is there is there already
pub same-section : (x s : ℕ) → x < 32 → s < 5 → bit_at x s ≡ 1 → bit_or x (bit_of s) ≡ x
unfolding bit_of
same-section x s h l e = eqb-true _ _ (rw (eq-eqb (bit_at x s) 1 e) at (each-pair (λ (y i : ℕ). cond (eqb (bit_at y i) 1) (eqb (bit_or y (bit_of i)) y) true) refl x s h l))

-- one behind all that are there is one more
abbrev adds : ℕ → ℕ → Bool
adds x s = cond (ltb (bit_or x (bit_of s)) (2 ^ (s + 1))) (eqb (size_of (bit_or x (bit_of s))) (size_of x + 1)) false

pub new-section : (x s : ℕ) → x < 32 → s < 5 → x < 2 ^ s → (bit_or x (bit_of s) < 2 ^ (s + 1)) × (size_of (bit_or x (bit_of s)) ≡ size_of x + 1)
unfolding bit_of size_of ones
new-section x s h l k =
    let t = both_true _ _ (rw (lt-ltb x (2 ^ s) k) at (each-pair (λ (y i : ℕ). cond (ltb y (2 ^ i)) (adds y i) true) refl x s h l)) in
    (ltb-true _ _ t.0, eqb-true _ _ t.1)

-- the first section of a set that has one: its bit is the lowest
abbrev leads : ℕ → ℕ → Bool
leads x i = cond (ltb (first_of x) 5) (cond (eqb (bit_at x (first_of x)) 1) (cond (ltb i (first_of x)) (eqb (bit_at x i) 0) true) false) false

pub first-section : (x i : ℕ) → 0 < x → x < 32 → (first_of x < 5) × (bit_at x (first_of x) ≡ 1) × (i < first_of x → bit_at x i ≡ 0)
unfolding first_of count_trailing_zeros
first-section x i p h =
    let z = within 0 (lit< tt) in
    (z.0, eqb-true _ _ z.1.0, λ l. eqb-true _ _ (rw (lt-ltb i (first_of x) l) at (within i (omega (arith, z.0))).1.1))
  where
    within : (j : ℕ) → j < 5 → (first_of x < 5) × ((eqb (bit_at x (first_of x)) 1 ≡ true) × (cond (ltb j (first_of x)) (eqb (bit_at x j) 0) true ≡ true))
    within j k =
        let t = both_true _ _ (rw (lt-ltb 0 x p) at (each-pair (λ (y j : ℕ). cond (ltb 0 y) (leads y j) true) refl x j h k)) in
        (ltb-true _ _ t.0, both_true _ _ t.1)

-- a set is its bits, added
pub bits-added : (x : ℕ) → x < 32 → x ≡ added_up (bit_at x)
bits-added x h = eqb-true _ _ (each_below (λ (y : ℕ). eqb y (added_up (bit_at y))) 32 refl x h)

-- a set with a bit is not empty
pub some-bit : (x i : ℕ) → bit_at x i ≡ 1 → 0 < x
some-bit zero i e = absurd (omega (arith, zero-div (2 ^ i)))
some-bit (suc x) i e = omega arith
