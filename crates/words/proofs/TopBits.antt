-- Laws of the top bits of bytes: a word whose eight are clear is one of bytes below 128, and digits have no other.
use Prim.Native.Nat.{ℕ, ◌+◌, ◌*◌, ◌/◌, ◌%◌, ◌^◌, ◌<◌}
use mathlib.Core.Path.{◌≡◌, refl, ap, sym, ◌∙◌}
use mathlib.Core.List.{List, [], ◌∷◌}
use native.Mathlib.Omega.{arith}
use native.Mathlib.Nat.{mod-eq_of_lt, div-lt_iff_lt-mul}
use lib.Bits.{bit_and, and_block, and_high}
use lib.Dec.{lit<}
use lib.ListN.{length, replicate}
use Rattle.words.specs.Words.{word_by, word, AtMost}
use Rattle.words.specs.Words.AtMost.{none, also}
use Rattle.words.proofs.WholeTests.{tops_of}
use Rattle.words.proofs.AllDigits.{AllDigits}
use Rattle.words.proofs.AllDigits.AllDigits.{one_more}

-- The top bit of a byte is clear where the byte is below 128.
pub top-clear : (t : ℕ) → t < 128 → bit_and t 128 ≡ 0
top-clear t h = let a : bit_and t 128 ≡ t / 128 % 2 * 128 = and_high t 1 7 in omega arith

-- A byte whose top bit is clear is below 128.
pub clear-top : (t : ℕ) → t < 256 → bit_and t 128 ≡ 0 → t < 128
clear-top t h e =
    let a : bit_and t 128 ≡ t / 128 % 2 * 128 = and_high t 1 7 in
    let q : t / 128 % 2 ≡ t / 128 = mod-eq_of_lt ((div-lt_iff_lt-mul (lit< tt)).1 h) in
    omega arith

-- The top bit of each byte.
abbrev tops : List ℕ → List ℕ
tops [] = []
tops (b ∷ bs) = bit_and b 128 ∷ tops bs

-- The top bits of a word are those of its bytes.
tops-each : (l : List ℕ) → AtMost 255 l → bit_and (word l) (word (replicate (length l) 128)) ≡ word (tops l)
unfolding word_by
tops-each [] p = refl
tops-each (b ∷ bs) (also h p) =
    and_block 8 (word bs) (word (replicate (length bs) 128)) b 128 (omega arith) (omega arith)
    ∙ ap (λ (t : ℕ). t * 2 ^ 8 + bit_and b 128) (tops-each bs p)

-- Where all are clear, every byte is below 128.
clear-tops : (l : List ℕ) → AtMost 255 l → word (tops l) ≡ 0 → AtMost 127 l
unfolding word_by
clear-tops [] p e = none
clear-tops (b ∷ bs) (also h p) e =
    let t = clear-top b (omega arith) (omega arith) in
    also {b = b} (omega arith) (clear-tops bs p (omega arith))

-- Those of digits are clear.
digits-tops : (l : List ℕ) → AllDigits l → word (tops l) ≡ 0
unfolding word_by
digits-tops [] p = refl
digits-tops (b ∷ bs) (one_more h j p) =
    let e = digits-tops bs p in
    let f = top-clear b (omega arith) in
    omega arith

module _ (l : List ℕ) (p : AtMost 255 l) (e : length l ≡ 8) where
  eight-tops : tops_of (word l) ≡ word (tops l)
  unfolding word_by
  eight-tops = rw e at (tops-each l p)

  -- Where they are clear, every byte is below 128.
  pub tops-clear : tops_of (word l) ≡ 0 → AtMost 127 l
  tops-clear t = clear-tops l p (sym eight-tops ∙ t)

  -- Where one is set, not all are digits.
  pub tops-set : (tops_of (word l) ≡ 0 → ⊥) → AllDigits l → ⊥
  tops-set f d = f (eight-tops ∙ digits-tops l d)
