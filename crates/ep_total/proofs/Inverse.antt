-- Reading and writing a total are inverse: the text of each number up to 999999999999,99 says it, and a text says a number only where it is that number's own.
use Prim.Native.Nat.{ℕ, ◌<◌, ◌≤◌}
use mathlib.Core.Path.{◌≡◌, refl, sym, ap, ◌∙◌}
use mathlib.Core.Bool.{Bool, true, false, cond}
use mathlib.Core.List.{List}
use native.Mathlib.Omega.{arith}
use native.Mathlib.Decide.{dec_le}
use borrow.Author.Tests.{eqb-true}
use lib.Dec.{eqb}
use lib.ListN.{length}
use Rattle.text.specs.Same.{same_bytes}
use Rattle.text.proofs.Same.{same_bytes_lem, same-itself}
use Rattle.ep_total.specs.Answers.{Cents, NoTotal}
use Rattle.ep_total.specs.Total.{total_field, digits_in, own_text, total_of}
use Rattle.ep_total.proofs.Texts.{digits-field, text-short, text-long, field-length, field-long}
use Rattle.ep_total.proofs.Reading.{own}

-- What is written is read.
pub read-written : (n : ℕ) → n < 100000000000000 → total_of (total_field n) ≡ Cents n
read-written n h = own (total_field n) n (field-length n (text-short n h)) (sym (digits-field n)) true (sym (same-itself (total_field n))) refl

-- A text that says a number is the text of that number.
own-only : (t : List ℕ) (m n : ℕ) → own_text t m ≡ Cents n → t ≡ total_field n
unfolding own_text
own-only t m n e = go (same_bytes t (total_field m)) refl e
  where
    go : (b : Bool) → same_bytes t (total_field m) ≡ b → cond b (Cents m) NoTotal ≡ Cents n → t ≡ total_field n
    go true p q = let s : m ≡ n = cc in rw (← s) (same_bytes_lem t (total_field m) p)
    go false p q = let z : ◌≡◌ {A = ℕ} 0 1 = cc in absurd (omega arith)

-- What is read was written, and the number is one that has a text of fifteen characters.
pub written_read : (t : List ℕ) (n : ℕ) → total_of t ≡ Cents n → (t ≡ total_field n) × (n < 100000000000000)
unfolding total_of
written_read t n e = go (eqb (length t) 15) refl e
  where
    below : length t ≡ 15 → t ≡ total_field n → Dec (100000000000000 ≤ n) → n < 100000000000000
    below l q (yes h) = let f : 15 < length t = rw q (field-long n (text-long n h)) in absurd (omega arith)
    below l q (no d) = omega arith

    go : (b : Bool) → eqb (length t) 15 ≡ b → cond b (own_text t (digits_in 0 t)) NoTotal ≡ Cents n → (t ≡ total_field n) × (n < 100000000000000)
    go true p q = let f = own-only t (digits_in 0 t) n q in (f, below (eqb-true _ _ p) f (dec_le 100000000000000 n))
    go false p q = let z : ◌≡◌ {A = ℕ} 0 1 = cc in absurd (omega arith)

-- Above 999999999999,99 no text is right.
pub no_text : (t : List ℕ) (n : ℕ) → 100000000000000 ≤ n → total_of t ≡ Cents n → ⊥
no_text t n h e = absurd (omega (arith, (written_read t n e).1))

-- A field that is the text of a number says it.
pub own-text : (t : List ℕ) (n : ℕ) → length t ≤ 15 → t ≡ total_field n → total_of t ≡ Cents n
own-text t n l e = go (dec_le 100000000000000 n)
  where
    go : Dec (100000000000000 ≤ n) → total_of t ≡ Cents n
    go (yes h) = let f : 15 < length t = rw e (field-long n (text-long n h)) in absurd (omega arith)
    go (no d) = ap total_of e ∙ read-written n (omega arith)
