-- How many deleghe a list leaves: one by one, and, where each is named once, as many as there are less those that are named.
use Prim.Native.Nat.{ℕ, zero, suc, ◌+◌, ◌<◌, ◌≤◌}
use mathlib.Core.Path.{◌≡◌, refl, sym, ap, ◌∙◌}
use mathlib.Core.Bool.{Bool, true, false, cond}
use mathlib.Core.List.{List, [], ◌∷◌}
use native.Mathlib.Omega.{arith}
use native.Mathlib.Decide.{dec_lt, ℕ_discrete}
use borrow.Author.Tests.{ne_eqb, eqb-true, eqb-false, not-true}
use lib.Dec.{eqb}
use lib.ListN.{length}
use Rattle.text.specs.Among.{among}
use Rattle.text.proofs.Bytes.{between}
use Rattle.text.proofs.Tests.{untrue, both_true}
use Rattle.order.proofs.Fitting.{turned}
use Rattle.close.specs.Closing.{each_once, left_of}
use Rattle.close.specs.Inner.{named_once}
use Rattle.close.proofs.Named.{once-cons}

-- The first of numbers named once each is that of a delega, and is not among the others.
pub once-parts : (n d : ℕ) (ds : List ℕ) → each_once n (d ∷ ds) ≡ true → ((1 ≤ d) × (d ≤ n)) × (among d ds ≡ false) × (each_once n ds ≡ true)
unfolding named_once
once-parts n d ds e =
    let p = both_true (named_once n d ds) (each_once n ds) (sym (once-cons n d ds) ∙ e) in
    let q = both_true _ (cond (among d ds) false true) p.0 in
    (between _ n d q.0, not-true (among d ds) (turned (among d ds) ∙ q.1), p.1)

module _ (d : ℕ) (ds : List ℕ) where
  -- Another number is among the list with this one where it is without it.
  pub among-other : (m : ℕ) → (m ≡ d → ⊥) → among m (d ∷ ds) ≡ among m ds
  unfolding among
  among-other m h = rw (ne_eqb m d h)

  -- Of deleghe before the one named, as many are left as without it.
  pub left-before : (m : ℕ) → m < d → left_of (d ∷ ds) m ≡ left_of ds m
  unfolding left_of
  left-before zero h = refl
  left-before (suc m) h = rw (among-other (suc m) (λ e. omega arith), left-before m (omega arith))

  -- Of deleghe among which is the one named, one less is left than without it.
  pub left_less : (m : ℕ) → 1 ≤ d → d ≤ m → among d ds ≡ false → left_of (d ∷ ds) m + 1 ≡ left_of ds m
  unfolding left_of among
  left_less zero g h f = absurd (omega arith)
  left_less (suc m) g h f = go (eqb (suc m) d) refl (λ k. left_less m g k f)
    where
      go : (t : Bool) → eqb (suc m) d ≡ t → (d ≤ m → left_of (d ∷ ds) m + 1 ≡ left_of ds m) → left_of (d ∷ ds) m + cond (cond t true (among (suc m) ds)) 0 1 + 1 ≡ left_of ds m + cond (among (suc m) ds) 0 1
      go true e before =
          let s = eqb-true (suc m) d e in
          let b = left-before m (omega arith) in
          rw (ap (λ (x : ℕ). among x ds) s, f) (omega arith)
      go false e before = let s = eqb-false (suc m) d e in let b = before (omega arith) in omega arith

-- Of one delega more, one more is left where it is not named, and no more where it is.
pub left-kept : (numbers : List ℕ) (d : ℕ) → among (d + 1) numbers ≡ false → left_of numbers (d + 1) ≡ left_of numbers d + 1
unfolding left_of
left-kept numbers d e =
    let s : d + 1 ≡ suc d = omega arith in
    rw s (ap (λ (b : Bool). left_of numbers d + cond b 0 1) (rw s at e))

pub left-taken : (numbers : List ℕ) (d : ℕ) → among (d + 1) numbers ≡ true → left_of numbers (d + 1) ≡ left_of numbers d
unfolding left_of
left-taken numbers d e =
    let s : d + 1 ≡ suc d = omega arith in
    rw s (ap (λ (b : Bool). left_of numbers d + cond b 0 1) (rw s at e) ∙ omega arith)

-- Of no delega none is left.
pub none_left : (numbers : List ℕ) → left_of numbers 0 ≡ 0
unfolding left_of
none_left numbers = refl

-- No more are left than there are.
pub left-most : (numbers : List ℕ) (n : ℕ) → left_of numbers n ≤ n
unfolding left_of
left-most numbers zero = omega arith
left-most numbers (suc n) = go (among (suc n) numbers) (left-most numbers n)
  where
    go : (b : Bool) → left_of numbers n ≤ n → left_of numbers n + cond b 0 1 ≤ suc n
    go true h = omega arith
    go false h = omega arith

-- The more deleghe, the more are left, or as many.
pub left-grows : (numbers : List ℕ) (m n : ℕ) → m ≤ n → left_of numbers m ≤ left_of numbers n
unfolding left_of
left-grows numbers m zero h = let e : m ≡ 0 = omega arith in rw e (omega arith)
left-grows numbers m (suc n) h = go (ℕ_discrete m (suc n)) (λ k. left-grows numbers m n k)
  where
    go : Dec (m ≡ suc n) → (m ≤ n → left_of numbers m ≤ left_of numbers n) → left_of numbers m ≤ left_of numbers n + cond (among (suc n) numbers) 0 1
    go (yes e) k = let z : left_of numbers m ≡ left_of numbers n + cond (among (suc n) numbers) 0 1 = ap (left_of numbers) e in omega arith
    go (no e) k = omega (arith, k (omega arith))

-- Up to a delega that is not named more are left than up to one before it.
pub left-rises : (numbers : List ℕ) (m n : ℕ) → m < n → among n numbers ≡ false → left_of numbers m < left_of numbers n
left-rises numbers m zero h a = absurd (omega arith)
left-rises numbers m (suc n) h a =
    let s : suc n ≡ n + 1 = omega arith in
    let k = left-kept numbers n (rw s at a) in
    rw s (omega (arith, left-grows numbers m n (omega arith)))

-- So two of these have one number only where they are one.
pub left-apart : (numbers : List ℕ) (m n : ℕ) → among m numbers ≡ false → among n numbers ≡ false → left_of numbers m ≡ left_of numbers n → m ≡ n
left-apart numbers m n a b e = go (dec_lt m n) (dec_lt n m)
  where
    go : Dec (m < n) → Dec (n < m) → m ≡ n
    go (yes h) k = absurd (omega (arith, left-rises numbers m n h b))
    go (no h) (yes k) = absurd (omega (arith, left-rises numbers n m k a))
    go (no h) (no k) = omega arith

-- A list that names none leaves all.
pub left-all : (n : ℕ) → left_of [] n ≡ n
unfolding left_of among
left-all zero = refl
left-all (suc n) = let h = left-all n in omega arith

-- The deleghe that are left and those that are named are all.
pub left-counted : (n : ℕ) (numbers : List ℕ) → each_once n numbers ≡ true → left_of numbers n + length numbers ≡ n
left-counted n [] e = omega (arith, left-all n)
left-counted n (d ∷ ds) e =
    let p = once-parts n d ds e in
    let h = left-counted n ds p.2 in
    let b = left_less d ds n p.0.0 p.0.1 p.1 in
    omega arith

-- No more numbers are named once each than there are deleghe.
pub once-few : (n : ℕ) (numbers : List ℕ) → each_once n numbers ≡ true → length numbers ≤ n
once-few n numbers e = omega (arith, left-counted n numbers e)

-- Of more numbers than there are deleghe not each is one of them, named once.
pub too_many : (n : ℕ) (numbers : List ℕ) → n < length numbers → each_once n numbers ≡ false
too_many n numbers h = untrue (each_once n numbers) (λ e. omega (arith, once-few n numbers e))
