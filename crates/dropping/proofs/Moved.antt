-- Numbers that move up: those of the deleghe that are left after one is dropped.
use Prim.Native.Nat.{ℕ, ◌-◌, ◌<◌, ◌≤◌}
use mathlib.Core.Path.{◌≡◌, refl, sym, ap, ap₂, ◌∙◌}
use mathlib.Core.Bool.{Bool, true, false, cond, false≢true}
use mathlib.Core.List.{List, [], ◌∷◌, map}
use native.Mathlib.Omega.{arith}
use native.Mathlib.Decide.{dec_lt, ℕ_discrete}
use borrow.Author.Tests.{eqb-false, eq-eqb, ne_eqb, lt-ltb, le-ltb}
use lib.Dec.{eqb}
use lib.ListN.{length-map}
use Rattle.text.specs.Among.{among}
use Rattle.text.proofs.Bytes.{within}
use Rattle.close.specs.Closing.{each_once, left_of}
use Rattle.close.proofs.Counted.{once-parts, left-before, left_less, left-all, left-counted}
use Rattle.dropping.specs.Effect.{moved}

-- A delega before the one that is dropped keeps its number, and one behind it has one less.
moved_before : (d n : ℕ) → n ≤ d → moved d n ≡ n
moved_before d n h = rw (le-ltb d n h)

moved-behind : (d n : ℕ) → d < n → moved d n ≡ n - 1
moved-behind d n h = rw (lt-ltb d n h)

-- Two deleghe that are left have one number only where they are one.
moved_apart : (d m n : ℕ) → (m ≡ d → ⊥) → (n ≡ d → ⊥) → moved d m ≡ moved d n → m ≡ n
moved_apart d m n x y e = go (dec_lt d m) (dec_lt d n)
  where
    go : Dec (d < m) → Dec (d < n) → m ≡ n
    go (yes p) (yes q) = omega (arith, moved-behind d m p, moved-behind d n q, e, x, y)
    go (yes p) (no q) = omega (arith, moved-behind d m p, moved_before d n (omega arith), e, x, y)
    go (no p) (yes q) = omega (arith, moved_before d m (omega arith), moved-behind d n q, e, x, y)
    go (no p) (no q) = omega (arith, moved_before d m (omega arith), moved_before d n (omega arith), e)

-- The number of a delega that is left is that of deleghe which are left up to it.
pub moved-left : (d n : ℕ) → 1 ≤ d → (n ≡ d → ⊥) → left_of (d ∷ []) n ≡ moved d n
unfolding among
moved-left d n lo h = go (dec_lt d n)
  where
    go : Dec (d < n) → left_of (d ∷ []) n ≡ moved d n
    go (yes p) = omega (arith, left_less d [] n lo (omega arith) refl, left-all n, moved-behind d n p)
    go (no p) = left-before d [] n (omega arith) ∙ (left-all n ∙ sym (moved_before d n (omega arith)))

-- A number that is not among others is none of them.
pub not-among : (d x : ℕ) (xs : List ℕ) → among d (x ∷ xs) ≡ false → (d ≡ x → ⊥) × (among d xs ≡ false)
unfolding among
not-among d x xs a = go (eqb d x) refl a
  where
    go : (b : Bool) → eqb d x ≡ b → cond b true (among d xs) ≡ false → (d ≡ x → ⊥) × (among d xs ≡ false)
    go true q f = absurd (false≢true (sym f))
    go false q f = (eqb-false d x q, f)

-- Two deleghe that are left have the same new number where they have the same old one.
same_number : (d n x : ℕ) → (n ≡ d → ⊥) → (x ≡ d → ⊥) → eqb (moved d n) (moved d x) ≡ eqb n x
same_number d n x h g = go (ℕ_discrete n x)
  where
    go : Dec (n ≡ x) → eqb (moved d n) (moved d x) ≡ eqb n x
    go (yes e) = eq-eqb (moved d n) (moved d x) (ap (moved d) e) ∙ sym (eq-eqb n x e)
    go (no e) = ne_eqb (moved d n) (moved d x) (λ z. e (moved_apart d n x h g z)) ∙ sym (ne_eqb n x e)

-- A delega that is left is named with the new numbers where it was with the old ones.
pub moved-among : (d : ℕ) (ds : List ℕ) → among d ds ≡ false → (n : ℕ) → (n ≡ d → ⊥) → among (moved d n) (map (moved d) ds) ≡ among n ds
unfolding among
moved-among d [] a n h = refl
moved-among d (x ∷ xs) a n h =
    let p = not-among d x xs a in
    ap₂ (λ (b c : Bool). cond b true c) (same_number d n x h (λ e. p.0 (sym e))) (moved-among d xs p.1 n h)

-- The new numbers of deleghe that are named once each, but the one dropped, are those of deleghe that are left, named once each.
pub moved-once : (n d : ℕ) (ds : List ℕ) → 1 ≤ d → d ≤ n → among d ds ≡ false → each_once n ds ≡ true → each_once (n - 1) (map (moved d) ds) ≡ true
unfolding each_once
moved-once n d [] lo hi a e = refl
moved-once n d (x ∷ xs) lo hi a e =
    let p = not-among d x xs a in
    let q = once-parts n x xs e in
    let m = range n d x lo hi q.0.0 q.0.1 (λ z. p.0 (sym z)) in
    rw (within 1 (n - 1) (moved d x) m.0 m.1, moved-among d xs p.1 x (λ z. p.0 (sym z)) ∙ q.1) (moved-once n d xs lo hi p.1 q.2)
  where
    range : (n d x : ℕ) → 1 ≤ d → d ≤ n → 1 ≤ x → x ≤ n → (x ≡ d → ⊥) → (1 ≤ moved d x) × (moved d x ≤ n - 1)
    range n d x a b c e f = go (dec_lt d x)
      where
        go : Dec (d < x) → (1 ≤ moved d x) × (moved d x ≤ n - 1)
        go (yes h) = let z = moved-behind d x h in (omega arith, omega arith)
        go (no h) = let z = moved_before d x (omega arith) in (omega arith, omega arith)

-- A list that names each of its deleghe once.
module _ (n d : ℕ) (ds : List ℕ) (e : each_once n (d ∷ ds) ≡ true) where
  abbrev p : ((1 ≤ d) × (d ≤ n)) × (among d ds ≡ false) × (each_once n ds ≡ true)
  p = once-parts n d ds e

  -- So does the first by itself.
  pub first-once : each_once n (d ∷ []) ≡ true
  unfolding each_once among
  first-once = rw (within 1 n d p.0.0 p.0.1)

  -- One less is left after the first.
  pub first-left : left_of (d ∷ []) n ≡ n - 1
  first-left = omega (arith, left-counted n (d ∷ []) first-once, p.0.0, p.0.1)

  -- After the first and then the others as many are left as after all.
  pub others-left : left_of (map (moved d) ds) (n - 1) ≡ left_of (d ∷ ds) n
  others-left = omega (arith, left-counted (n - 1) (map (moved d) ds) (moved-once n d ds p.0.0 p.0.1 p.1 p.2), left-counted n (d ∷ ds) e, length-map ds (moved d), p.0.0, p.0.1)
