-- The loops over the characters of a code, for any test and any count of a place: what holds between two turns, and what a turn does.
use Prim.Native.Nat.{ℕ, zero, suc, ◌+◌, ◌*◌, ◌<◌, ◌≤◌}
use mathlib.Core.Path.{◌≡◌, refl, ◌∙◌}
use mathlib.Core.Bool.{Bool, true, false, cond}
use mathlib.Core.List.{List, [], ◌∷◌}
use native.Mathlib.Nat.{add-zero}
use native.Mathlib.Omega.{arith}
use lib.ListN.{length, take, drop, get_or, drop_of_length-le}
use Rattle.text.proofs.Bytes.{drop-one}
use Rattle.taxcode.specs.Places.{every_from, sum_from}

module _ (p : ℕ → ℕ → Bool) (k : ℕ) (l : List ℕ) (i : ℕ) where
  pub every-not : i < length l → p k (get_or l i 0) ≡ false → every_from p k (drop i l) ≡ false
  unfolding every_from
  every-not h e = rw (drop-one l i h, e)

  pub every-on : i < length l → p k (get_or l i 0) ≡ true → every_from p k (drop i l) ≡ every_from p (k + 1) (drop (i + 1) l)
  unfolding every_from
  every-on h e = rw (drop-one l i h, e)

  pub every-end : length l ≤ i → every_from p k (drop i l) ≡ true
  unfolding every_from
  every-end h = rw (drop_of_length-le l h)

-- a list passes where its first n characters do and those behind them
pub every-split : (p : ℕ → ℕ → Bool) (n k : ℕ) (l : List ℕ) → every_from p k l ≡ cond (every_from p k (take n l)) (every_from p (k + n) (drop n l)) false
unfolding every_from
every-split p zero k l = rw (add-zero k)
every-split p (suc n) k [] = refl
every-split p (suc n) k (b ∷ bs) =
    let e : k + suc n ≡ k + 1 + n = omega arith in
    rw (e, every-split p n (k + 1) bs) (go (p k b) (every_from p (k + 1) (take n bs)) _)
  where
    go : (t y z : Bool) → cond t (cond y z false) false ≡ cond (cond t y false) z false
    go true y z = refl
    go false y z = refl

-- after i characters of l, each of which passed, which count `sum`; no character counts more than 25
pub record Counted (p : ℕ → ℕ → Bool) (v : ℕ → ℕ → ℕ) (l : List ℕ) (sum i : ℕ) : Type 0 where
  pub tried : every_from p 1 l ≡ every_from p (i + 1) (drop i l)
  pub summed : sum_from v 1 l ≡ sum + sum_from v (i + 1) (drop i l)
  pub small : sum ≤ 25 * i

module _ (p : ℕ → ℕ → Bool) (v : ℕ → ℕ → ℕ) (l : List ℕ) where
  pub counted_none : Counted p v l 0 0
  counted_none = record { tried = refl; summed = omega arith; small = omega arith }

  module _ (sum i : ℕ) (c : Counted p v l sum i) where
    pub counted-not : i < length l → p (i + 1) (get_or l i 0) ≡ false → every_from p 1 l ≡ false
    counted-not h e = c.tried ∙ every-not p (i + 1) l i h e

    pub counted-on : i < length l → p (i + 1) (get_or l i 0) ≡ true → v (i + 1) (get_or l i 0) ≤ 25 → Counted p v l (sum + v (i + 1) (get_or l i 0)) (i + 1)
    unfolding sum_from
    counted-on h e s =
        let t = rw (drop-one l i h) at c.summed in
        let m = c.small in
        record { tried = c.tried ∙ every-on p (i + 1) l i h e; summed = omega arith; small = omega arith }

    pub counted-all : length l ≤ i → (every_from p 1 l ≡ true) × (sum_from v 1 l ≡ sum)
    unfolding sum_from
    counted-all h =
        let t = rw (drop_of_length-le l h) at c.summed in
        (c.tried ∙ every-end p (i + 1) l i h, omega arith)
