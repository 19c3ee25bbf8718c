-- Places written into a list one after the other: the list keeps its length, and where it has room for all it holds them from its start.
use Prim.Native.Nat.{ℕ, suc, ◌+◌, ◌*◌, ◌/◌, ◌≤◌}
use mathlib.Core.Path.{◌≡◌, refl, sym, ap, ◌∙◌}
use mathlib.Core.Bool.{Bool, true, false, cond}
use mathlib.Core.List.{List, [], ◌∷◌, ◌++◌}
use native.Mathlib.Omega.{arith}
use borrow.Author.Tests.{lt-ltb}
use lib.Dec.{ltb}
use lib.ListN.{length, drop, set, length-set}
use Rattle.text.specs.Placing.{put_at}
use Rattle.text.proofs.Writing.{put-none, put-cons}
use Rattle.state.specs.Numbers.{overlay}
use Rattle.changes.specs.Changes.{Place, place_numbers}
use Rattle.changes.specs.Inner.{put_place, put_places}

-- A list keeps its length when a place is written.
pub length-place : (n : ℕ) (p : Place) (list : List ℕ) → length (put_place n p list) ≡ length list
unfolding put_place
length-place n p list = go (ltb n (length list / 2))
  where
    go : (b : Bool) → length (cond b (set (set list (2 * n) p.«record») (2 * n + 1) p.start) list) ≡ length list
    go true = simp length-set
    go false = refl

-- A list of no room stays without.
pub places-nowhere : (n : ℕ) (ps : List Place) → put_places n ps [] ≡ []
unfolding put_places put_place
places-nowhere n [] = refl
places-nowhere n (p ∷ ps) = go (ltb n (length {A = ℕ} [] / 2)) (places-nowhere (n + 1) ps)
  where
    go : (b : Bool) → put_places (n + 1) ps [] ≡ [] → put_places (n + 1) ps (cond b (set (set [] (2 * n) p.«record») (2 * n + 1) p.start) []) ≡ []
    go true e = e
    go false e = e

-- Places after others go on behind them.
pub places-append : (n : ℕ) (ps qs : List Place) (list : List ℕ) → put_places n (ps ++ qs) list ≡ put_places (n + length ps) qs (put_places n ps list)
unfolding put_places
places-append n [] qs list = ap (λ (m : ℕ). put_places m qs list) (let e : n ≡ n + 0 = omega arith in e)
places-append n (p ∷ ps) qs list =
    places-append (n + 1) ps qs (put_place n p list)
    ∙ ap (λ (m : ℕ). put_places m qs (put_places (n + 1) ps (put_place n p list))) (let e : n + 1 + length ps ≡ n + suc (length ps) = omega arith in e)

-- A list keeps its length when places are written.
pub length-places : (n : ℕ) (ps : List Place) (list : List ℕ) → length (put_places n ps list) ≡ length list
unfolding put_places
length-places n [] list = refl
length-places n (p ∷ ps) list = length-places (n + 1) ps (put_place n p list) ∙ length-place n p list

-- Where there is room, places from the n-th pair on are numbers put at twice n.
places-put : (n : ℕ) (ps : List Place) (list : List ℕ) → 2 * (n + length ps) ≤ length list → put_places n ps list ≡ put_at (2 * n) (place_numbers ps) list
unfolding put_places put_place place_numbers
places-put n [] list h = sym (put-none (2 * n) list)
places-put n (p ∷ ps) list h =
    let one = set list (2 * n) p.«record» in
    let two = set one (2 * n + 1) p.start in
    let e : put_place n p list ≡ two = rw (lt-ltb n (length list / 2) (omega arith)) in
    let l : length one ≡ length list = length-set list (2 * n) p.«record» in
    let m : length two ≡ length list = length-set one (2 * n + 1) p.start ∙ l in
    let i : 2 * (n + 1) ≡ suc (2 * n + 1) = omega arith in
    let j : suc (2 * n) ≡ 2 * n + 1 = omega arith in
    ap (put_places (n + 1) ps) e
    ∙ (places-put (n + 1) ps two (omega arith)
    ∙ (ap (λ (x : ℕ). put_at x (place_numbers ps) two) i
    ∙ (sym (put-cons (2 * n + 1) p.start (place_numbers ps) one (omega arith))
    ∙ (ap (λ (x : ℕ). put_at x (p.start ∷ place_numbers ps) one) (sym j) ∙ sym (put-cons (2 * n) p.«record» (p.start ∷ place_numbers ps) list (omega arith))))))

-- All places are then the first numbers of the list.
pub places-listed : (ps : List Place) (list : List ℕ) → 2 * length ps ≤ length list → put_places 0 ps list ≡ overlay (place_numbers ps) list
unfolding overlay put_at
places-listed ps list h = places-put 0 ps list (omega arith) ∙ ap (λ (n : ℕ). place_numbers ps ++ drop n list) (let e : 0 + length (place_numbers ps) ≡ length (place_numbers ps) = omega arith in e)
