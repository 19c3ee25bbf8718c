-- What the characters of a type name: types by the word of their two characters.
use Prim.Native.Nat.{ℕ, ◌+◌, ◌*◌, ◌/◌, ◌%◌, ◌≤◌, ◌<◌}
use mathlib.Core.Path.{◌≡◌, refl}
use mathlib.Core.Bool.{Bool, true, false, cond, false≢true}
use mathlib.Core.List.{List, [], ◌∷◌}
use native.Mathlib.Omega.{arith}
use lib.Dec.{eqb}
use lib.ListN.{length, get_or, take, drop}
use lib.Seq.{drop-cons}
use borrow.Author.Tests.{eqb-true}
use Rattle.text.specs.Numbers.{number_of}
use Rattle.layout.specs.declared.RecordType.{RecordType}
use Rattle.layout.specs.declared.RecordType.TheVariants.{F4, T10, T20, T40, T50, EF, NoType}
use Rattle.layout.specs.Kinds.{same, type_of, kind_of, subtype_in, kind_in, numbered}

-- the type of two characters is that of their word
pub type-word : (a b w : ℕ) → a < 256 → w ≡ a + b * 256 → type_of a b ≡ type_of (w % 256) (w / 256)
type-word a b w h e =
    let low : w % 256 ≡ a = omega arith in
    let high : w / 256 ≡ b = omega arith in
    rw (low, high)

not_same : (w x y : ℕ) → (w ≡ x + y * 256 → ⊥) → same (w % 256) (w / 256) x y ≡ false
unfolding same
not_same w x y h = go (eqb (w % 256) x) (eqb (w / 256) y) refl refl
  where
    go : (p q : Bool) → eqb (w % 256) x ≡ p → eqb (w / 256) y ≡ q → cond p q false ≡ false
    go false q e f = refl
    go true false e f = refl
    go true true e f =
        let low : w % 256 ≡ x = eqb-true _ _ e in
        let high : w / 256 ≡ y = eqb-true _ _ f in
        absurd (h (omega arith))

-- a word that is none of the types' names no type
pub no-type : (w : ℕ) → (w ≡ 13382 → ⊥) → (w ≡ 12337 → ⊥) → (w ≡ 12338 → ⊥) → (w ≡ 12340 → ⊥) → (w ≡ 12341 → ⊥) → (w ≡ 17989 → ⊥) → type_of (w % 256) (w / 256) ≡ NoType
unfolding type_of
no-type w f4 t10 t20 t40 t50 ef = rw (not_same w 70 52 f4, not_same w 49 48 t10, not_same w 50 48 t20, not_same w 52 48 t40, not_same w 53 48 t50, not_same w 69 70 ef)

-- the kind of a record, by the word of its type and the characters of its subtype
pub kind-spelled : (r : List ℕ) (w : ℕ) (t : RecordType) → length r ≡ 120 → get_or r 1 0 < 256 → w ≡ get_or r 1 0 + get_or r 2 0 * 256 → type_of (w % 256) (w / 256) ≡ t →
    kind_in r ≡ kind_of t (number_of (get_or r 10 0 ∷ get_or r 11 0 ∷ []))
unfolding kind_in
kind-spelled r w t l h e f =
    let two : take 2 (drop 10 r) ≡ get_or r 10 0 ∷ get_or r 11 0 ∷ [] = rw (drop-cons r 10 0 (omega arith), drop-cons r 11 0 (omega arith)) in
    rw (type-word (get_or r 1 0) (get_or r 2 0) w h e, f, two)

second-same : (a b x y : ℕ) → same a b x y ≡ true → b ≡ y
unfolding same
second-same a b x y = go (eqb a x)
  where
    go : (p : Bool) → cond p (eqb b y) false ≡ true → b ≡ y
    go true e = eqb-true _ _ e
    go false e = absurd (false≢true e)

-- the type of a record that carries the number of a delega ends with '0'
pub zero-behind : (r : List ℕ) → numbered (kind_in r) ≡ true → get_or r 2 0 ≡ 48
unfolding kind_in type_of numbered
zero-behind r = go (same a b 70 52) (same a b 49 48) (same a b 50 48) (same a b 52 48) (same a b 53 48) (same a b 69 70) refl refl refl refl
  where
    a : ℕ
    a = get_or r 1 0

    b : ℕ
    b = get_or r 2 0

    go : (p q u v w x : Bool) → same a b 49 48 ≡ q → same a b 50 48 ≡ u → same a b 52 48 ≡ v → same a b 53 48 ≡ w →
        numbered (kind_of (cond p F4 (cond q T10 (cond u T20 (cond v T40 (cond w T50 (cond x EF NoType)))))) (subtype_in r)) ≡ true → b ≡ 48
    go true q u v w x i j k l h = absurd (false≢true h)
    go false true u v w x i j k l h = second-same a b 49 48 i
    go false false true v w x i j k l h = second-same a b 50 48 j
    go false false false true w x i j k l h = second-same a b 52 48 k
    go false false false false true x i j k l h = second-same a b 53 48 l
    go false false false false false true i j k l h = absurd (false≢true h)
    go false false false false false false i j k l h = absurd (false≢true h)

-- a number from k on that is none of the first four from k is beyond them
pub four-on : (k b : ℕ) → k ≤ b → (b ≡ k → ⊥) → (b ≡ k + 1 → ⊥) → (b ≡ k + 2 → ⊥) → (b ≡ k + 3 → ⊥) → k + 4 ≤ b
four-on k b h d e f g = omega arith
