-- The turns of the loop over a person's code, and the ways out of it.
use Prim.Native.Nat.{ℕ, ◌+◌, ◌<◌, ◌≤◌, ◌%◌}
use mathlib.Core.Path.{◌≡◌}
use mathlib.Core.Bool.{true, false}
use mathlib.Core.List.{List}
use native.Mathlib.Omega.{arith}
use lib.Dec.{eqb}
use lib.ListN.{length, get_or, take}
use borrow.Author.Tests.{eq-eqb, ne_eqb}
use Rattle.taxcode.specs.Places.{every_from}
use Rattle.taxcode.specs.Persons.{place_right, value_at, last_letter, person_right}
use Rattle.taxcode.proofs.Characters.{values-tell}
use Rattle.taxcode.proofs.Turns.{Counted, counted-not, counted-on, counted-all}

module _ (code : List ℕ) where
  pub person-length : (length code ≡ 16 → ⊥) → person_right code ≡ false
  unfolding person_right
  person-length n = rw (ne_eqb _ _ n)

  module _ (l : length code ≡ 16) where
    pub person-not : every_from place_right 1 (take 15 code) ≡ false → person_right code ≡ false
    unfolding person_right
    person-not e = rw (eq-eqb _ _ l, e)

    pub person-is : every_from place_right 1 (take 15 code) ≡ true → person_right code ≡ eqb (get_or code 15 0) (last_letter (take 15 code))
    unfolding person_right
    person-is e = rw (eq-eqb _ _ l, e)

    module _ (sum i : ℕ) (c : Counted place_right value_at (take 15 code) sum i) where
      pub person-stop : i < length (take 15 code) → place_right (i + 1) (get_or (take 15 code) i 0) ≡ false → person_right code ≡ false
      person-stop h e = person-not (counted-not place_right value_at (take 15 code) sum i c h e)

      pub person-on : i < length (take 15 code) → place_right (i + 1) (get_or (take 15 code) i 0) ≡ true → Counted place_right value_at (take 15 code) (sum + value_at (i + 1) (get_or (take 15 code) i 0)) (i + 1)
      person-on h e =
          let s = (values-tell (i + 1)).small (get_or (take 15 code) i 0) e in
          counted-on place_right value_at (take 15 code) sum i c h e (omega arith)

      pub person-end : length (take 15 code) ≤ i → person_right code ≡ eqb (get_or code 15 0) (65 + sum % 26)
      unfolding last_letter
      person-end h = let a = counted-all place_right value_at (take 15 code) sum i c h in rw (← a.1) (person-is a.0)
