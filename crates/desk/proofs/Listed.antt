-- Laws of the numbers in a text of a run case: one of them, and a list that is filled with them.
use Prim.Native.Nat.{ℕ, ◌+◌, ◌-◌, ◌*◌, ◌/◌, ◌<◌, ◌≤◌}
use mathlib.Core.Path.{◌≡◌, refl, sym, ap, ◌∙◌}
use mathlib.Core.List.{List, [], ◌∷◌, ◌++◌}
use native.Mathlib.Omega.{arith}
use native.Mathlib.Numerals.{add-one}
use borrow.Author.Tests.{lt-ltb, le-ltb}
use lib.ListN.{length, take, drop, set}
use lib.Seq.{take-suc-set}
use Rattle.args.specs.Decimal.{decimal_of}
use Rattle.desk.specs.Header.{or_zero, number_at, number_in, numbers_in}

module _ (text : List ℕ) where
  -- A number as the code takes it: from an index to twenty behind it.
  pub number-there : (i : ℕ) → i < length text / 21 → number_in text i ≡ or_zero (decimal_of (take ((21 * i + 20) - 21 * i) (drop (21 * i) text)))
  unfolding number_in number_at
  number-there i h =
      let twenty : (21 * i + 20) - 21 * i ≡ 20 = omega arith in
      rw (lt-ltb i (length text / 21) h, twenty)

  pub number-missing : (i : ℕ) → length text / 21 ≤ i → number_in text i ≡ 0
  unfolding number_in
  number-missing i h = rw (le-ltb i (length text / 21) h)

  -- None stands there yet.
  pub numbers-none : [] ≡ numbers_in text 0
  unfolding numbers_in
  numbers-none = refl

  -- One number more stands at the front of a list.
  pub numbers_on : (i v : ℕ) (l : List ℕ) → i < length l → take i l ≡ numbers_in text i → v ≡ number_in text i → take (i + 1) (set l i v) ≡ numbers_in text (i + 1)
  unfolding numbers_in
  numbers_on i v l h e p =
      ap (λ (n : ℕ). take n (set l i v)) (add-one i)
      ∙ (take-suc-set l i v h ∙ (ap (λ (s : List ℕ). s ++ (v ∷ [])) e ∙ (ap (λ (x : ℕ). numbers_in text i ++ (x ∷ [])) p ∙ ap (numbers_in text) (sym (add-one i)))))
