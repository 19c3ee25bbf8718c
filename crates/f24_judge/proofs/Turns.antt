-- Laws of calls one after the other, with the calls made counted as the code counts them.
use Prim.Native.Nat.{ℕ, zero, suc, ◌+◌, ◌-◌, ◌<◌, ◌≤◌}
use mathlib.Core.Path.{◌≡◌, refl, sym, ap, ◌∙◌}
use mathlib.Core.Bool.{true, false}
use mathlib.Core.List.{List}
use native.Mathlib.Omega.{arith}
use Rattle.portion.specs.declared.Portion.{Portion}
use Rattle.portion.specs.Portion.{portioned}
use Rattle.f24_judge.specs.InTurn.{goes_on, called_on}

module _ (s : List ℕ) (p : ℕ) (a : Portion) where
  one_more : (n k : ℕ) → goes_on a.answer ≡ true → called_on (suc n) s p a k ≡ called_on n s p (portioned s p a.next) (k + 1)
  unfolding called_on
  one_more n k e = rw e

  no_more : (n k : ℕ) → goes_on a.answer ≡ false → called_on n s p a k ≡ record { last = a; made = k }
  unfolding called_on
  no_more zero k e = refl
  no_more (suc n) k e = rw e

  -- b is what the next call answers
  pub call-again : (b : Portion) (k : ℕ) → k < 546 → goes_on a.answer ≡ true → b ≡ portioned s p a.next → called_on (546 - (k + 1)) s p b (k + 1) ≡ called_on (546 - k) s p a k
  call-again b k h e is =
      let left : 546 - k ≡ suc (546 - (k + 1)) = omega arith in
      ap (λ (x : Portion). called_on (546 - (k + 1)) s p x (k + 1)) is ∙ sym (ap (λ (n : ℕ). called_on n s p a k) left ∙ one_more (546 - (k + 1)) k e)

  pub call-ended : (k : ℕ) → goes_on a.answer ≡ false → called_on (546 - k) s p a k ≡ record { last = a; made = k }
  call-ended k e = no_more (546 - k) k e

  pub call-last : (k : ℕ) → 546 ≤ k → called_on (546 - k) s p a k ≡ record { last = a; made = k }
  unfolding called_on
  call-last k h =
      let none : 546 - k ≡ 0 = omega arith in
      ap (λ (n : ℕ). called_on n s p a k) none

  -- k is the last that is counted
  pub call-at-last : (k : ℕ) → k ≡ 546 → called_on (546 - k) s p a k ≡ record { last = a; made = 546 }
  call-at-last k h = call-last k (omega arith) ∙ ap (λ (n : ℕ). record { last = a; made = n }) h
