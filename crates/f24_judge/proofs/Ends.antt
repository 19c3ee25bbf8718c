-- The calls of the program end, with a portion above zero, in the judgement of the flow.
use Prim.Native.Nat.{ℕ, zero, suc, ◌+◌, ◌<◌, ◌≤◌}
use mathlib.Core.Path.{◌≡◌, refl, sym, ap, ◌∙◌}
use mathlib.Core.Bool.{Bool, true, false, cond, false≢true}
use mathlib.Core.List.{List}
use native.Mathlib.Omega.{arith}
use native.Mathlib.Decide.{dec_le}
use Rattle.portion.specs.declared.Portion.{Portion}
use Rattle.portion.specs.Portion.{start_progress, portioned}
use Rattle.portion.specs.Series.{needed, Given}
use Rattle.portion.proofs.Series.{portions-add}
use Rattle.portion.proofs.Judged.{enough, too_few, needed-most}
use Rattle.f24_judge.specs.InTurn.{goes_on, called_on, calls_of}

module _ (s : List ℕ) (p : ℕ) (some : 0 < p) where
  -- an answer that has ended the judgement has given it
  given : (t : ℕ) → goes_on (portioned s t start_progress).answer ≡ false → Given s (portioned s t start_progress)
  given t e = go (dec_le (needed s) t)
    where
      go : Dec (needed s ≤ t) → Given s (portioned s t start_progress)
      go (yes h) = enough s t h
      go (no d) = absurd (false≢true (sym e ∙ ap goes_on (too_few s t (omega arith)).0))

  ends : (n k t : ℕ) (a : Portion) → 546 ≤ k + n → k ≤ t → a ≡ portioned s t start_progress → Given s (called_on n s p a k).last
  unfolding called_on
  ends zero k t a h g e = rw e (enough s t (let m = needed-most s in omega arith))
  ends (suc n) k t a h g e = go (goes_on a.answer) refl (ends n (k + 1) (t + p) (portioned s p a.next) (omega arith) (omega arith) (ap (λ (b : Portion). portioned s p b.next) e ∙ portions-add s t p start_progress))
    where
      go : (b : Bool) → goes_on a.answer ≡ b → Given s (called_on n s p (portioned s p a.next) (k + 1)).last → Given s (cond b (called_on n s p (portioned s p a.next) (k + 1)) (record { last = a; made = k })).last
      go true f h = h
      go false f h = rw e (given t (sym (ap (λ (x : Portion). goes_on x.answer) e) ∙ f))

  -- what is printed is the judgement, and with it the number of records that it needed
  pub calls-end : Given s (calls_of s p).last
  unfolding calls_of
  calls-end = ends 545 1 p (portioned s p start_progress) (omega arith) some refl
