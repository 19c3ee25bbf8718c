-- When one delega is answered, and when it is refused 21, by the number, the record and the position that are told.
use Rattle.std.specs.Prelude.{Err}
use Prim.Native.Nat.{ℕ, ◌<◌, ◌≤◌}
use mathlib.Core.Path.{◌≡◌, refl, sym, ap, ◌∙◌}
use mathlib.Core.List.{List}
use mathlib.Core.Logic.{◌⊎◌, inl, inr, ◌↔◌}
use native.Mathlib.Omega.{arith}
use native.Mathlib.Decide.{dec_lt, ℕ_discrete}
use Rattle.judge.specs.Refusal.{Verdict, Accepted, refusal_of}
use Rattle.refusal.specs.declared.Refusal.{Refusal}
use Rattle.refusal.specs.Refusals.{refusal, no_refusal}
use Rattle.judge.specs.Flow.{judged}
use Rattle.judge.proofs.FirstFault.{judgement-number}
use Rattle.delega.specs.declared.DelegaAnswer.{DelegaAnswer}
use Rattle.delega.specs.OneDelega.{delega_of}
use Rattle.delega.proofs.Asked.{delega-of-refused, delega-zero, delega-above}
use Rattle.delega.proofs.PlainAnswer.{delega-found}

abbrev told : List ℕ → ℕ → Refusal
told s d = refusal_of (delega_of s d).verdict

abbrev told-by : DelegaAnswer → Refusal
told-by a = refusal_of a.verdict

-- "a number that is 0 or above the count is refused 21"
module _ (s : List ℕ) (d : ℕ) (a : (judged s).verdict ≡ Accepted) where
  outside : (d ≡ 0) ⊎ ((judged s).summary.deleghe < d) → told s d ≡ refusal 21 0 0
  outside (inl z) = ap told-by (delega-zero s d a z)
  outside (inr h) = ap told-by (delega-above s d a (λ z. omega arith) h)

  inside : 1 ≤ d → d ≤ (judged s).summary.deleghe → told s d ≡ no_refusal
  inside lo hi = ap refusal_of (delega-found s d a lo hi)

  which : (d ≡ 0) ⊎ ((judged s).summary.deleghe < d) ⊎ ((1 ≤ d) × (d ≤ (judged s).summary.deleghe))
  which = go (ℕ_discrete d 0) (dec_lt (judged s).summary.deleghe d)
    where
      go : Dec (d ≡ 0) → Dec ((judged s).summary.deleghe < d) → (d ≡ 0) ⊎ ((judged s).summary.deleghe < d) ⊎ ((1 ≤ d) × (d ≤ (judged s).summary.deleghe))
      go (yes z) q = inl z
      go (no z) (yes h) = inr (inl h)
      go (no z) (no h) = inr (inr (omega arith, omega arith))

  never_both : told s d ≡ refusal 21 0 0 → told s d ≡ no_refusal → ⊥
  never_both p q = omega (arith, ap (λ (t : Refusal). t.number) (sym p ∙ q))

  pub refused-21 : (told s d ≡ refusal 21 0 0) ↔ ((d ≡ 0) ⊎ ((judged s).summary.deleghe < d))
  refused-21 = (λ e. go e which, outside)
    where
      go : told s d ≡ refusal 21 0 0 → (d ≡ 0) ⊎ ((judged s).summary.deleghe < d) ⊎ ((1 ≤ d) × (d ≤ (judged s).summary.deleghe)) → (d ≡ 0) ⊎ ((judged s).summary.deleghe < d)
      go e (inl z) = inl z
      go e (inr (inl h)) = inr h
      go e (inr (inr w)) = absurd (never_both e (inside w.0 w.1))

-- a delega is answered exactly where the flow is accepted and has it
pub answered-exactly : (s : List ℕ) (d : ℕ) → (told s d ≡ no_refusal) ↔ (((judged s).verdict ≡ Accepted) × (1 ≤ d) × (d ≤ (judged s).summary.deleghe))
answered-exactly s d = (λ e. by-verdict (judged s).verdict refl e, λ h. inside s d h.0 h.1 h.2)
  where
    by-which : (a : (judged s).verdict ≡ Accepted) → told s d ≡ no_refusal → (d ≡ 0) ⊎ ((judged s).summary.deleghe < d) ⊎ ((1 ≤ d) × (d ≤ (judged s).summary.deleghe)) →
        ((judged s).verdict ≡ Accepted) × (1 ≤ d) × (d ≤ (judged s).summary.deleghe)
    by-which a e (inl z) = absurd (never_both s d a (outside s d a (inl z)) e)
    by-which a e (inr (inl h)) = absurd (never_both s d a (outside s d a (inr h)) e)
    by-which a e (inr (inr w)) = (a, w.0, w.1)

    by-verdict : (v : Verdict) → (judged s).verdict ≡ v → told s d ≡ no_refusal → ((judged s).verdict ≡ Accepted) × (1 ≤ d) × (d ≤ (judged s).summary.deleghe)
    by-verdict Accepted q e = by-which q e (which s d q)
    by-verdict (Err why) q e =
        let z : why.number ≡ 0 = ap (λ (t : Refusal). t.number) (sym (ap told-by (delega-of-refused s d q)) ∙ e) in
        absurd (omega (arith, (judgement-number s q).0))
