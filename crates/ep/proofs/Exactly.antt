-- The theorems on the judgement: accepted exactly when every payment is right, with the count of M and the sum of the used debits; else the first fault.
use Prim.Native.Nat.{ℕ, zero, suc, ◌/◌, ◌<◌, ◌≤◌}
use mathlib.Core.Path.{◌≡◌, refl, sym, ap, ap₂, ◌∙◌}
use mathlib.Core.Bool.{Bool, true, false}
use mathlib.Core.List.{List, [], ◌∷◌, append-nil}
use native.Mathlib.Omega.{arith}
use lib.ListN.{length}
use Rattle.refusal.proofs.Parts.{refused-parts}
use Rattle.ep.specs.declared.Payments.{Payments}
use Rattle.ep.specs.Answers.{Outcome, EpAnswer, Accepted, Refused}
use Rattle.ep.specs.Payments.{no_tally, here, unless, ended, judged_from, records_in, size_right, judged}
use Rattle.ep.specs.Plain.{count_m, used_in, totals_in, Paid, Stops, early, unknown, alone, no-digits, no-sum, no-total, records_of, Sized}
use Rattle.ep.proofs.Closes.{none_open}
use Rattle.ep.proofs.Records.{size-sized, sized-size, judged-30, judged-start}
use Rattle.ep.proofs.Counts.{totals-used}
use Rattle.ep.proofs.Beyond.{beyond}
use Rattle.ep.proofs.Told.{Told, accepted, refused, told}

-- Payments that are right are accepted.
paid-judged : (rs : List (List ℕ)) → Paid rs → judged_from no_tally rs ≡ Accepted (count_m rs) (used_in rs)
unfolding judged_from ended
paid-judged rs p =
    let b = beyond rs [] no_tally p (λ n. none_open no_tally n refl) in
    let k : b.then.count ≡ count_m rs = omega (arith, b.counts) in
    let n : b.then.sum ≡ used_in rs = omega (arith, b.adds) in
    ap (judged_from no_tally) (sym (append-nil rs)) ∙ (b.on ∙ (ap (λ (o : Outcome). unless o (Accepted b.then.count b.then.sum)) (b.closed (here b.then)) ∙ ap₂ Accepted k n))

-- There is a record where the length is right.
some-records : (n : ℕ) (s : List ℕ) → 0 < n → 0 < length (records_in n s)
unfolding records_in
some-records zero s h = absurd (omega arith)
some-records (suc n) s h = omega arith

told-some : (rs : List (List ℕ)) → 0 < length rs → Told rs (judged_from no_tally rs)
told-some [] h = absurd (omega arith)
told-some (r ∷ rs) h = told r rs

module _ (s : List ℕ) where
  judged-told : Sized (length s) → Told (records_of s) (judged s)
  judged-told z = rw (judged-start s (sized-size (length s) z)) (told-some (records_of s) (some-records (length s / 1900) s (omega (arith, z.some, z.whole))))

  -- Where the length is right and every payment is, the records are accepted, with the count of M and the sum of the V's used debits.
  pub paid-accepted : Sized (length s) → Paid (records_of s) → judged s ≡ Accepted (count_m (records_of s)) (used_in (records_of s))
  paid-accepted z p = judged-start s (sized-size (length s) z) ∙ paid-judged (records_of s) p

  -- Accepted records are such payments, and what is answered is their count and their sum.
  pub accepted-paid : (c n : ℕ) → judged s ≡ Accepted c n → Sized (length s) × Paid (records_of s) × (c ≡ count_m (records_of s)) × (n ≡ used_in (records_of s))
  accepted-paid c n e = go (size_right (length s)) refl
    where
      by : {a : EpAnswer} → Told (records_of s) a → a ≡ Accepted c n → Paid (records_of s) × (c ≡ count_m (records_of s)) × (n ≡ used_in (records_of s))
      by (accepted p) q =
          let same : ◌≡◌ {A = Payments} (record { count = count_m (records_of s); sum = used_in (records_of s) }) (record { count = c; sum = n }) = cc in
          (p, ap (λ (a : Payments). a.count) (sym same), ap (λ (a : Payments). a.sum) (sym same))
      by (refused t) q = let z : ◌≡◌ {A = ℕ} 0 1 = cc in absurd (omega arith)

      go : (b : Bool) → size_right (length s) ≡ b → Sized (length s) × Paid (records_of s) × (c ≡ count_m (records_of s)) × (n ≡ used_in (records_of s))
      go true q = let z = size-sized (length s) q in let t = by (judged-told z) e in (z, t.0, t.1, t.2)
      go false q = let f : Refused 30 0 0 ≡ Accepted c n = sym (judged-30 s q) ∙ e in let z : ◌≡◌ {A = ℕ} 0 1 = cc in absurd (omega arith)

  -- "the count of M and the sum of their totals"
  pub accepted-totals : (c n : ℕ) → judged s ≡ Accepted c n → n ≡ totals_in (records_of s)
  accepted-totals c n e = let a = accepted-paid c n e in a.3 ∙ sym (totals-used (records_of s) a.1)

  -- Any other refusal is at the first fault, and at position 0.
  pub refused-first : Sized (length s) → (e k p : ℕ) → judged s ≡ Refused e k p → Stops (records_of s) e k × (p ≡ 0)
  refused-first z e k p q = by (judged-told z) q
    where
      by : {a : EpAnswer} → Told (records_of s) a → a ≡ Refused e k p → Stops (records_of s) e k × (p ≡ 0)
      by (accepted w) f = let z : ◌≡◌ {A = ℕ} 0 1 = cc in absurd (omega arith)
      by (refused t) f = let same = refused-parts f in (rw (← same.0, ← same.1) t, sym same.2)

  -- "Refusals, for this form alone": 30 to 33, "and position 0".
  pub refused-number : (e k p : ℕ) → judged s ≡ Refused e k p → (30 ≤ e) × (e ≤ 33) × (p ≡ 0)
  refused-number e k p q = go (size_right (length s)) refl
    where
      by : Stops (records_of s) e k → (30 ≤ e) × (e ≤ 33)
      by (early v rest a b i j) = (omega arith, omega arith)
      by (unknown ps r rest a b c d i j) = (omega arith, omega arith)
      by (alone ps m rest a b c d i j) = (omega arith, omega arith)
      by (no-digits ps m vs v rest a b c d f g i j) = (omega arith, omega arith)
      by (no-sum ps m vs v rest a b c d f g i j) = (omega arith, omega arith)
      by (no-total ps m vs rest a b c d f g h i j) = (omega arith, omega arith)

      go : (b : Bool) → size_right (length s) ≡ b → (30 ≤ e) × (e ≤ 33) × (p ≡ 0)
      go true b = let f = refused-first (size-sized (length s) b) e k p q in let n = by f.0 in (n.0, n.1, f.1)
      go false b = let z : Refused 30 0 0 ≡ Refused e k p = sym (judged-30 s b) ∙ q in let same = refused-parts z in (omega (arith, same.0), omega (arith, same.0), sym same.2)
