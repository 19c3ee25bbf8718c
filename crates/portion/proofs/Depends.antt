-- What a call may depend on: "From the same state and portion, two flows of one length that agree in the records the call examines get the same answer and the same new state".
use Rattle.std.specs.Prelude.{Err}
use Prim.Native.Nat.{ℕ, ◌+◌, ◌-◌, ◌*◌, ◌/◌, ◌<◌, ◌≤◌}
use mathlib.Core.Path.{◌≡◌, refl, sym, ap, ap₂, ◌∙◌}
use mathlib.Core.Bool.{Bool, true, false}
use mathlib.Core.List.{List, [], ◌∷◌}
use native.Mathlib.Omega.{arith}
use native.Mathlib.Decide.{dec_lt, ℕ_discrete}
use borrow.Author.Tests.{eq-eqb, ne_eqb}
use lib.ListN.{length, take, drop}
use lib.Seq.{take-take}
use Rattle.layout.specs.Fields.{support_name, bytes_of}
use Rattle.refusal.specs.Outcomes.{Outcome, Pass}
use Rattle.rules.specs.declared.State.{State}
use Rattle.rules.specs.Checks.{fault}
use Rattle.rules.specs.Step.{next}
use Rattle.state.specs.Numbers.{state_numbers, state_of}
use Rattle.judge.specs.Flow.{chunks, rest_of, head_name_of}
use Rattle.judge.specs.Plain.{Whole}
use Rattle.judge.specs.Run.{Run, stopped, ran}
use Rattle.judge.proofs.FirstFault.{Sized, sized}
use Rattle.judge.proofs.FirstFault.Sized.{long, none, ragged, whole}
use Rattle.portion.specs.declared.Course.{Course}
use Rattle.portion.specs.declared.Course.TheVariants.{Going, Accepted, Refused, Foreign}
use Rattle.portion.specs.declared.Progress.{Progress}
use Rattle.portion.specs.Portion.{told, possible, held_name, course_after, allowed, examining, went_on, portioned}
use Rattle.portion.specs.Series.{one_more, steps, Agree}
use Rattle.portion.specs.Inner.{last_of}
use Rattle.portion.proofs.Reach.{drop-take, chunks-take, take_chunks, allowed-length, last_within, last_some}
use Rattle.portion.proofs.Examined.{steps-most, examined-steps}
use Rattle.portion.proofs.Portions.{went, went-none}
use Rattle.portion.proofs.Ways as way

-- a run goes by the records that it steps over
same-run : (name : List ℕ) (st : State) (rs ts : List (List ℕ)) → length rs ≡ length ts → take (steps name st rs) rs ≡ take (steps name st rs) ts → ran name st rs ≡ ran name st ts
unfolding ran steps
same-run name st [] [] l e = refl
same-run name st [] (t ∷ ts) l e = absurd (omega arith)
same-run name st (r ∷ rs) [] l e = absurd (omega arith)
same-run name st (r ∷ rs) (t ∷ ts) l e = go (fault name st r) refl e (λ h. same-run name (next st r) rs ts (omega arith) h)
  where
    go : (o : Outcome) → fault name st r ≡ o → take (one_more o (steps name (next st r) rs)) (r ∷ rs) ≡ take (one_more o (steps name (next st r) rs)) (t ∷ ts) →
        (take (steps name (next st r) rs) rs ≡ take (steps name (next st r) rs) ts → ran name (next st r) rs ≡ ran name (next st r) ts) →
        stopped (fault name st r) st (ran name (next st r) rs) ≡ stopped (fault name st t) st (ran name (next st t) ts)
    go Pass f h on =
        let a : r ≡ t = cc in
        let b : take (steps name (next st r) rs) rs ≡ take (steps name (next st r) rs) ts = cc in
        ap₂ (λ (i : List ℕ) (x : Run). stopped (fault name st i) st x) a (on b ∙ ap (λ (i : List ℕ). ran name (next st i) ts) a)
    go (Err why) f h on =
        let a : r ≡ t = cc in
        ap (λ (o : Outcome). stopped o st (ran name (next st r) rs)) f ∙ sym (ap (λ (o : Outcome). stopped o st (ran name (next st t) ts)) (ap (fault name st) (sym a) ∙ f))

module _ (s t : List ℕ) (l : length s ≡ length t) (p : ℕ) (x : Progress) where
  -- the tests on the length
  module _ (y : possible x ≡ true) (c : x.course ≡ Going) where
    abbrev seen : ℕ
    seen = (state_of x.kept).seen

    same_length : Whole s → Whole t
    same_length w = record { short = rw l at w.short; some = rw l at w.some; even = rw l at w.even }

    on : (f : List ℕ) → Whole f → seen < length f / 120 → portioned f p x ≡ told (went_on f p x)
    on f w m = way.by-course f p x Going y c ∙ way.more_left f p x w.short (λ e. let h = w.some in omega arith) w.even m

    module _ (w : Whole s) (m : seen < length s / 120) (n : p ≡ 0 → ⊥) (a : Agree s t seen (portioned s p x).examined) where
      abbrev k : ℕ
      k = steps (held_name s x) (state_of x.kept) (allowed s p x)

      examined-k : (portioned s p x).examined - seen ≡ k
      examined-k = let e = examined-steps s p x y c w m in omega arith

      -- the records that the call examines are the same
      bytes : take (k * 120) (drop (seen * 120) s) ≡ take (k * 120) (drop (seen * 120) t)
      bytes = rw examined-k at a

      few : (k ≤ p) × (k ≤ length s / 120 - seen)
      few =
          let h = steps-most (held_name s x) (state_of x.kept) (allowed s p x) in
          let z = allowed-length s seen p (omega arith) in
          let b = last_within seen p (length s / 120) (omega arith) in
          (omega arith, omega arith)

      first : (f : List ℕ) → length f ≡ length s → take k (allowed f p x) ≡ chunks k (take (k * 120) (drop (seen * 120) f))
      first f e = take-take k p (rest_of f seen) few.0 ∙ (take_chunks k (length f / 120 - seen) (drop (seen * 120) f) (let h = few.1 in omega arith) ∙ sym (chunks-take k (drop (seen * 120) f)))

      records : take k (allowed s p x) ≡ take k (allowed t p x)
      records = first s refl ∙ (ap (chunks k) bytes ∙ sym (first t (sym l)))

      lengths : length (allowed s p x) ≡ length (allowed t p x)
      lengths = allowed-length s seen p (omega arith) ∙ (ap (λ (i : ℕ). last_of seen p (i / 120) - seen) l ∙ sym (allowed-length t seen p (omega arith)))

      -- so is the name, where record 1 is among them
      examines-some : 0 < k
      unfolding steps
      examines-some = go (allowed s p x) (let z = allowed-length s seen p (omega arith) in let b = last_some seen p (length s / 120) m (omega arith) in let some : 0 < length (allowed s p x) = omega arith in some)
        where
          one : (o : Outcome) (i : ℕ) → 0 < one_more o i
          one Pass i = omega arith
          one (Err why) i = omega arith

          go : (rs : List (List ℕ)) → 0 < length rs → 0 < steps (held_name s x) (state_of x.kept) rs
          go [] h = absurd (omega arith)
          go (r ∷ rs) h = one (fault (held_name s x) (state_of x.kept) r) (steps (held_name s x) (next (state_of x.kept) r) rs)

      name : held_name s x ≡ held_name t x
      unfolding held_name
      name = go (ℕ_discrete seen 0)
        where
          within : (f : List ℕ) → seen ≡ 0 → head_name_of f ≡ bytes_of (take (k * 120) (drop (seen * 120) f)) support_name
          within f e = sym (ap (λ (i : ℕ). bytes_of (take (k * 120) (drop (i * 120) f)) support_name) e ∙ (ap (take 20) (let h = examines-some in ap (λ (i : ℕ). drop 19 (take i f)) (let z : k * 120 ≡ 19 + (k * 120 - 19) = omega arith in z) ∙ drop-take 19 (k * 120 - 19) f) ∙ take-take 20 (k * 120 - 19) (drop 19 f) (let h = examines-some in omega arith)))

          go : Dec (seen ≡ 0) → held_name s x ≡ held_name t x
          go (yes e) = rw (eq-eqb seen 0 e) (within s e ∙ (ap (λ (b : List ℕ). bytes_of b support_name) bytes ∙ sym (within t e)))
          go (no d) = rw (ne_eqb seen 0 d)

      same-now : examining s p x ≡ examining t p x
      same-now = same-run (held_name s x) (state_of x.kept) (allowed s p x) (allowed t p x) lengths records ∙ ap (λ (nm : List ℕ). ran nm (state_of x.kept) (allowed t p x)) name

      same-went : went_on s p x ≡ went_on t p x
      same-went =
          went s p x n
          ∙ (ap₂ (λ (z : Run) (nm : List ℕ). record { course = course_after (length s / 120) z.fault z.state; kept = state_numbers z.state; name = nm }) same-now name
          ∙ (ap (λ (i : ℕ). record { course = course_after (i / 120) (examining t p x).fault (examining t p x).state; kept = state_numbers (examining t p x).state; name = held_name t x }) l
          ∙ sym (went t p x n)))

  -- the answer and what is handed back are the same
  pub depends-on-examined : Agree s t (state_of x.kept).seen (portioned s p x).examined → portioned s p x ≡ portioned t p x
  depends-on-examined a = go (possible x) refl
    where
      by_size : possible x ≡ true → x.course ≡ Going → Sized s → portioned s p x ≡ portioned t p x
      by_size y c (long h) = way.by-course s p x Going y c ∙ (way.too_long s p x h ∙ sym (way.by-course t p x Going y c ∙ way.too_long t p x (rw l at h)))
      by_size y c (none h) = way.by-course s p x Going y c ∙ (way.empty s p x (omega arith) h ∙ sym (way.by-course t p x Going y c ∙ way.empty t p x (omega arith) (sym l ∙ h)))
      by_size y c (ragged h n r) = way.by-course s p x Going y c ∙ (way.ragged s p x h n r ∙ sym (way.by-course t p x Going y c ∙ way.ragged t p x (rw l at h) (λ e. n (l ∙ e)) (rw l at r)))
      by_size y c (whole w) = by-seen (dec_lt (state_of x.kept).seen (length s / 120)) (ℕ_discrete p 0)
        where
          v : Whole t
          v = same_length y c w

          by-seen : Dec ((state_of x.kept).seen < length s / 120) → Dec (p ≡ 0) → portioned s p x ≡ portioned t p x
          by-seen (yes m) (yes e) = on y c s w m ∙ (ap told (went-none s p x e ∙ sym (went-none t p x e)) ∙ sym (on y c t v (rw l at m)))
          by-seen (yes m) (no n) = on y c s w m ∙ (ap told (same-went y c w m n a) ∙ sym (on y c t v (rw l at m)))
          by-seen (no d) e =
              let h : length s / 120 ≤ (state_of x.kept).seen = omega arith in
              way.by-course s p x Going y c ∙ (way.none_left s p x w.short (λ i. let q = w.some in omega arith) w.even h ∙ sym (way.by-course t p x Going y c ∙ way.none_left t p x v.short (λ i. let q = v.some in omega arith) v.even (rw l at h)))

      by-course : possible x ≡ true → (o : Course) → x.course ≡ o → portioned s p x ≡ portioned t p x
      by-course y Going c = by_size y c (sized s)
      by-course y Accepted c = way.by-course s p x Accepted y c ∙ sym (way.by-course t p x Accepted y c)
      by-course y (Refused n r z) c = way.by-course s p x (Refused n r z) y c ∙ sym (way.by-course t p x (Refused n r z) y c)
      by-course y Foreign c = way.by-course s p x Foreign y c ∙ sym (way.by-course t p x Foreign y c)

      go : (b : Bool) → possible x ≡ b → portioned s p x ≡ portioned t p x
      go true y = by-course y x.course refl
      go false y = way.impossible s p x y ∙ sym (way.impossible t p x y)
