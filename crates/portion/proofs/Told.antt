-- What an answer tells of the ways to it: one that is given stays, and a foreign state comes back as it was.
use Rattle.std.specs.Prelude.{Err}
use Prim.Native.Nat.{ℕ, ◌+◌, ◌/◌, ◌%◌, ◌<◌, ◌≤◌}
use mathlib.Core.Path.{◌≡◌, refl, sym, ap, ◌∙◌}
use mathlib.Core.Bool.{Bool, true, false, false≢true}
use mathlib.Core.List.{List}
use mathlib.Core.Logic.{◌⊎◌, inl, inr}
use native.Mathlib.Omega.{arith}
use native.Mathlib.Decide.{dec_lt, ℕ_discrete}
use lib.Dec.{ltb}
use lib.ListN.{length}
use Rattle.refusal.specs.Outcomes.{Outcome, Pass}
use Rattle.text.proofs.Tests.{either_way}
use Rattle.rules.specs.declared.State.{State}
use Rattle.state.specs.Numbers.{state_of}
use Rattle.judge.specs.Refusal.{Verdict}
use Rattle.judge.specs.Refusal as Judged
use Rattle.judge.specs.Flow.{closing}
use Rattle.judge.specs.Plain.{Whole}
use Rattle.judge.proofs.FirstFault.{Sized, sized}
use Rattle.judge.proofs.FirstFault.Sized.{long, none, ragged, whole}
use Rattle.portion.specs.declared.Course.{Course}
use Rattle.portion.specs.declared.Course.TheVariants.{Going, Accepted, Refused, Foreign}
use Rattle.portion.specs.declared.Progress.{Progress}
use Rattle.portion.specs.declared.Portion.{Portion}
use Rattle.portion.specs.Portion.{ended_by, told, foreign, refusable, course_right, possible, course_after, examining, went_on, refused_now, portioned}
use Rattle.portion.specs.Series.{Foreigner, AtOnce}
use Rattle.portion.proofs.Sound.{possible-says, sound-goes}
use Rattle.portion.proofs.Again.{went-sound, refused-sound}
use Rattle.portion.proofs.Portions.{went, went-none}
use Rattle.portion.proofs.Series.{ended-again, portions-add}
use Rattle.portion.proofs.Ways as way

-- which of three an answer is
abbrev sort : Course → ℕ
sort Going = 0
sort Accepted = 1
sort (Refused n r p) = 1
sort Foreign = 2

ended-sort : (v : Verdict) → sort (ended_by v) ≡ 1
ended-sort Judged.Accepted = refl
ended-sort (Err why) = refl

-- the ways to an answer
data Way (s : List ℕ) (p : ℕ) (x : Progress) : Type 0 where
  by-bounds : possible x ≡ false → portioned s p x ≡ foreign x → Way s p x
  by-ending : (v : Verdict) → possible x ≡ true → x.course ≡ ended_by v → portioned s p x ≡ told x → Way s p x
  by_length : (n : ℕ) → possible (refused_now n x) ≡ true → portioned s p x ≡ told (refused_now n x) → Way s p x
  by-seen : possible x ≡ true → x.course ≡ Going → Whole s → length s / 120 ≤ (state_of x.kept).seen → portioned s p x ≡ foreign x → Way s p x
  by-records : possible x ≡ true → x.course ≡ Going → Whole s → (state_of x.kept).seen < length s / 120 → portioned s p x ≡ told (went_on s p x) → Way s p x

way-to : (s : List ℕ) (p : ℕ) (x : Progress) → Way s p x
unfolding refusable
way-to s p x = go (possible x) refl
  where
    by_size : possible x ≡ true → x.course ≡ Going → Sized s → Way s p x
    by_size y c (long h) = by_length 1 (refused-sound 1 x y refl) (way.by-course s p x Going y c ∙ way.too_long s p x h)
    by_size y c (none h) = by_length 2 (refused-sound 2 x y refl) (way.by-course s p x Going y c ∙ way.empty s p x (omega arith) h)
    by_size y c (ragged h n r) = by_length 2 (refused-sound 2 x y refl) (way.by-course s p x Going y c ∙ way.ragged s p x h n r)
    by_size y c (whole w) = seen (dec_lt (state_of x.kept).seen (length s / 120))
      where
        seen : Dec ((state_of x.kept).seen < length s / 120) → Way s p x
        seen (yes m) = by-records y c w m (way.by-course s p x Going y c ∙ way.more_left s p x w.short (λ e. let h = w.some in omega arith) w.even m)
        seen (no d) = let m : length s / 120 ≤ (state_of x.kept).seen = omega arith in by-seen y c w m (way.by-course s p x Going y c ∙ way.none_left s p x w.short (λ e. let h = w.some in omega arith) w.even m)

    course : possible x ≡ true → (o : Course) → x.course ≡ o → Way s p x
    course y Going c = by_size y c (sized s)
    course y Accepted c = by-ending Judged.Accepted y c (way.by-course s p x Accepted y c)
    course y (Refused n r k) c = by-ending (Judged.Refused n r k) y c (way.by-course s p x (Refused n r k) y c)
    course y Foreign c = absurd (false≢true (sym (ap (course_right (state_of x.kept).seen) c) ∙ (possible-says x y).course))

    go : (t : Bool) → possible x ≡ t → Way s p x
    go true y = course y x.course refl
    go false y = by-bounds y (way.impossible s p x y)

-- what a portion above none leaves stands otherwise than foreign
after-sort : (n : ℕ) (o : Outcome) (st : State) → sort (course_after n o st) ≤ 1
after-sort n Pass st = either_way (λ (c : Course). sort c ≤ 1) (ltb st.seen n) Going (ended_by (closing st).verdict) (omega arith) (let e = ended-sort (closing st).verdict in omega arith)
after-sort n (Err why) st = omega arith

-- "An ended state gives its answer again", on any flow and with any portion
pub given-again : (s t : List ℕ) (p q : ℕ) (x : Progress) (v : Verdict) → (portioned s p x).answer ≡ ended_by v → portioned t q (portioned s p x).next ≡ portioned s p x
given-again s t p q x v e = go (way-to s p x)
  where
    not-foreign : portioned s p x ≡ foreign x → portioned t q (portioned s p x).next ≡ portioned s p x
    not-foreign f = let a = sym (ap (λ (b : Portion). sort b.answer) f) ∙ ap sort e in let b = ended-sort v in absurd (omega arith)

    again : (y : Progress) → portioned s p x ≡ told y → portioned t q y ≡ told y → portioned t q (portioned s p x).next ≡ portioned s p x
    again y f g = ap (λ (b : Portion). portioned t q b.next) f ∙ (g ∙ sym f)

    records : possible x ≡ true → x.course ≡ Going → Whole s → (state_of x.kept).seen < length s / 120 → portioned s p x ≡ told (went_on s p x) → Dec (p ≡ 0) → portioned t q (portioned s p x).next ≡ portioned s p x
    records y c w m f (yes z) = let a = sym (ap (λ (b : Portion). sort b.answer) f ∙ (ap (λ (i : Progress). sort i.course) (went-none s p x z) ∙ ap sort c)) ∙ ap sort e in let b = ended-sort v in absurd (omega arith)
    records y c w m f (no n) = again (went_on s p x) f (ended-again t q (went_on s p x) v (went-sound s p x y (sound-goes s x y w.short (λ i. let h = w.some in omega arith) w.even m) n) (sym (ap (λ (b : Portion). b.answer) f) ∙ e))

    go : Way s p x → portioned t q (portioned s p x).next ≡ portioned s p x
    go (by-bounds y f) = not-foreign f
    go (by-ending u y c f) = again x f (ended-again t q x u y c)
    go (by_length n y f) = again (refused_now n x) f (ended-again t q (refused_now n x) (Judged.Refused n 0 0) y refl)
    go (by-seen y c w m f) = not-foreign f
    go (by-records y c w m f) = records y c w m f (ℕ_discrete p 0)

-- "a larger portion never alters an answer given"
pub larger-portion : (s : List ℕ) (p q : ℕ) (x : Progress) (v : Verdict) → (portioned s p x).answer ≡ ended_by v → portioned s (p + q) x ≡ portioned s p x
larger-portion s p q x v e = sym (portions-add s p q x) ∙ given-again s s p q x v e

-- a state is foreign where it fails the bounds, or goes on and has seen as many records as this flow has, and for no other reason; it then comes back as it was, with none examined
pub foreign-exactly : (s : List ℕ) (p : ℕ) (x : Progress) → (portioned s p x).answer ≡ Foreign → Foreigner s x (portioned s p x)
foreign-exactly s p x e = go (way-to s p x)
  where
    not_so : (y : Progress) → portioned s p x ≡ told y → sort y.course ≤ 1 → Foreigner s x (portioned s p x)
    not_so y f h = let a = sym (ap (λ (b : Portion). sort b.answer) f) ∙ ap sort e in absurd (omega arith)

    records : x.course ≡ Going → portioned s p x ≡ told (went_on s p x) → Dec (p ≡ 0) → Foreigner s x (portioned s p x)
    records c f (yes z) = not_so (went_on s p x) f (let a = ap (λ (i : Progress). sort i.course) (went-none s p x z) ∙ ap sort c in omega arith)
    records c f (no n) = not_so (went_on s p x) f (let a = ap (λ (i : Progress). sort i.course) (went s p x n) in let b = after-sort (length s / 120) (examining s p x).fault (examining s p x).state in omega arith)

    go : Way s p x → Foreigner s x (portioned s p x)
    go (by-bounds y f) = rw f (refl, refl, refl, inl y)
    go (by-ending u y c f) = not_so x f (let a = ap sort c in let b = ended-sort u in omega arith)
    go (by_length n y f) = not_so (refused_now n x) f (omega arith)
    go (by-seen y c w m f) = rw f (refl, refl, refl, inr (c, w, m))
    go (by-records y c w m f) = records c f (ℕ_discrete p 0)

pub foreign-then : (s : List ℕ) (p : ℕ) (x : Progress) → (possible x ≡ false) ⊎ ((x.course ≡ Going) × Whole s × (length s / 120 ≤ (state_of x.kept).seen)) → (portioned s p x).answer ≡ Foreign
foreign-then s p x r = go (possible x) refl r
  where
    failed : possible x ≡ false → (portioned s p x).answer ≡ Foreign
    failed y = ap (λ (a : Portion). a.answer) (way.impossible s p x y)

    go : (t : Bool) → possible x ≡ t → (possible x ≡ false) ⊎ ((x.course ≡ Going) × Whole s × (length s / 120 ≤ (state_of x.kept).seen)) → (portioned s p x).answer ≡ Foreign
    go false y q = failed y
    go true y (inl n) = failed n
    go true y (inr q) = let w = q.1 in ap (λ (a : Portion). a.answer) (way.by-course s p x Going y q.0 ∙ way.none_left s p x w.short (λ e. let h = w.some in omega arith) w.even q.2)

-- 1 and 2 come before the records seen, with any portion, and leave the state as it came but for its end
pub length-first : (s : List ℕ) (p : ℕ) (x : Progress) → possible x ≡ true → x.course ≡ Going →
    (65520 < length s → AtOnce 1 x (portioned s p x)) × (length s ≡ 0 → AtOnce 2 x (portioned s p x)) × (length s ≤ 65520 → (length s ≡ 0 → ⊥) → (length s % 120 ≡ 0 → ⊥) → AtOnce 2 x (portioned s p x))
length-first s p x y c =
    (λ h. rw (way.by-course s p x Going y c ∙ way.too_long s p x h) (refl, refl, refl, refl, refl, refl), λ h. rw (way.by-course s p x Going y c ∙ way.empty s p x (omega arith) h) (refl, refl, refl, refl, refl, refl), λ h n r. rw (way.by-course s p x Going y c ∙ way.ragged s p x h n r) (refl, refl, refl, refl, refl, refl))
