-- Any series of portions is one call with their sum.
use Rattle.std.specs.Prelude.{Err}
use Prim.Native.Nat.{ℕ, ◌+◌, ◌/◌, ◌<◌, ◌≤◌}
use mathlib.Core.Path.{◌≡◌, refl, sym, ap, ◌∙◌}
use mathlib.Core.Bool.{Bool, true, false}
use mathlib.Core.List.{List, [], ◌∷◌}
use native.Mathlib.Omega.{arith}
use native.Mathlib.Decide.{dec_lt, ℕ_discrete}
use borrow.Author.Tests.{le-ltb}
use lib.ListN.{length}
use Rattle.refusal.specs.Outcomes.{Outcome, Pass}
use Rattle.rules.specs.declared.State.{State}
use Rattle.state.specs.Numbers.{state_of}
use Rattle.judge.specs.Refusal.{Verdict}
use Rattle.judge.specs.Refusal as Judged
use Rattle.judge.specs.Flow.{closing}
use Rattle.judge.specs.Plain.{Whole}
use Rattle.judge.proofs.FirstFault.{Sized, sized}
use Rattle.judge.proofs.FirstFault.Sized.{long, none, ragged, whole}
use Rattle.portion.specs.declared.Course.{Course}
use Rattle.portion.specs.declared.Course.TheVariants.{Going, Accepted, Refused, Foreign}
use Rattle.portion.specs.declared.Progress.{Progress}
use Rattle.portion.specs.declared.Portion.{Portion}
use Rattle.portion.specs.Portion.{ended_by, told, foreign, refusable, possible, course_after, examining, went_on, refused_now, gone_on, portioned}
use Rattle.portion.specs.Inner.{Goes}
use Rattle.portion.specs.Series.{called, total}
use Rattle.portion.proofs.Sound.{sound-goes}
use Rattle.portion.proofs.Again.{went-sound, refused-sound}
use Rattle.portion.proofs.Portions.{went, went-none, stopped-there, ended-there, after-state, handed, goes_on}
use Rattle.portion.proofs.Ways as way

-- "An ended state gives its answer again"
pub ended-again : (s : List ℕ) (p : ℕ) (x : Progress) (v : Verdict) → possible x ≡ true → x.course ≡ ended_by v → portioned s p x ≡ told x
ended-again s p x Judged.Accepted y e = way.by-course s p x Accepted y e
ended-again s p x (Err why) y e = way.by-course s p x (Refused why.number why.«record» why.position) y e

-- a call with a state that goes on, by the length of the flow
module _ (s : List ℕ) (x : Progress) (y : possible x ≡ true) (c : x.course ≡ Going) where
  going : (p : ℕ) → portioned s p x ≡ gone_on s p x
  going p = way.by-course s p x Going y c

  goes : Whole s → (state_of x.kept).seen < length s / 120 → Goes s x
  goes w m = sound-goes s x y w.short (λ e. let h = w.some in omega arith) w.even m

  on : (p : ℕ) → Whole s → (state_of x.kept).seen < length s / 120 → portioned s p x ≡ told (went_on s p x)
  on p w m = going p ∙ way.more_left s p x w.short (λ e. let h = w.some in omega arith) w.even m

  off : (p : ℕ) → Whole s → length s / 120 ≤ (state_of x.kept).seen → portioned s p x ≡ foreign x
  off p w m = going p ∙ way.none_left s p x w.short (λ e. let h = w.some in omega arith) w.even m

  -- refused by its length, and so again
  refused-twice : (n p q : ℕ) → refusable (state_of x.kept).seen n 0 0 ≡ true → ((k : ℕ) → portioned s k x ≡ told (refused_now n x)) → portioned s q (portioned s p x).next ≡ portioned s (p + q) x
  refused-twice n p q r f = ap (λ (a : Portion). portioned s q a.next) (f p) ∙ (ended-again s q (refused_now n x) (Judged.Refused n 0 0) (refused-sound n x y r) refl ∙ sym (f (p + q)))

  -- gone on from, and from there
  module _ (w : Whole s) (m : (state_of x.kept).seen < length s / 120) (p q : ℕ) where
    then : portioned s q (went_on s p x) ≡ told (went_on s (p + q) x) → portioned s q (portioned s p x).next ≡ portioned s (p + q) x
    then e = ap (λ (a : Portion). portioned s q a.next) (on p w m) ∙ (e ∙ sym (on (p + q) w m))

    by-run : (p ≡ 0 → ⊥) → (o : Outcome) → (examining s p x).fault ≡ o → Dec ((examining s p x).state.seen < length s / 120) → portioned s q (went_on s p x) ≡ told (went_on s (p + q) x)
    by-run n (Err why) f d =
        ended-again s q (went_on s p x) (Judged.Refused why.number ((examining s p x).state.seen + 1) why.position) (went-sound s p x y (goes w m) n) (ap (λ (z : Progress). z.course) (went s p x n) ∙ ap (λ (z : Outcome). course_after (length s / 120) z (examining s p x).state) f)
        ∙ ap told (sym (stopped-there s p q x y (goes w m) n f))
    by-run n Pass f (no d) =
        ended-again s q (went_on s p x) (closing (examining s p x).state).verdict (went-sound s p x y (goes w m) n) (ap (λ (z : Progress). z.course) (went s p x n) ∙ (ap (λ (z : Outcome). course_after (length s / 120) z (examining s p x).state) f ∙ rw (le-ltb (examining s p x).state.seen (length s / 120) (omega arith))))
        ∙ ap told (sym (ended-there s p q x y (goes w m) n f (omega arith)))
    by-run n Pass f (yes h) =
        let a = went_on s p x in
        let e = ap (λ (t : State). t.seen) (after-state s p q x y (goes w m) n f h) in
        way.by-course s q a Going (went-sound s p x y (goes w m) n) (ap (λ (z : Progress). z.course) (handed s p q x y (goes w m) n f h))
        ∙ (way.more_left s q a w.short (λ z. let l = w.some in omega arith) w.even (omega arith)
        ∙ ap told (goes_on s p q x y (goes w m) n f h))

    twice : portioned s q (portioned s p x).next ≡ portioned s (p + q) x
    twice = go (ℕ_discrete p 0)
      where
        go : Dec (p ≡ 0) → portioned s q (portioned s p x).next ≡ portioned s (p + q) x
        go (yes e) = ap (λ (a : Portion). portioned s q a.next) (on p w m) ∙ (ap (portioned s q) (went-none s p x e) ∙ ap (λ (k : ℕ). portioned s k x) (let z : q ≡ p + q = omega arith in z))
        go (no n) = then (by-run n (examining s p x).fault refl (dec_lt (examining s p x).state.seen (length s / 120)))

-- a portion, and then another from what was handed back, are one portion
pub portions-add : (s : List ℕ) (p q : ℕ) (x : Progress) → portioned s q (portioned s p x).next ≡ portioned s (p + q) x
unfolding refusable
portions-add s p q x = go (possible x) refl
  where
    same : (a : Portion) → a.next ≡ x → ((k : ℕ) → portioned s k x ≡ a) → portioned s q (portioned s p x).next ≡ portioned s (p + q) x
    same a e f = ap (λ (b : Portion). portioned s q b.next) (f p) ∙ (ap (portioned s q) e ∙ (f q ∙ sym (f (p + q))))

    by_size : possible x ≡ true → x.course ≡ Going → Sized s → portioned s q (portioned s p x).next ≡ portioned s (p + q) x
    by_size y c (long h) = refused-twice s x y c 1 p q refl (λ k. going s x y c k ∙ way.too_long s k x h)
    by_size y c (none h) = refused-twice s x y c 2 p q refl (λ k. going s x y c k ∙ way.empty s k x (omega arith) h)
    by_size y c (ragged h n r) = refused-twice s x y c 2 p q refl (λ k. going s x y c k ∙ way.ragged s k x h n r)
    by_size y c (whole w) = by-seen (dec_lt (state_of x.kept).seen (length s / 120))
      where
        by-seen : Dec ((state_of x.kept).seen < length s / 120) → portioned s q (portioned s p x).next ≡ portioned s (p + q) x
        by-seen (yes m) = twice s x y c w m p q
        by-seen (no d) = same (foreign x) refl (λ k. off s x y c k w (omega arith))

    by-course : possible x ≡ true → (o : Course) → x.course ≡ o → portioned s q (portioned s p x).next ≡ portioned s (p + q) x
    by-course y Going c = by_size y c (sized s)
    by-course y Accepted c = same (told x) refl (λ k. way.by-course s k x Accepted y c)
    by-course y (Refused n r z) c = same (told x) refl (λ k. way.by-course s k x (Refused n r z) y c)
    by-course y Foreign c = same (foreign x) refl (λ k. way.by-course s k x Foreign y c)

    go : (t : Bool) → possible x ≡ t → portioned s q (portioned s p x).next ≡ portioned s (p + q) x
    go true y = by-course y x.course refl
    go false y = same (foreign x) refl (λ k. way.impossible s k x y)

-- any series of portions is one with their sum
pub series-is-one : (s : List ℕ) (x : Progress) (p : ℕ) (ps : List ℕ) → called s x p ps ≡ portioned s (p + total ps) x
unfolding called total
series-is-one s x p [] = ap (λ (k : ℕ). portioned s k x) (let e : p ≡ p + 0 = omega arith in e)
series-is-one s x p (q ∷ qs) =
    series-is-one s (portioned s p x).next q qs ∙ portions-add s p (q + total qs) x
