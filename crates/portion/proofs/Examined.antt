-- How many records a call examines: as many as its definition steps over, never more than it is allowed, never more than 546 in all.
use Rattle.std.specs.Prelude.{Err}
use Prim.Native.Nat.{ℕ, suc, ◌+◌, ◌/◌, ◌<◌, ◌≤◌}
use mathlib.Core.Path.{◌≡◌, refl, sym, ap, ◌∙◌}
use mathlib.Core.Bool.{Bool, true, false, cond, false≢true}
use mathlib.Core.List.{List, [], ◌∷◌}
use native.Mathlib.Omega.{arith}
use native.Mathlib.Decide.{dec_lt, ℕ_discrete}
use borrow.Author.Tests.{eq-eqb, ne_eqb, eqb-true, leb-true}
use lib.Dec.{eqb, ltb, leb}
use lib.ListN.{length, take}
use Rattle.text.proofs.Tests.{both_true}
use Rattle.refusal.specs.Outcomes.{Outcome, Pass, Fails}
use Rattle.order.specs.Stages.{after_tail}
use Rattle.rules.specs.declared.State.{State}
use Rattle.rules.specs.Checks.{fault}
use Rattle.rules.specs.Step.{next}
use Rattle.state.specs.Numbers.{state_of}
use Rattle.judge.specs.Flow.{refused_with, accepted_with, closing, rest_of}
use Rattle.judge.specs.Plain.{Whole}
use Rattle.judge.specs.Run.{Run, stopped, ran}
use Rattle.judge.proofs.FirstFault.{Sized, sized}
use Rattle.judge.proofs.FirstFault.Sized.{long, none, ragged, whole}
use Rattle.portion.specs.declared.Course.{Course}
use Rattle.portion.specs.declared.Course.TheVariants.{Going, Accepted, Refused, Foreign}
use Rattle.portion.specs.declared.Progress.{Progress}
use Rattle.portion.specs.declared.Portion.{Portion}
use Rattle.portion.specs.Portion.{ended_by, examined_by, told, refusable, course_right, possible, held_name, course_after, allowed, examining, went_on, portioned}
use Rattle.portion.specs.Inner.{Goes}
use Rattle.portion.specs.Series.{one_more, steps}
use Rattle.portion.proofs.Sound.{possible-says, sound-goes}
use Rattle.portion.proofs.Reach.{allowed-length, last_within}
use Rattle.portion.proofs.Stays.{ran-numbered}
use Rattle.portion.proofs.Again.{now-back}
use Rattle.portion.proofs.Portions.{went, went-none}
use Rattle.portion.proofs.Ways as way

-- the records that a run steps over are those that have passed, and the one that has not
abbrev Counted : Outcome → ℕ → ℕ → Type 0
Counted Pass n m = n ≡ m
Counted (Err why) n m = n ≡ m + 1

ran-steps : (name : List ℕ) (st : State) (rs : List (List ℕ)) → Counted (ran name st rs).fault (st.seen + steps name st rs) (ran name st rs).state.seen
unfolding ran steps next
ran-steps name st [] = omega arith
ran-steps name st (r ∷ rs) = go (fault name st r) (ran name (next st r) rs) (ran-steps name (next st r) rs)
  where
    on : (o : Outcome) (m : ℕ) → Counted o ((next st r).seen + steps name (next st r) rs) m → Counted o (st.seen + suc (steps name (next st r) rs)) m
    on Pass m h = omega arith
    on (Err why) m h = omega arith

    go : (o : Outcome) (x : Run) → Counted x.fault ((next st r).seen + steps name (next st r) rs) x.state.seen → Counted (stopped o st x).fault (st.seen + one_more o (steps name (next st r) rs)) (stopped o st x).state.seen
    go Pass x h = on x.fault x.state.seen h
    go (Err why) x h = refl

pub steps-most : (name : List ℕ) (st : State) (rs : List (List ℕ)) → steps name st rs ≤ length rs
unfolding steps
steps-most name st [] = omega arith
steps-most name st (r ∷ rs) = go (fault name st r) (steps-most name (next st r) rs)
  where
    go : (o : Outcome) → steps name (next st r) rs ≤ length rs → one_more o (steps name (next st r) rs) ≤ suc (length rs)
    go Pass h = omega arith
    go (Err why) h = omega arith

-- acceptance and refusal 5 have all records examined
pub closing-examined : (st : State) (n : ℕ) → examined_by (ended_by (closing st).verdict) n ≡ n
unfolding closing
closing-examined st n = go (eqb st.stage.phase after_tail)
  where
    go : (t : Bool) → examined_by (ended_by (cond t (accepted_with st) (refused_with 5 (st.seen + 1) 0)).verdict) n ≡ n
    go true = refl
    go false = refl

course-examined : (n : ℕ) (o : Outcome) (st : State) (m : ℕ) → Counted o m st.seen → ((e p : ℕ) → o ≡ Fails e p → e ≡ 5 → ⊥) → examined_by (course_after n o st) st.seen ≡ m
course-examined n Pass st m h f = go (ltb st.seen n) ∙ sym h
  where
    go : (t : Bool) → examined_by (cond t Going (ended_by (closing st).verdict)) st.seen ≡ st.seen
    go true = refl
    go false = closing-examined st st.seen
course-examined n (Err why) st m h f = rw (ne_eqb why.number 5 (f why.number why.position refl)) (sym h)

-- a call that goes on: "The examined count is a result field, equal to the definition's record steps"
module _ (s : List ℕ) (p : ℕ) (x : Progress) (y : possible x ≡ true) (c : x.course ≡ Going) (w : Whole s) (m : (state_of x.kept).seen < length s / 120) where
  goes : Goes s x
  goes = sound-goes s x y w.short (λ e. let h = w.some in omega arith) w.even m

  on : portioned s p x ≡ told (went_on s p x)
  on = way.by-course s p x Going y c ∙ way.more_left s p x w.short (λ e. let h = w.some in omega arith) w.even m

  pub examined-steps : (portioned s p x).examined ≡ (state_of x.kept).seen + steps (held_name s x) (state_of x.kept) (allowed s p x)
  unfolding steps
  examined-steps = ap (λ (a : Portion). a.examined) on ∙ go (ℕ_discrete p 0)
    where
      go : Dec (p ≡ 0) → (told (went_on s p x)).examined ≡ (state_of x.kept).seen + steps (held_name s x) (state_of x.kept) (allowed s p x)
      go (yes e) = ap (λ (z : Progress). (told z).examined) (went-none s p x e) ∙ (ap (λ (o : Course). examined_by o (state_of x.kept).seen) c ∙ (let z : (state_of x.kept).seen ≡ (state_of x.kept).seen + 0 = omega arith in z) ∙ ap (λ (i : ℕ). (state_of x.kept).seen + steps (held_name s x) (state_of x.kept) (take i (rest_of s (state_of x.kept).seen))) (sym e))
      go (no n) =
          ap (λ (z : Progress). (told z).examined) (went s p x n)
          ∙ (ap (λ (t : State). examined_by (course_after (length s / 120) (examining s p x).fault (examining s p x).state) t.seen) (now-back s p x y goes)
          ∙ course-examined (length s / 120) (examining s p x).fault (examining s p x).state _ (ran-steps (held_name s x) (state_of x.kept) (allowed s p x)) (λ e q f g. (ran-numbered (held_name s x) (state_of x.kept) (allowed s p x) f).not_five g))

  -- "never more in one call than was allowed"
  pub no-more-than-allowed : ((portioned s p x).examined ≤ (state_of x.kept).seen + p) × ((portioned s p x).examined ≤ length s / 120)
  no-more-than-allowed =
      let e = examined-steps in
      let a = steps-most (held_name s x) (state_of x.kept) (allowed s p x) in
      let l = allowed-length s (state_of x.kept).seen p (omega arith) in
      let b = last_within (state_of x.kept).seen p (length s / 120) (omega arith) in
      (omega arith, omega arith)

-- a refusal that a state may hold names no record above 546
refused-most : (k n r p : ℕ) → refusable k n r p ≡ true → (n ≡ 5 → ⊥) → r ≤ 546
unfolding refusable
refused-most k n r p h d = go (eqb n 0) (ltb n 3) (eqb r 0) (eqb n 5) refl refl h
  where
    go : (a b c f : Bool) → eqb r 0 ≡ c → eqb n 5 ≡ f →
        cond a false (cond b (cond c (eqb p 0) false) (cond (eqb r (k + 1)) (cond f (eqb p 0) (cond (leb r 546) (cond (leb n 20) true (eqb n 26)) false)) false)) ≡ true → r ≤ 546
    go true b c f u v t = absurd (false≢true t)
    go false true true f u v t = let z = eqb-true r 0 u in omega arith
    go false true false f u v t = absurd (false≢true t)
    go false false c true u v t = absurd (d (eqb-true n 5 v))
    go false false c false u v t = leb-true r 546 (both_true (leb r 546) _ (both_true (eqb r (k + 1)) _ t).1).0

-- "never more than 546", whatever is handed in
pub never-more : (s : List ℕ) (p : ℕ) (x : Progress) → (portioned s p x).examined ≤ 546
never-more s p x = go (possible x) refl
  where
    seen_most : possible x ≡ true → (state_of x.kept).seen ≤ 546
    seen_most y = (possible-says x y).counts.seen

    zeroed : (a : Portion) → portioned s p x ≡ a → a.examined ≡ 0 → (portioned s p x).examined ≤ 546
    zeroed a e z = let f = ap (λ (b : Portion). b.examined) e in omega arith

    by_size : possible x ≡ true → x.course ≡ Going → Sized s → (portioned s p x).examined ≤ 546
    by_size y c (long h) = zeroed _ (way.by-course s p x Going y c ∙ way.too_long s p x h) refl
    by_size y c (none h) = zeroed _ (way.by-course s p x Going y c ∙ way.empty s p x (omega arith) h) refl
    by_size y c (ragged h n r) = zeroed _ (way.by-course s p x Going y c ∙ way.ragged s p x h n r) refl
    by_size y c (whole w) = by-seen (dec_lt (state_of x.kept).seen (length s / 120))
      where
        by-seen : Dec ((state_of x.kept).seen < length s / 120) → (portioned s p x).examined ≤ 546
        by-seen (yes m) = let h = (no-more-than-allowed s p x y c w m).1 in let l = w.short in omega arith
        by-seen (no d) = zeroed _ (way.by-course s p x Going y c ∙ way.none_left s p x w.short (λ e. let h = w.some in omega arith) w.even (omega arith)) refl

    by-course : possible x ≡ true → (o : Course) → x.course ≡ o → (portioned s p x).examined ≤ 546
    by-course y Going c = by_size y c (sized s)
    by-course y Accepted c = let e = ap (λ (b : Portion). b.examined) (way.by-course s p x Accepted y c) ∙ ap (λ (o : Course). examined_by o (state_of x.kept).seen) c in let h = seen_most y in omega arith
    by-course y (Refused n r k) c = by_number (ℕ_discrete n 5)
      where
        told-so : (portioned s p x).examined ≡ cond (eqb n 5) (state_of x.kept).seen r
        told-so = ap (λ (b : Portion). b.examined) (way.by-course s p x (Refused n r k) y c) ∙ ap (λ (o : Course). examined_by o (state_of x.kept).seen) c

        by_number : Dec (n ≡ 5) → (portioned s p x).examined ≤ 546
        by_number (yes e) = let z : cond (eqb n 5) (state_of x.kept).seen r ≡ (state_of x.kept).seen = rw (eq-eqb n 5 e) in let t = told-so in let h = seen_most y in omega arith
        by_number (no d) = let z : cond (eqb n 5) (state_of x.kept).seen r ≡ r = rw (ne_eqb n 5 d) in let t = told-so in let h = refused-most (state_of x.kept).seen n r k (sym (ap (course_right (state_of x.kept).seen) c) ∙ (possible-says x y).course) d in omega arith
    by-course y Foreign c = zeroed _ (way.by-course s p x Foreign y c) refl

    go : (t : Bool) → possible x ≡ t → (portioned s p x).examined ≤ 546
    go true y = by-course y x.course refl
    go false y = zeroed _ (way.impossible s p x y) refl
