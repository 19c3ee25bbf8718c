-- Portions one after the other are one: "a larger portion never alters an answer given", and an ended state gives its answer again.
use Prim.Native.Nat.{ℕ, zero, suc, ◌+◌, ◌-◌, ◌*◌, ◌/◌, ◌<◌, ◌≤◌}
use mathlib.Core.Path.{◌≡◌, sym, ap, ap₂, ◌∙◌}
use mathlib.Core.Bool.{true}
use mathlib.Core.List.{List, []}
use native.Mathlib.Omega.{arith}
use native.Mathlib.Decide.{dec_le, ℕ_discrete}
use borrow.Author.Tests.{lt-ltb, le-leb, lt-leb, eq-eqb, ne_eqb}
use lib.ListN.{length, take, drop, drop_of_length-le}
use Rattle.refusal.specs.Outcomes.{Outcome, Pass, Fails}
use Rattle.rules.specs.declared.State.{State}
use Rattle.state.specs.Numbers.{state_numbers, state_of}
use Rattle.judge.specs.Flow.{rest_of}
use Rattle.judge.specs.Run.{Run, ran}
use Rattle.judge.proofs.Records.{length-chunks}
use Rattle.portion.specs.declared.Course.{Course}
use Rattle.portion.specs.declared.Course.TheVariants.{Going}
use Rattle.portion.specs.declared.Progress.{Progress}
use Rattle.portion.specs.Portion.{possible, held_name, course_after, examining, went_on}
use Rattle.portion.specs.Inner.{last_of, Goes}
use Rattle.portion.proofs.Reach.{Stands, last_within}
use Rattle.portion.proofs.Split.{resumed, run_on, rest-on}
use Rattle.portion.proofs.Again.{stood, now-back}

-- what a call with more than none hands back
pub went : (s : List ℕ) (p : ℕ) (x : Progress) → (p ≡ 0 → ⊥) →
    went_on s p x ≡ record { course = course_after (length s / 120) (examining s p x).fault (examining s p x).state; kept = state_numbers (examining s p x).state; name = held_name s x }
unfolding went_on
went s p x n = rw (ne_eqb p 0 n)

pub went-none : (s : List ℕ) (p : ℕ) (x : Progress) → p ≡ 0 → went_on s p x ≡ x
unfolding went_on
went-none s p x e = rw (eq-eqb p 0 e)

-- a run decides what is handed back
went-from : (s : List ℕ) (p : ℕ) (x : Progress) (y : Run) → (p ≡ 0 → ⊥) → examining s p x ≡ y →
    went_on s p x ≡ record { course = course_after (length s / 120) y.fault y.state; kept = state_numbers y.state; name = held_name s x }
went-from s p x y n e = went s p x n ∙ ap (λ (z : Run). record { course = course_after (length s / 120) z.fault z.state; kept = state_numbers z.state; name = held_name s x }) e

module _ (s : List ℕ) (p q : ℕ) (x : Progress) (y : possible x ≡ true) (g : Goes s x) (n : p ≡ 0 → ⊥) where
  abbrev seen : ℕ
  seen = (state_of x.kept).seen

  abbrev now : Run
  now = examining s p x

  abbrev on : Run
  on = ran (held_name s x) now.state (take q (drop p (rest_of s seen)))

  both : examining s (p + q) x ≡ resumed now.fault now on
  both = run_on (held_name s x) p q (state_of x.kept) (rest_of s seen)

  some : p + q ≡ 0 → ⊥
  some e = n (omega arith)

  -- a run that has stopped stays where it is
  pub stopped-there : {e r : ℕ} → now.fault ≡ Fails e r → went_on s (p + q) x ≡ went_on s p x
  stopped-there f = went-from s (p + q) x now some (both ∙ ap (λ (o : Outcome). resumed o now on) f) ∙ sym (went s p x n)

  -- so does one that has come to the end
  pub ended-there : now.fault ≡ Pass → length s / 120 ≤ now.state.seen → went_on s (p + q) x ≡ went_on s p x
  unfolding ran
  ended-there f h =
      let l : length (rest_of s seen) ≡ length s / 120 - seen = length-chunks (length s / 120 - seen) (drop (seen * 120) s) in
      let w : length (rest_of s seen) ≤ p = reach-all f h l in
      let d : drop p (rest_of s seen) ≡ [] = drop_of_length-le (rest_of s seen) w in
      went-from s (p + q) x now some (both ∙ (ap (λ (o : Outcome). resumed o now on) f ∙ (ap (λ (rs : List (List ℕ)). ran (held_name s x) now.state (take q rs)) d ∙ nothing q f))) ∙ sym (went s p x n)
    where
      reach-all : now.fault ≡ Pass → length s / 120 ≤ now.state.seen → length (rest_of s seen) ≡ length s / 120 - seen → length (rest_of s seen) ≤ p
      reach-all f h l =
          let t : Stands Pass seen (last_of seen p (length s / 120) - seen) now.state.seen = rw f at (stood s p x y g) in
          let w = last_within seen p (length s / 120) (let m = g.more in omega arith) in
          omega arith

      nothing : (k : ℕ) → now.fault ≡ Pass → ran (held_name s x) now.state (take {A = List ℕ} k []) ≡ now
      nothing zero f = ap (λ (o : Outcome). record { fault = o; state = now.state }) (sym f)
      nothing (suc k) f = ap (λ (o : Outcome). record { fault = o; state = now.state }) (sym f)

  -- one that has passed goes on
  module _ (f : now.fault ≡ Pass) (h : now.state.seen < length s / 120) where
    pub further : now.state.seen ≡ seen + p
    further =
        let t : Stands Pass seen (last_of seen p (length s / 120) - seen) now.state.seen = rw f at (stood s p x y g) in
        let w = last_within seen p (length s / 120) (let m = g.more in omega arith) in
        go (dec_le (length s / 120 - seen) p) t w
      where
        go : Dec (length s / 120 - seen ≤ p) → Stands Pass seen (last_of seen p (length s / 120) - seen) now.state.seen → (seen ≤ last_of seen p (length s / 120)) × (last_of seen p (length s / 120) ≤ length s / 120) × (last_of seen p (length s / 120) ≤ seen + p) → now.state.seen ≡ seen + p
        go (yes e) t w = absurd (let z : last_of seen p (length s / 120) ≡ length s / 120 = rw (le-leb (length s / 120 - seen) p e) in omega arith)
        go (no d) t w = let z : last_of seen p (length s / 120) ≡ seen + p = rw (lt-leb (length s / 120 - seen) p (omega arith)) in omega arith

    abbrev after : Progress
    after = went_on s p x

    -- what is handed back: it goes on, with the state of the run and the head's name
    pub handed : after ≡ record { course = Going; kept = state_numbers now.state; name = held_name s x }
    handed = went s p x n ∙ ap (λ (o : Course). record { course = o; kept = state_numbers now.state; name = held_name s x }) (ap (λ (o : Outcome). course_after (length s / 120) o now.state) f ∙ rw (lt-ltb _ _ h))

    pub after-state : state_of after.kept ≡ now.state
    after-state = ap (λ (z : Progress). state_of z.kept) handed ∙ now-back s p x y g

    after-name : held_name s after ≡ held_name s x
    unfolding held_name
    after-name = rw (ne_eqb (state_of after.kept).seen 0 (λ z. n (let e = ap (λ (t : State). t.seen) after-state in let u = further in omega arith))) (ap (λ (z : Progress). z.name) handed)

    examines : (q ≡ 0 → ⊥) → examining s q after ≡ examining s (p + q) x
    examines m =
        let r : rest_of s now.state.seen ≡ drop p (rest_of s seen) = ap (rest_of s) further ∙ sym (rest-on s seen p) in
        ap₂ (λ (nm : List ℕ) (t : State). ran nm t (take q (rest_of s t.seen))) after-name after-state
        ∙ (ap (λ (rs : List (List ℕ)). ran (held_name s x) now.state (take q rs)) r
        ∙ sym (both ∙ ap (λ (o : Outcome). resumed o now on) f))

    pub goes_on : went_on s q after ≡ went_on s (p + q) x
    goes_on = go (ℕ_discrete q 0)
      where
        go : Dec (q ≡ 0) → went_on s q after ≡ went_on s (p + q) x
        go (yes e) = went-none s q after e ∙ ap (λ (m : ℕ). went_on s m x) (let z : p ≡ p + q = omega arith in z)
        go (no m) =
            went-from s q after (examining s (p + q) x) m (examines m)
            ∙ (ap (λ (nm : List ℕ). record { course = course_after (length s / 120) (examining s (p + q) x).fault (examining s (p + q) x).state; kept = state_numbers (examining s (p + q) x).state; name = nm }) after-name
            ∙ sym (went s (p + q) x some))
