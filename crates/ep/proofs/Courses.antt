-- What pieces come to, put together from what the code works out.
use Prim.Native.Nat.{ℕ, ◌+◌, ◌<◌, ◌≤◌}
use mathlib.Core.Path.{◌≡◌, refl, sym, ap, ◌∙◌}
use mathlib.Core.Bool.{true, false, false≢true}
use mathlib.Core.List.{List}
use borrow.Author.Tests.{eq-eqb, ne_eqb, lt-ltb, le-ltb}
use lib.ListN.{length}
use Rattle.std.specs.Prelude.{Err}
use Rattle.std.specs.Result.{is_err}
use Rattle.ep.specs.Answers.{Outcome, Pass, Refused}
use Rattle.ep.specs.declared.Tally.{Tally}
use Rattle.ep.specs.declared.Step.{Step}
use Rattle.ep.specs.declared.Course.{Course}
use Rattle.ep.specs.Payments.{no_tally, stepped, unless, ended}
use Rattle.ep.specs.Stream.{start_course, unfit, tally_by, outcome_by, counted, took, told, answered}

pub started : (t : Tally) → t ≡ no_tally → record { fits = true; records = 0; tally = t; outcome = Pass } ≡ start_course
started t e = ap (λ (u : Tally). record { fits = true; records = 0; tally = u; outcome = Pass }) e

module _ (c : Course) (r : List ℕ) where
  course-by : (o : Outcome) → c.outcome ≡ o → counted c r ≡ record { fits = true; records = c.records + 1; tally = tally_by o c.tally r; outcome = outcome_by o c.tally r }
  unfolding counted
  course-by o e = ap (λ (p : Outcome). record { fits = true; records = c.records + 1; tally = tally_by p c.tally r; outcome = outcome_by p c.tally r }) e

  -- Behind a fault a record is only counted.
  pub counted-behind : is_err c.outcome ≡ true → record { fits = true; records = c.records + 1; tally = c.tally; outcome = c.outcome } ≡ counted c r
  counted-behind h = go c.outcome h ∙ sym (course-by c.outcome refl)
    where
      go : (o : Outcome) → is_err o ≡ true → ◌≡◌ {A = Course} (record { fits = true; records = c.records + 1; tally = c.tally; outcome = o }) (record { fits = true; records = c.records + 1; tally = tally_by o c.tally r; outcome = outcome_by o c.tally r })
      go Pass h = absurd (false≢true h)
      go (Err why) h = refl

  -- No fault is a pass.
  no_fault : (o : Outcome) → is_err o ≡ false → o ≡ Pass
  no_fault Pass h = refl
  no_fault (Err why) h = absurd (false≢true (sym h))

  -- Before one it is judged.
  pub counted-judged : is_err c.outcome ≡ false → (d : Step) → d ≡ stepped c.tally r → record { fits = true; records = c.records + 1; tally = d.tally; outcome = d.outcome } ≡ counted c r
  unfolding stepped
  counted-judged h d f = let e = no_fault c.outcome h in ap (λ (x : Step). record { fits = true; records = c.records + 1; tally = x.tally; outcome = x.outcome }) f ∙ sym (course-by Pass e)

  -- What a piece comes to, by the tests of the code.
  pub took-unfit : c.fits ≡ false → unfit c ≡ took c r
  unfolding took
  took-unfit e = rw e

  pub took-cut : c.fits ≡ true → (length r ≡ 1900 → ⊥) → unfit c ≡ took c r
  unfolding took
  took-cut e n = rw (e, ne_eqb _ _ n)

  pub took_more : c.fits ≡ true → length r ≡ 1900 → c.records < 10000 → counted c r ≡ took c r
  unfolding took
  took_more e l h = rw (e, eq-eqb _ _ l, lt-ltb _ _ h)

  pub took-many : c.fits ≡ true → length r ≡ 1900 → 10000 ≤ c.records → unfit c ≡ took c r
  unfolding took
  took-many e l h = rw (e, eq-eqb _ _ l, le-ltb _ _ h)

module _ (c : Course) where
  pub answer-unfit : c.fits ≡ false → Refused 30 0 0 ≡ answered c
  unfolding answered
  answer-unfit e = rw e

  pub answer-none : c.fits ≡ true → c.records ≡ 0 → Refused 30 0 0 ≡ answered c
  unfolding answered
  answer-none e z = rw (e, eq-eqb _ _ z)

  pub answer-by : c.fits ≡ true → (c.records ≡ 0 → ⊥) → (o : Outcome) → c.outcome ≡ o → unless (told o) (ended c.tally) ≡ answered c
  unfolding answered
  answer-by e n o f = rw (e, ne_eqb _ _ n, f)

  -- Where its outcome is told as it stands, as one with position 0 is, a course that fits and has records is answered by it.
  pub answer-standing : c.fits ≡ true → (c.records ≡ 0 → ⊥) → (o : Outcome) → c.outcome ≡ o → told o ≡ o → unless o (ended c.tally) ≡ answered c
  answer-standing e n o f z = ap (λ (p : Outcome). unless p (ended c.tally)) (sym z) ∙ answer-by e n o f
