-- The three calls that take a record are guarded by it, each behind its own judgement.
use Rattle.std.specs.Prelude.{Err}
use Prim.Native.Nat.{ℕ, ◌<◌, ◌≤◌}
use mathlib.Core.Path.{◌≡◌, refl, sym, ap, ◌∙◌}
use mathlib.Core.List.{List, []}
use native.Mathlib.Omega.{arith}
use borrow.Author.Tests.{ne_eqb}
use lib.ListN.{length}
use Rattle.judge.specs.declared.Judgement.{Judgement}
use Rattle.judge.specs.Refusal.{Verdict, refusal_of}
use Rattle.judge.specs.Refusal as Judge
use Rattle.refusal.specs.declared.Refusal.{Refusal}
use Rattle.refusal.specs.Refusals.{no_refusal}
use Rattle.judge.specs.Flow.{judged}
use Rattle.judge.proofs.Turn.{judged-long}
use Rattle.judge.proofs.FirstFault.{judgement-number, accepted-has-none}
use Rattle.lenient.specs.Answers.{Lenient}
use Rattle.lenient.specs.Answers as Leniently
use Rattle.correct.specs.Answers as Correct
use Rattle.correct.specs.Correction.{correction_of}
use Rattle.correct.specs.WhenRefused.{AsFlow}
use Rattle.correct.proofs.Answered.{answered-exactly}
use Rattle.mend.specs.Answers as Mend
use Rattle.mend.specs.Mending.{remaining, unless, weighed, mending_of}
use Rattle.mend.proofs.Answering.{remaining-long}
use Rattle.mend.proofs.Answered.{mending-number}
use Rattle.dropping.specs.Answers as Drop
use Rattle.dropping.specs.Dropping.{dropping_of}
use Rattle.sums.specs.declared.KeptSums.{KeptSums}
use Rattle.kept.specs.Keeping.{correction_with, mending_with, dropping_with}
use Rattle.kept.specs.Inner.{mismatch_of, or_foreign}
use Rattle.kept.specs.WhenRefused.{refusal_lenient}
use Rattle.kept.proofs.Guarded.{Sort, none, some, Guarded}

-- The judgement of a flow.
abbrev pub strict : List ℕ → Refusal
strict f = refusal_of (judged f).verdict

pub strict-sort : (f : List ℕ) → Sort (strict f)
strict-sort f = go (judged f).verdict refl
  where
    go : (v : Verdict) → (judged f).verdict ≡ v → Sort (refusal_of v)
    go Judge.Accepted e = none refl
    go (Err why) e = some (judgement-number f e).0

-- What it refuses is its verdict.
pub strict-is : (f : List ℕ) → 1 ≤ (strict f).number → (judged f).verdict ≡ Judge.Refused (strict f).number (strict f).«record» (strict f).position
strict-is f = go (judged f).verdict
  where
    go : (v : Verdict) → 1 ≤ (refusal_of v).number → v ≡ Judge.Refused (refusal_of v).number (refusal_of v).«record» (refusal_of v).position
    go Judge.Accepted h = absurd (omega arith)
    go (Err why) h = refl

strict-long : (f : List ℕ) → 65520 < length f → 1 ≤ (strict f).number
strict-long f h = let e : (strict f).number ≡ 1 = ap (λ (j : Judgement). (refusal_of j.verdict).number) (judged-long f h) in omega arith

-- The lenient one.
abbrev pub lenient : List ℕ → Refusal
lenient f = refusal_lenient (remaining f)

pub remaining-number : (f : List ℕ) {n r p : ℕ} → remaining f ≡ Leniently.Refused n r p → 1 ≤ n
unfolding mending_of
remaining-number f e = mending-number f [] (ap (λ (v : Lenient). unless v (weighed 0 f)) e)

pub lenient-sort : (f : List ℕ) → Sort (lenient f)
lenient-sort f = go (remaining f) refl
  where
    go : (v : Lenient) → remaining f ≡ v → Sort (refusal_lenient v)
    go Leniently.Passed e = none refl
    go (Err why) e = some (remaining-number f e)

pub lenient-is : (f : List ℕ) → 1 ≤ (lenient f).number → remaining f ≡ Leniently.Refused (lenient f).number (lenient f).«record» (lenient f).position
lenient-is f = go (remaining f)
  where
    go : (v : Lenient) → 1 ≤ (refusal_lenient v).number → v ≡ Leniently.Refused (refusal_lenient v).number (refusal_lenient v).«record» (refusal_lenient v).position
    go Leniently.Passed h = absurd (omega arith)
    go (Err why) h = refl

pub lenient-none : (f : List ℕ) → lenient f ≡ no_refusal → remaining f ≡ Leniently.Passed
lenient-none f e = go (remaining f) refl
  where
    go : (v : Lenient) → remaining f ≡ v → remaining f ≡ Leniently.Passed
    go Leniently.Passed q = q
    go (Err why) q =
        let z : why.number ≡ 0 = ap (λ (y : Refusal). y.number) (sym (ap refusal_lenient q) ∙ e) in
        absurd (omega (arith, remaining-number f q))

lenient-long : (f : List ℕ) → 65520 < length f → 1 ≤ (lenient f).number
lenient-long f h = let e : (lenient f).number ≡ 1 = ap (λ (v : Lenient). (refusal_lenient v).number) (remaining-long f h) in omega arith

-- What a call is refused whose record is not the flow's, by its own judgement.
pub mismatch-strict : (f : List ℕ) → or_foreign (judged f).verdict ≡ mismatch_of (strict f)
unfolding mismatch_of
mismatch-strict f = go (judged f).verdict refl
  where
    go : (v : Verdict) → (judged f).verdict ≡ v → or_foreign v ≡ mismatch_of (refusal_of v)
    go Judge.Accepted e = refl
    go (Err why) e = rw (ne_eqb why.number 0 (λ z. omega (arith, (judgement-number f e).0)))

pub mismatch-lenient : (f : List ℕ) → or_foreign (remaining f) ≡ mismatch_of (lenient f)
unfolding mismatch_of
mismatch-lenient f = go (remaining f) refl
  where
    go : (v : Lenient) → remaining f ≡ v → or_foreign v ≡ mismatch_of (refusal_lenient v)
    go Leniently.Passed e = refl
    go (Err why) e = rw (ne_eqb why.number 0 (λ z. omega (arith, remaining-number f e)))

module _ (k : KeptSums) (f : List ℕ) where
  pub correction-guarded : (d subtype n x y : ℕ) → Guarded Correct.Refused (correction_of f d subtype n x y) (strict f) k f (correction_with k f d subtype n x y)
  unfolding correction_with
  correction-guarded d subtype n x y =
      record {
        sort = strict-sort f;
        long = strict-long f;
        told = λ h. let v = strict-is f h in cc;
        weighed = λ e. let v = (accepted-has-none f).0 e in cc;
        own = λ h. (answered-exactly f d subtype n x y _).1 (AsFlow (strict-is f h));
      }

  pub mending-guarded : (list : List ℕ) → Guarded Mend.Refused (mending_of f list) (lenient f) k f (mending_with k f list)
  unfolding mending_with mending_of
  mending-guarded list =
      record {
        sort = lenient-sort f;
        long = lenient-long f;
        told = λ h. let v = lenient-is f h in cc;
        weighed = λ e. let v = lenient-none f e in cc;
        own = λ h. let v = lenient-is f h in cc;
      }

  pub dropping-guarded : (numbers : List ℕ) → Guarded Drop.Refused (dropping_of f numbers) (strict f) k f (dropping_with k f numbers)
  unfolding dropping_with dropping_of
  dropping-guarded numbers =
      record {
        sort = strict-sort f;
        long = strict-long f;
        told = λ h. let v = strict-is f h in cc;
        weighed = λ e. let v = (accepted-has-none f).0 e in cc;
        own = λ h. let v = strict-is f h in cc;
      }
