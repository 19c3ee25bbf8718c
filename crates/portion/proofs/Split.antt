-- Runs over records one after the other: the first part and then the rest are the whole, and what has stopped stays where it is.
use Rattle.std.specs.Prelude.{Err}
use Prim.Native.Nat.{ℕ, zero, suc, ◌+◌, ◌-◌, ◌*◌, ◌/◌}
use mathlib.Core.Path.{◌≡◌, refl, ap, ◌∙◌}
use mathlib.Core.List.{List, [], ◌∷◌}
use native.Mathlib.Omega.{arith}
use lib.ListN.{length, take, drop}
use lib.Seq.{drop-drop}
use Rattle.refusal.specs.Outcomes.{Outcome, Pass}
use Rattle.rules.specs.declared.State.{State}
use Rattle.rules.specs.Checks.{fault}
use Rattle.rules.specs.Step.{next}
use Rattle.judge.specs.Flow.{chunks, rest_of}
use Rattle.judge.specs.Run.{Run, stopped, ran}

-- a run that goes on where another has passed
abbrev pub resumed : Outcome → Run → Run → Run
resumed Pass x y = y
resumed (Err why) x y = x

-- p records, and then q of those behind them, are p + q records
pub run_on : (name : List ℕ) (p q : ℕ) (st : State) (rs : List (List ℕ)) →
    ran name st (take (p + q) rs) ≡ resumed (ran name st (take p rs)).fault (ran name st (take p rs)) (ran name (ran name st (take p rs)).state (take q (drop p rs)))
unfolding ran
run_on name zero q st rs = ap (λ (n : ℕ). ran name st (take n rs)) (let e : 0 + q ≡ q = omega arith in e)
run_on name (suc p) q st [] = ap (λ (n : ℕ). ran name st (take {A = List ℕ} n [])) (let e : suc p + q ≡ suc (p + q) = omega arith in e) ∙ go q
  where
    go : (n : ℕ) → ran name st [] ≡ ran name st (take {A = List ℕ} n [])
    go zero = refl
    go (suc n) = refl
run_on name (suc p) q st (r ∷ rs) =
    ap (λ (n : ℕ). ran name st (take n (r ∷ rs))) (let e : suc p + q ≡ suc (p + q) = omega arith in e) ∙ go (fault name st r) (run_on name p q (next st r) rs)
  where
    go : (o : Outcome) →
        ran name (next st r) (take (p + q) rs) ≡ resumed (ran name (next st r) (take p rs)).fault (ran name (next st r) (take p rs)) (ran name (ran name (next st r) (take p rs)).state (take q (drop p rs))) →
        stopped o st (ran name (next st r) (take (p + q) rs)) ≡ resumed (stopped o st (ran name (next st r) (take p rs))).fault (stopped o st (ran name (next st r) (take p rs))) (ran name (stopped o st (ran name (next st r) (take p rs))).state (take q (drop p rs)))
    go Pass e = e
    go (Err why) h = refl

-- the records left after k and then p more
pub rest-on : (s : List ℕ) (k p : ℕ) → drop p (rest_of s k) ≡ rest_of s (k + p)
unfolding chunks
rest-on s k p = go (length s / 120 - k) p (drop (k * 120) s) ∙ (ap (λ (m : ℕ). chunks m (drop (p * 120) (drop (k * 120) s))) (let e : length s / 120 - k - p ≡ length s / 120 - (k + p) = omega arith in e) ∙ ap (chunks (length s / 120 - (k + p))) (drop-drop (p * 120) (k * 120) s ∙ ap (λ (m : ℕ). drop m s) (let e : k * 120 + p * 120 ≡ (k + p) * 120 = omega arith in e)))
  where
    none : (m : ℕ) (l : List ℕ) → ◌≡◌ {A = List (List ℕ)} [] (chunks (0 - m) l)
    none m l = ap (λ (n : ℕ). chunks n l) (let e : 0 ≡ 0 - m = omega arith in e)

    go : (n m : ℕ) (l : List ℕ) → drop m (chunks n l) ≡ chunks (n - m) (drop (m * 120) l)
    go n zero l = ap (λ (i : ℕ). chunks i l) (let e : n ≡ n - 0 = omega arith in e)
    go zero (suc m) l = none (suc m) (drop (suc m * 120) l)
    go (suc n) (suc m) l = go n m (drop 120 l) ∙ (ap (λ (i : ℕ). chunks i (drop (m * 120) (drop 120 l))) (let e : n - m ≡ suc n - suc m = omega arith in e) ∙ ap (chunks (suc n - suc m)) (drop-drop (m * 120) 120 l ∙ ap (λ (i : ℕ). drop i l) (let e : 120 + m * 120 ≡ suc m * 120 = omega arith in e)))
