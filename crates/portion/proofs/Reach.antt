-- How far a portion reaches: the records that it allows, as a part of the flow, and where a run over them stands.
use Rattle.std.specs.Prelude.{Err}
use Prim.Native.Nat.{ℕ, zero, suc, ◌+◌, ◌-◌, ◌*◌, ◌/◌, ◌<◌, ◌≤◌}
use mathlib.Core.Path.{◌≡◌, refl, sym, ap, ap₂, ◌∙◌}
use mathlib.Core.List.{List, [], ◌∷◌}
use native.Mathlib.Omega.{arith}
use native.Mathlib.Decide.{dec_le}
use borrow.Author.Tests.{lt-ltb, le-ltb, le-leb, lt-leb, ne_eqb}
use lib.ListN.{length, take, drop, get_or}
use lib.Seq.{take-take, take_all, length-take-le}
use Rattle.refusal.specs.Outcomes.{Outcome, Pass}
use Rattle.rules.specs.declared.State.{State}
use Rattle.rules.specs.Checks.{fault}
use Rattle.rules.specs.Step.{next}
use Rattle.state.specs.Numbers.{state_of, state_numbers}
use Rattle.judge.specs.Refusal.{Verdict}
use Rattle.judge.specs.declared.Judgement.{Judgement}
use Rattle.judge.specs.Flow.{judged_from, chunks, rest_of}
use Rattle.judge.specs.Run.{Run, stopped, ran, answer_of}
use Rattle.judge.proofs.Records.{length-chunks}
use Rattle.judge.proofs.Turn.{judged-ran}
use Rattle.portion.specs.declared.Course.{Course}
use Rattle.portion.specs.declared.Progress.{Progress}
use Rattle.portion.specs.Portion.{held_name, course_after, allowed, examining, went_on}
use Rattle.portion.specs.Inner.{last_of, course_by}

take_none : (n : ℕ) → ◌≡◌ {A = List ℕ} (take n []) []
take_none zero = refl
take_none (suc n) = refl

-- the bytes between two places
pub drop-take : (k m : ℕ) (l : List ℕ) → drop k (take (k + m) l) ≡ take m (drop k l)
drop-take zero m l = ap (λ (n : ℕ). take n l) (let e : 0 + m ≡ m = omega arith in e)
drop-take (suc k) m [] = ap (drop (suc k)) (take_none (suc k + m)) ∙ sym (take_none m)
drop-take (suc k) m (b ∷ l) = rw (let e : suc k + m ≡ suc (k + m) = omega arith in e) (drop-take k m l)

-- the first m records are those of the first m * 120 bytes
pub chunks-take : (m : ℕ) (l : List ℕ) → chunks m (take (m * 120) l) ≡ chunks m l
unfolding chunks
chunks-take zero l = refl
chunks-take (suc m) l =
    rw (let e : suc m * 120 ≡ 120 + m * 120 = omega arith in e, take-take 120 (120 + m * 120) l (omega arith), drop-take 120 (m * 120) l, chunks-take m (drop 120 l))

-- and the first m of more records
pub take_chunks : (m n : ℕ) (l : List ℕ) → m ≤ n → take m (chunks n l) ≡ chunks m l
unfolding chunks
take_chunks zero n l h = refl
take_chunks (suc m) zero l h = absurd (omega arith)
take_chunks (suc m) (suc n) l h = ap (λ (rs : List (List ℕ)). take 120 l ∷ rs) (take_chunks m n (drop 120 l) (omega arith))

-- the last record that a portion allows
pub last_within : (k p n : ℕ) → k ≤ n → (k ≤ last_of k p n) × (last_of k p n ≤ n) × (last_of k p n ≤ k + p)
last_within k p n h = go (dec_le (n - k) p)
  where
    go : Dec (n - k ≤ p) → (k ≤ last_of k p n) × (last_of k p n ≤ n) × (last_of k p n ≤ k + p)
    go (yes e) = rw (le-leb (n - k) p e) (h, omega arith, omega arith)
    go (no d) = rw (lt-leb (n - k) p (omega arith)) (omega arith, omega arith, omega arith)

pub last_some : (k p n : ℕ) → k < n → 0 < p → k < last_of k p n
last_some k p n h g = go (dec_le (n - k) p)
  where
    go : Dec (n - k ≤ p) → k < last_of k p n
    go (yes e) = rw (le-leb (n - k) p e) h
    go (no d) = rw (lt-leb (n - k) p (omega arith)) (omega arith)

-- the records up to it are at most p of those that are left
module _ (s : List ℕ) (k p : ℕ) (h : k ≤ length s / 120) where
  abbrev last : ℕ
  last = last_of k p (length s / 120)

  pub part-sized : length (take (last * 120) s) ≡ last * 120
  part-sized = length-take-le (last * 120) s (omega (arith, (last_within k p (length s / 120) h).1))

  pub allowed-rest : rest_of (take (last * 120) s) k ≡ take p (rest_of s k)
  allowed-rest =
      let w = last_within k p (length s / 120) h in
      let n : length (take (last * 120) s) / 120 ≡ last = omega (arith, part-sized) in
      let q : last * 120 ≡ k * 120 + (last - k) * 120 = omega arith in
      ap (λ (m : ℕ). chunks (m - k) (drop (k * 120) (take (last * 120) s))) n
      ∙ (ap (λ (m : ℕ). chunks (last - k) (drop (k * 120) (take m s))) q
      ∙ (ap (chunks (last - k)) (drop-take (k * 120) ((last - k) * 120) s)
      ∙ (chunks-take (last - k) (drop (k * 120) s)
      ∙ sym (go (dec_le (length s / 120 - k) p)))))
    where
      go : Dec (length s / 120 - k ≤ p) → take p (rest_of s k) ≡ chunks (last - k) (drop (k * 120) s)
      go (yes e) = rw (le-leb (length s / 120 - k) p e) (take_all p (rest_of s k) (omega (arith, length-chunks (length s / 120 - k) (drop (k * 120) s))))
      go (no d) = rw (lt-leb (length s / 120 - k) p (omega arith)) (take_chunks p (length s / 120 - k) (drop (k * 120) s) (omega arith) ∙ ap (λ (m : ℕ). chunks m (drop (k * 120) s)) (let e : p ≡ k + p - k = omega arith in e))

  pub allowed-length : length (take p (rest_of s k)) ≡ last - k
  allowed-length = let n : length (take (last * 120) s) / 120 ≡ last = omega (arith, part-sized) in sym (ap length allowed-rest) ∙ (length-chunks (length (take (last * 120) s) / 120 - k) (drop (k * 120) (take (last * 120) s)) ∙ ap (λ (m : ℕ). m - k) n)

-- where a run stands: behind all records that have passed, or before the one that has not
abbrev pub Stands : Outcome → ℕ → ℕ → ℕ → Type 0
Stands Pass k n m = m ≡ k + n
Stands (Err why) k n m = (k ≤ m) × (m < k + n)

pub ran-stands : (name : List ℕ) (st : State) (rs : List (List ℕ)) → Stands (ran name st rs).fault st.seen (length rs) (ran name st rs).state.seen
unfolding ran next
ran-stands name st [] = omega arith
ran-stands name st (r ∷ rs) = go (fault name st r) (ran name (next st r) rs) (ran-stands name (next st r) rs)
  where
    on : (o : Outcome) (m : ℕ) → Stands o (next st r).seen (length rs) m → Stands o st.seen (suc (length rs)) m
    on Pass m h = omega arith
    on (Err why) m h = (omega arith, omega arith)

    go : (o : Outcome) (x : Run) → Stands x.fault (next st r).seen (length rs) x.state.seen → Stands (stopped o st x).fault st.seen (suc (length rs)) (stopped o st x).state.seen
    go Pass x h = on x.fault x.state.seen h
    go (Err why) x h = (omega arith, omega arith)

-- how the judgement stands then, by the judgement of the records up to the last that is allowed
pub course-is : (o : Outcome) (st : State) (k l n : ℕ) → k ≤ l → Stands o k (l - k) st.seen → course_by (answer_of (record { fault = o; state = st })).verdict st.seen l n ≡ course_after n o st
course-is Pass st k l n g h = let e : st.seen ≡ l = omega arith in rw (le-ltb st.seen l (omega arith), e)
course-is (Err why) st k l n g h = rw (lt-ltb st.seen l (omega arith))

-- so what the judgement of those records tells is what is handed back
module _ (s : List ℕ) (p : ℕ) (x : Progress) (h : (state_of x.kept).seen ≤ length s / 120) (n : p ≡ 0 → ⊥) where
  abbrev reach : ℕ
  reach = last_of (state_of x.kept).seen p (length s / 120)

  abbrev part : List (List ℕ)
  part = rest_of (take (reach * 120) s) (state_of x.kept).seen

  run_is : ran (held_name s x) (state_of x.kept) part ≡ examining s p x
  run_is = ap (ran (held_name s x) (state_of x.kept)) (allowed-rest s (state_of x.kept).seen p h)

  stands : Stands (examining s p x).fault (state_of x.kept).seen (reach - (state_of x.kept).seen) (examining s p x).state.seen
  stands = rw (allowed-length s (state_of x.kept).seen p h) at (ran-stands (held_name s x) (state_of x.kept) (allowed s p x))

  pub went-by : (v : Verdict) (kept : List ℕ) (c : Course) →
      v ≡ (judged_from (held_name s x) (state_of x.kept) part).verdict → kept ≡ state_numbers (ran (held_name s x) (state_of x.kept) part).state → c ≡ course_by v (get_or kept 0 0) reach (length s / 120) →
      record { course = c; kept = kept; name = held_name s x } ≡ went_on s p x
  unfolding went_on state_numbers
  went-by v kept c a b d =
      let e : v ≡ (answer_of (examining s p x)).verdict = a ∙ ap (λ (j : Judgement). j.verdict) (judged-ran (held_name s x) (state_of x.kept) part ∙ ap answer_of run_is) in
      let k : kept ≡ state_numbers (examining s p x).state = b ∙ ap (λ (y : Run). state_numbers y.state) run_is in
      let q : c ≡ course_after (length s / 120) (examining s p x).fault (examining s p x).state =
      d ∙ (ap₂ (λ (w : Verdict) (l : List ℕ). course_by w (get_or l 0 0) reach (length s / 120)) e k ∙ course-is (examining s p x).fault (examining s p x).state (state_of x.kept).seen reach (length s / 120) (last_within (state_of x.kept).seen p (length s / 120) h).0 stands) in
      rw (ne_eqb p 0 n) (ap₂ (λ (w : Course) (l : List ℕ). record { course = w; kept = l; name = held_name s x }) q k)

  -- the same, with what has been worked out on the way
  pub went-told : (name : List ℕ) (st : State) (l : ℕ) (v : Verdict) (kept : List ℕ) (c : Course) →
      name ≡ held_name s x → st ≡ state_of x.kept → l ≡ reach →
      v ≡ (judged_from name st (rest_of (take (l * 120) s) st.seen)).verdict → kept ≡ state_numbers (ran name st (rest_of (take (l * 120) s) st.seen)).state → c ≡ course_by v (get_or kept 0 0) l (length s / 120) →
      record { course = c; kept = kept; name = name } ≡ went_on s p x
  went-told name st l v kept c en es el a b d =
      rw en (went-by v kept c (a ∙ rw (en, es, el)) (b ∙ rw (en, es, el)) (d ∙ rw el))
