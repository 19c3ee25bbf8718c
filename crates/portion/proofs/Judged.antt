-- From the start, a call whose portion reaches the last record that is needed gives the judgement, and no smaller one does.
use Rattle.std.specs.Prelude.{Err}
use Prim.Native.Nat.{ℕ, zero, suc, ◌+◌, ◌-◌, ◌*◌, ◌/◌, ◌<◌, ◌≤◌}
use mathlib.Core.Path.{◌≡◌, refl, sym, ap, ap₂, ◌∙◌}
use mathlib.Core.Bool.{Bool, true, false, cond}
use mathlib.Core.List.{List, []}
use mathlib.Core.Logic.{◌⊎◌, inl, inr, ⊎_elim}
use native.Mathlib.Omega.{arith}
use native.Mathlib.Decide.{dec_lt, ℕ_discrete}
use borrow.Author.Tests.{lt-ltb, le-ltb, ne_eqb}
use lib.Dec.{eqb}
use lib.ListN.{length, take, drop, drop_of_length-le}
use lib.Seq.{take_all}
use Rattle.refusal.specs.Outcomes.{Outcome, Pass, Fails}
use Rattle.order.specs.Stages.{after_tail}
use Rattle.rules.specs.declared.State.{State}
use Rattle.rules.specs.State.{start_state}
use Rattle.state.specs.Numbers.{sums_numbers, state_numbers, sums_at, state_of}
use Rattle.judge.specs.declared.Judgement.{Judgement}
use Rattle.judge.specs.Flow.{refused_with, accepted_with, closing, after, rest_of, head_name_of, judged}
use Rattle.judge.specs.Plain.{Whole}
use Rattle.judge.specs.Run.{Run, ran, answer_of}
use Rattle.judge.proofs.Records.{length-chunks}
use Rattle.judge.proofs.Turn.{judged-ran, judged-from-start, judged-long, judged-empty, judged-ragged}
use Rattle.judge.proofs.FirstFault.{Sized, sized}
use Rattle.judge.proofs.FirstFault.Sized.{long, none, ragged, whole}
use Rattle.portion.specs.declared.Course.TheVariants.{Going}
use Rattle.portion.specs.declared.Portion.{Portion}
use Rattle.portion.specs.Portion.{start_progress, ended_by, examined_by, summary_by, told, at_most, counts_right, sums_right, possible, held_name, course_after, examining, refused_now, gone_on, portioned}
use Rattle.portion.specs.Inner.{last_of, Goes}
use Rattle.portion.specs.Series.{called, total, needed, Given, NotYet}
use Rattle.portion.proofs.Sound.{sound-goes}
use Rattle.portion.proofs.Reach.{Stands, last_within, ran-stands}
use Rattle.portion.proofs.Split.{resumed, run_on}
use Rattle.portion.proofs.Stays.{ran-numbered}
use Rattle.portion.proofs.Again.{stood, now-back}
use Rattle.portion.proofs.Portions.{went, went-none, further}
use Rattle.portion.proofs.Series.{series-is-one}
use Rattle.portion.proofs.Examined.{closing-examined, never-more}
use Rattle.portion.proofs.Ways as way

-- the start passes the bounds, and is the state before the first record
start-possible : possible start_progress ≡ true
unfolding possible counts_right sums_right at_most start_progress state_of state_numbers sums_numbers sums_at start_state
start-possible = refl

start-state : state_of start_progress.kept ≡ start_state
unfolding start_progress state_of state_numbers sums_numbers sums_at start_state
start-state = refl

start-going : start_progress.course ≡ Going
unfolding start_progress
start-going = refl

start-name : (s : List ℕ) → held_name s start_progress ≡ head_name_of s
unfolding held_name start_progress state_of state_numbers start_state
start-name s = refl

start_seen : start_state.seen ≡ 0
unfolding start_state
start_seen = refl

-- the summary that an ended state gives is that of the closing
closing-summary : (st : State) → summary_by (ended_by (closing st).verdict) st ≡ (closing st).summary
unfolding closing
closing-summary st = go (eqb st.stage.phase after_tail)
  where
    go : (t : Bool) → summary_by (ended_by (cond t (accepted_with st) (refused_with 5 (st.seen + 1) 0)).verdict) st ≡ (cond t (accepted_with st) (refused_with 5 (st.seen + 1) 0)).summary
    go true = refl
    go false = refl

-- refused by its length, with any portion
lengthy : (s : List ℕ) (n : ℕ) → (n ≡ 5 → ⊥) → judged s ≡ refused_with n 0 0 → Given s (told (refused_now n start_progress)) × (needed s ≡ 0)
unfolding needed
lengthy s n d e = rw (e, ne_eqb n 5 d) ((refl, refl, refl), refl)

module _ (s : List ℕ) (w : Whole s) where
  abbrev count : ℕ
  count = length s / 120

  records : 0 < count
  records = let h = w.some in let e = w.even in omega arith

  goes : Goes s start_progress
  goes = sound-goes s start_progress start-possible w.short (λ e. let h = w.some in omega arith) w.even (let e = ap (λ (t : State). t.seen) start-state in let z = start_seen in let r = records in omega arith)

  -- the run over all records, which gives the judgement
  abbrev all : Run
  all = ran (head_name_of s) start_state (rest_of s start_state.seen)

  judged-all : judged s ≡ answer_of all
  judged-all = judged-from-start s w.short (λ e. let h = w.some in omega arith) w.even ∙ judged-ran (head_name_of s) start_state (rest_of s start_state.seen)

  lasts : length (rest_of s start_state.seen) ≡ count
  lasts = length-chunks (count - start_state.seen) (drop (start_state.seen * 120) s) ∙ (let z = start_seen in omega arith)

  -- what it needs
  need-fault : {e k : ℕ} → all.fault ≡ Fails e k → needed s ≡ all.state.seen + 1
  unfolding needed
  need-fault {e} {k} f =
      let n = ran-numbered (head_name_of s) start_state (rest_of s start_state.seen) f in
      ap (λ (j : Judgement). examined_by (ended_by j.verdict) count) (judged-all ∙ ap (λ (o : Outcome). after o all.state.seen (closing all.state)) f) ∙ rw (ne_eqb e 5 n.not_five)

  need-all : all.fault ≡ Pass → needed s ≡ count
  unfolding needed
  need-all f = ap (λ (j : Judgement). examined_by (ended_by j.verdict) count) (judged-all ∙ ap (λ (o : Outcome). after o all.state.seen (closing all.state)) f) ∙ closing-examined all.state count

  module _ (p : ℕ) where
    abbrev now : Run
    now = examining s p start_progress

    now-is : now ≡ ran (head_name_of s) start_state (take p (rest_of s start_state.seen))
    now-is = ap₂ (λ (nm : List ℕ) (t : State). ran nm t (take p (rest_of s t.seen))) (start-name s) start-state

    abbrev rest : Run
    rest = ran (head_name_of s) now.state (take count (drop p (rest_of s start_state.seen)))

    all-is : all ≡ resumed now.fault now rest
    all-is =
        let l = lasts in
        ap (ran (head_name_of s) start_state) (sym (take_all (p + count) (rest_of s start_state.seen) (omega arith)))
        ∙ (run_on (head_name_of s) p count start_state (rest_of s start_state.seen)
        ∙ ap (λ (z : Run). resumed z.fault z (ran (head_name_of s) z.state (take count (drop p (rest_of s start_state.seen))))) (sym now-is))

    answers : (p ≡ 0 → ⊥) → portioned s p start_progress ≡ told (record { course = course_after count now.fault now.state; kept = state_numbers now.state; name = held_name s start_progress })
    answers n = way.by-course s p start_progress Going start-possible start-going ∙ (way.more_left s p start_progress w.short (λ e. let h = w.some in omega arith) w.even goes.more ∙ ap told (went s p start_progress n))

    back : state_of (state_numbers now.state) ≡ now.state
    back = now-back s p start_progress start-possible goes

    zero_seen : (state_of start_progress.kept).seen ≡ 0
    zero_seen = ap (λ (t : State). t.seen) start-state ∙ start_seen

    -- stopped at a record: it is the one that is needed
    at-fault : (p ≡ 0 → ⊥) → {e k : ℕ} → now.fault ≡ Fails e k → Given s (portioned s p start_progress) × (needed s ≤ p)
    at-fault n {e} {k} f =
        let a : all ≡ now = all-is ∙ ap (λ (o : Outcome). resumed o now rest) f in
        let fa : all.fault ≡ Fails e k = ap (λ (z : Run). z.fault) a ∙ f in
        let sa : all.state.seen ≡ now.state.seen = ap (λ (z : Run). z.state.seen) a in
        let d = need-fault fa in
        let m = ran-numbered (head_name_of s) start_state (rest_of s start_state.seen) fa in
        let j : judged s ≡ refused_with e (now.state.seen + 1) k = judged-all ∙ ap₂ (λ (o : Outcome) (t : State). after o t.seen (closing t)) fa (ap (λ (z : Run). z.state) a) in
        let t : Stands (Fails e k) (state_of start_progress.kept).seen (last_of (state_of start_progress.kept).seen p count - (state_of start_progress.kept).seen) now.state.seen = rw f at (stood s p start_progress start-possible goes) in
        let l = last_within (state_of start_progress.kept).seen p count (let g = goes.more in omega arith) in
        let z = zero_seen in
        (rw (answers n, f, j, ne_eqb e 5 m.not_five) (refl, sym (d ∙ ap (λ (i : ℕ). i + 1) sa), refl), omega arith)

    -- at the end
    at-end : (p ≡ 0 → ⊥) → now.fault ≡ Pass → count ≤ now.state.seen → Given s (portioned s p start_progress) × (needed s ≤ p)
    unfolding ran
    at-end n f h =
        let t : Stands Pass (state_of start_progress.kept).seen (last_of (state_of start_progress.kept).seen p count - (state_of start_progress.kept).seen) now.state.seen = rw f at (stood s p start_progress start-possible goes) in
        let l = last_within (state_of start_progress.kept).seen p count (let g = goes.more in omega arith) in
        let z = zero_seen in
        let u = lasts in
        let q : length (rest_of s start_state.seen) ≤ p = omega arith in
        let o : drop p (rest_of s start_state.seen) ≡ [] = drop_of_length-le (rest_of s start_state.seen) q in
        let a : all ≡ now = all-is ∙ (ap (λ (v : Outcome). resumed v now rest) f ∙ (ap (λ (rs : List (List ℕ)). ran (head_name_of s) now.state (take count rs)) o ∙ nothing count f)) in
        let fa : all.fault ≡ Pass = ap (λ (v : Run). v.fault) a ∙ f in
        let j : judged s ≡ closing now.state = judged-all ∙ ap₂ (λ (v : Outcome) (r : State). after v r.seen (closing r)) fa (ap (λ (v : Run). v.state) a) in
        let d = need-all fa in
        let e : now.state.seen ≡ count = omega arith in
        (rw (answers n, f, le-ltb now.state.seen count h, back, j) (refl, closing-examined now.state now.state.seen ∙ (e ∙ sym d), closing-summary now.state), omega arith)
      where
        nothing : (i : ℕ) → now.fault ≡ Pass → ran (head_name_of s) now.state (take {A = List ℕ} i []) ≡ now
        nothing zero f = ap (λ (o : Outcome). record { fault = o; state = now.state }) (sym f)
        nothing (suc i) f = ap (λ (o : Outcome). record { fault = o; state = now.state }) (sym f)

    -- on the way
    on-the-way : (p ≡ 0 → ⊥) → now.fault ≡ Pass → now.state.seen < count → NotYet p (portioned s p start_progress) × (p < needed s)
    on-the-way n f h =
        let z = zero_seen in
        let u = further s p 0 start_progress start-possible goes n f h in
        let a : all ≡ rest = all-is ∙ ap (λ (v : Outcome). resumed v now rest) f in
        (rw (answers n, f, lt-ltb now.state.seen count h, back) (refl, omega arith, refl), needs all.fault refl (ap (λ (v : Run). v.state.seen) a) (ap (λ (v : Run). v.fault) a) (ran-stands (head_name_of s) now.state (take count (drop p (rest_of s start_state.seen)))))
      where
        needs : (o : Outcome) → all.fault ≡ o → all.state.seen ≡ rest.state.seen → all.fault ≡ rest.fault → Stands rest.fault now.state.seen (length (take count (drop p (rest_of s start_state.seen)))) rest.state.seen → p < needed s
        needs Pass g b c t = let d = need-all g in let z = zero_seen in let u = further s p 0 start_progress start-possible goes n f h in omega arith
        needs (Err why) g b c t =
            let d = need-fault g in
            let v : Stands (Err why) now.state.seen (length (take count (drop p (rest_of s start_state.seen)))) rest.state.seen = rw (sym c ∙ g) at t in
            let z = zero_seen in
            let u = further s p 0 start_progress start-possible goes n f h in
            omega arith

    -- so it is one or the other, by what is needed
    decided : (p ≡ 0 → ⊥) → (Given s (portioned s p start_progress) × (needed s ≤ p)) ⊎ (NotYet p (portioned s p start_progress) × (p < needed s))
    decided n = go now.fault refl (dec_lt now.state.seen count)
      where
        go : (o : Outcome) → now.fault ≡ o → Dec (now.state.seen < count) → (Given s (portioned s p start_progress) × (needed s ≤ p)) ⊎ (NotYet p (portioned s p start_progress) × (p < needed s))
        go (Err why) f d = inl (at-fault n f)
        go Pass f (yes h) = inr (on-the-way n f h)
        go Pass f (no d) = inl (at-end n f (omega arith))

  needs-some : 0 < needed s
  needs-some = go all.fault refl
    where
      go : (o : Outcome) → all.fault ≡ o → 0 < needed s
      go Pass f = let d = need-all f in let r = records in omega arith
      go (Err why) f = let d = need-fault f in omega arith

-- by the length of the flow: refused at once, or judged
pub enough : (s : List ℕ) (p : ℕ) → needed s ≤ p → Given s (portioned s p start_progress)
enough s p h = go (sized s)
  where
    at_once : (n : ℕ) → (n ≡ 5 → ⊥) → judged s ≡ refused_with n 0 0 → portioned s p start_progress ≡ told (refused_now n start_progress) → Given s (portioned s p start_progress)
    at_once n d e f = rw f (lengthy s n d e).0

    going : (a : Portion) → gone_on s p start_progress ≡ a → portioned s p start_progress ≡ a
    going a e = way.by-course s p start_progress Going start-possible start-going ∙ e

    go : Sized s → Given s (portioned s p start_progress)
    go (long l) = at_once 1 (λ e. omega arith) (judged-long s l) (going _ (way.too_long s p start_progress l))
    go (none l) = at_once 2 (λ e. omega arith) (judged-empty s (omega arith) l) (going _ (way.empty s p start_progress (omega arith) l))
    go (ragged l n r) = at_once 2 (λ e. omega arith) (judged-ragged s l n r) (going _ (way.ragged s p start_progress l n r))
    go (whole w) = by (ℕ_discrete p 0)
      where
        by : Dec (p ≡ 0) → Given s (portioned s p start_progress)
        by (yes e) = let z = needs-some s w in absurd (omega arith)
        by (no n) = ⊎_elim (λ d. d.0) (λ d. let l = d.1 in absurd (omega arith)) (decided s w p n)

pub too_few : (s : List ℕ) (p : ℕ) → p < needed s → NotYet p (portioned s p start_progress)
too_few s p h = go (sized s)
  where
    none_needed : (n : ℕ) → (n ≡ 5 → ⊥) → judged s ≡ refused_with n 0 0 → NotYet p (portioned s p start_progress)
    none_needed n d e = let z = (lengthy s n d e).1 in absurd (omega arith)

    go : Sized s → NotYet p (portioned s p start_progress)
    go (long l) = none_needed 1 (λ e. omega arith) (judged-long s l)
    go (none l) = none_needed 2 (λ e. omega arith) (judged-empty s (omega arith) l)
    go (ragged l n r) = none_needed 2 (λ e. omega arith) (judged-ragged s l n r)
    go (whole w) = by (ℕ_discrete p 0)
      where
        by : Dec (p ≡ 0) → NotYet p (portioned s p start_progress)
        by (yes e) =
            let f = way.by-course s p start_progress Going start-possible start-going ∙ (way.more_left s p start_progress w.short (λ i. let l = w.some in omega arith) w.even (goes s w).more ∙ ap told (went-none s p start_progress e)) in
            rw (f, start-going) (refl, zero_seen s w p ∙ sym e, refl)
        by (no n) = ⊎_elim (λ d. let l = d.1 in absurd (omega arith)) (λ d. d.0) (decided s w p n)

-- "Any portions above zero end in 01's answer, given by the call that examines the last record needed": so soon as the portions together reach it, and not before
pub series-ends : (s : List ℕ) (p : ℕ) (ps : List ℕ) → needed s ≤ p + total ps → Given s (called s start_progress p ps)
series-ends s p ps h = rw (series-is-one s start_progress p ps) (enough s (p + total ps) h)

pub series-goes-on : (s : List ℕ) (p : ℕ) (ps : List ℕ) → p + total ps < needed s → NotYet (p + total ps) (called s start_progress p ps)
series-goes-on s p ps h = rw (series-is-one s start_progress p ps) (too_few s (p + total ps) h)

-- no judgement needs more than 546 records
pub needed-most : (s : List ℕ) → needed s ≤ 546
needed-most s = let e = (enough s (needed s) (omega arith)).1 in let h = never-more s (needed s) start_progress in omega arith

-- so `judge` is one portion of 546 from the start
pub judge-is-a-portion : (s : List ℕ) → Given s (portioned s 546 start_progress)
judge-is-a-portion s = enough s 546 (needed-most s)
