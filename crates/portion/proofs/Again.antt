-- What a call hands back passes the bounds again, so that the next call goes on from it or gives its answer again.
use Rattle.std.specs.Prelude.{Err}
use Prim.Native.Nat.{ℕ, ◌+◌, ◌-◌, ◌*◌, ◌/◌, ◌<◌, ◌≤◌}
use mathlib.Core.Path.{◌≡◌, refl, ap, ◌∙◌}
use mathlib.Core.Bool.{Bool, true, false, cond}
use mathlib.Core.List.{List, [], ◌++◌}
use native.Mathlib.Omega.{arith}
use native.Mathlib.Decide.{dec_le}
use borrow.Author.Tests.{le-ltb, le-leb, lt-leb, eq-eqb, ne_eqb}
use lib.Dec.{eqb, ltb, leb}
use lib.ListN.{length, take}
use Rattle.text.proofs.Tests.{either_way}
use Rattle.refusal.specs.Outcomes.{Outcome, Pass, Fails}
use Rattle.amounts.specs.declared.Sums.{Sums}
use Rattle.order.specs.Stages.{after_tail}
use Rattle.rules.specs.declared.State.{State}
use Rattle.rules.specs.Bounds.{SumsBelow, StateBelow}
use Rattle.state.specs.Numbers.{sums_numbers, state_numbers, state_of}
use Rattle.state.proofs.Rooms.{five-sums, kept_back}
use Rattle.judge.specs.Flow.{refused_with, accepted_with, closing, rest_of}
use Rattle.judge.specs.Run.{Run, ran}
use Rattle.judge.proofs.ChecksInOrder.{Numbered}
use Rattle.portion.specs.declared.Course.{Course}
use Rattle.portion.specs.declared.Course.TheVariants.{Going}
use Rattle.portion.specs.declared.Progress.{Progress}
use Rattle.portion.specs.Portion.{ended_by, refusable, course_right, at_most, sums_right, possible, held_name, course_after, allowed, examining, went_on, refused_now}
use Rattle.portion.specs.Inner.{last_of, Goes}
use Rattle.portion.proofs.Counts.{counts-so}
use Rattle.portion.proofs.Sound.{Sound, possible-says}
use Rattle.portion.proofs.Reach.{Stands, last_within, allowed-rest, allowed-length, ran-stands}
use Rattle.portion.proofs.Stays.{Stays, part-whole, ran-stays, ran-numbered}

-- what passes the three tests passes them all
pub possible-so : (x : Progress) → Sound x → possible x ≡ true
unfolding possible
possible-so x y = rw (counts-so _ y.counts, y.course, y.sums)

-- ten sums that are at most b
ten-most : (b : ℕ) (l : List Sums) (rest : List ℕ) → SumsBelow b l → at_most b (sums_numbers l ++ rest) ≡ at_most b rest
unfolding at_most
ten-most b l rest g =
    rw (five-sums l g.five, le-leb _ b (g.each 0).0, le-leb _ b (g.each 0).1, le-leb _ b (g.each 1).0, le-leb _ b (g.each 1).1, le-leb _ b (g.each 2).0, le-leb _ b (g.each 2).1, le-leb _ b (g.each 3).0, le-leb _ b (g.each 3).1, le-leb _ b (g.each 4).0, le-leb _ b (g.each 4).1)

twenty : (l m : List Sums) → length l ≡ 5 → length m ≡ 5 → take 20 (sums_numbers l ++ sums_numbers m) ≡ sums_numbers l ++ (sums_numbers m ++ [])
twenty l m h k = rw (five-sums l h, five-sums m k)

-- the sums of a state within the bounds
sums-so : (st : State) → StateBelow st → sums_right (state_numbers st) ≡ true
unfolding sums_right state_numbers at_most
sums-so st g =
    let m = g.money-below in
    let b = st.seen * 999_999_999_999_999 in
    rw (le-leb (st.money.total + st.money.delega.all.debit) b m.debits, le-leb st.money.delega.all.credit b m.credits)
    (ap (at_most b) (twenty st.money.delega.sections st.money.flow m.delegas.five m.flows.five)
    ∙ (ten-most b st.money.delega.sections (sums_numbers st.money.flow ++ []) m.delegas ∙ ten-most b st.money.flow [] m.flows))

-- a refusal of a record, and refusal 5
record-refusable : (k e p : ℕ) → k < 546 → Numbered 3 e → refusable k e (k + 1) p ≡ true
unfolding refusable
record-refusable k e p h n =
    rw (ne_eqb e 0 (λ z. let l = n.least in omega arith), le-ltb e 3 n.least, eq-eqb (k + 1) (k + 1) refl, ne_eqb e 5 n.not_five, le-leb (k + 1) 546 (omega arith))
    (go (dec_le e 20))
  where
    go : Dec (e ≤ 20) → cond (leb e 20) true (eqb e 26) ≡ true
    go (yes l) = rw (le-leb e 20 l)
    go (no d) = rw (lt-leb e 20 (omega arith)) (eq-eqb e 26 (n.most (omega arith)))

five-refusable : (k : ℕ) → refusable k 5 (k + 1) 0 ≡ true
unfolding refusable
five-refusable k = rw (eq-eqb (k + 1) (k + 1) refl)

closing-right : (st : State) → course_right st.seen (ended_by (closing st).verdict) ≡ true
unfolding closing
closing-right st = go (eqb st.stage.phase after_tail)
  where
    go : (t : Bool) → course_right st.seen (ended_by (cond t (accepted_with st) (refused_with 5 (st.seen + 1) 0)).verdict) ≡ true
    go true = refl
    go false = five-refusable st.seen

-- how the judgement stands after a run is such as a judgement can stand
course-so : (n : ℕ) (o : Outcome) (st : State) → ((e p : ℕ) → o ≡ Fails e p → Numbered 3 e) → ((e p : ℕ) → o ≡ Fails e p → st.seen < 546) → course_right st.seen (course_after n o st) ≡ true
course-so n Pass st f g = either_way (λ (c : Course). course_right st.seen c ≡ true) (ltb st.seen n) Going (ended_by (closing st).verdict) refl (closing-right st)
course-so n (Err why) st f g = record-refusable st.seen why.number why.position (g why.number why.position refl) (f why.number why.position refl)

-- the run that a call makes
module _ (s : List ℕ) (p : ℕ) (x : Progress) (y : possible x ≡ true) (g : Goes s x) where
  abbrev seen : ℕ
  seen = (state_of x.kept).seen

  abbrev count : ℕ
  count = length s / 120

  abbrev now : Run
  now = examining s p x

  ahead : seen ≤ count
  ahead = let m = g.more in omega arith

  pub stays : Stays now.state
  stays =
      let c = (possible-says x y).counts in
      let r = allowed-rest s seen p ahead in
      rw (ap (λ (rs : List (List ℕ)). (ran (held_name s x) (state_of x.kept) rs).state) r) at
      (ran-stays (held_name s x) (state_of x.kept) (rest_of (take (last_of seen p count * 120) s) seen) (part-whole s seen p ahead) (record { below = g.ready.below; phase = c.phase; section = c.section }))

  pub stood : Stands now.fault seen (last_of seen p count - seen) now.state.seen
  stood = rw (allowed-length s seen p ahead) at (ran-stands (held_name s x) (state_of x.kept) (allowed s p x))

  pub reaches : (now.state.seen ≤ count) × ((e q : ℕ) → now.fault ≡ Fails e q → now.state.seen < count)
  reaches = go now.fault refl stood
    where
      go : (o : Outcome) → now.fault ≡ o → Stands o seen (last_of seen p count - seen) now.state.seen → (now.state.seen ≤ count) × ((e q : ℕ) → now.fault ≡ Fails e q → now.state.seen < count)
      go Pass e h = let w = last_within seen p count ahead in (omega arith, λ a q f. let z : ◌≡◌ {A = ℕ} 0 1 = cc in absurd (omega arith))
      go (Err why) e h = let w = last_within seen p count ahead in (omega arith, λ e q f. omega arith)

  pub now-back : state_of (state_numbers now.state) ≡ now.state
  now-back = kept_back now.state stays.below.money-below.delegas.five stays.below.money-below.flows.five

  short : count ≤ 546
  short = let h = g.ready.short in omega arith

  pub went-sound : (p ≡ 0 → ⊥) → possible (went_on s p x) ≡ true
  unfolding went_on
  went-sound n = rw (ne_eqb p 0 n) (possible-so (record { course = course_after count now.fault now.state; kept = state_numbers now.state; name = held_name s x }) sound)
    where
      b : StateBelow now.state
      b = stays.below

      sound : Sound (record { course = course_after count now.fault now.state; kept = state_numbers now.state; name = held_name s x })
      sound =
          record {
            counts = rw now-back (record { seen = let h = short in let r = reaches.0 in omega arith; others = b.others_below; deleghe = b.deleghe-below; lines = b.lines-below; phase = stays.phase; section = stays.section });
            course = rw now-back (course-so count now.fault now.state (λ e q f. ran-numbered (held_name s x) (state_of x.kept) (allowed s p x) f) (λ e q f. let h = short in let r = reaches.1 e q f in omega arith));
            sums = sums-so now.state b;
          }

-- a flow that is refused by its length leaves a state that is so ended
pub refused-sound : (n : ℕ) (x : Progress) → possible x ≡ true → refusable (state_of x.kept).seen n 0 0 ≡ true → possible (refused_now n x) ≡ true
refused-sound n x y r = let z = possible-says x y in possible-so (refused_now n x) (record { counts = z.counts; course = r; sums = z.sums })
