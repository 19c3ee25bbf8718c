-- The deleghe and the records that are left: so many as there were, less those that are dropped.
use Prim.Native.Nat.{ℕ, ◌+◌, ◌/◌}
use mathlib.Core.Path.{◌≡◌, refl, sym, ap, ◌∙◌}
use mathlib.Core.Bool.{Bool, true, false, cond}
use mathlib.Core.List.{List, [], ◌∷◌}
use native.Mathlib.Omega.{arith}
use lib.ListN.{length}
use Rattle.text.specs.Among.{among}
use Rattle.layout.specs.declared.Kind.{Kind}
use Rattle.layout.specs.Kinds.{type_in, kind_in, numbered}
use Rattle.layout.specs.Fields.{delega_number, value_of}
use Rattle.refusal.specs.Outcomes.{Pass}
use Rattle.rules.specs.declared.State.{State}
use Rattle.rules.specs.State.{start_state}
use Rattle.rules.specs.Checks.{fault}
use Rattle.rules.specs.Step.{next_deleghe, next}
use Rattle.judge.specs.declared.Judgement.{Judgement}
use Rattle.judge.specs.Flow.{records_of, head_name_of, judged}
use Rattle.judge.specs.Plain.{sum_over, opens, tens_in, state_after, NoFault}
use Rattle.judge.proofs.Records.{length-chunks}
use Rattle.judge.proofs.Accepted.{accepted-means-no-fault, sound-judged}
use Rattle.judge.proofs.Counts.{deleghe-after, accepted-deleghe, accepted-records}
use Rattle.close.specs.Closing.{stays, kept_of, left_of}
use Rattle.close.proofs.Counted.{left-kept, left-taken, none_left, left-counted}
use Rattle.dropping.specs.Dropping.{shortened}
use Rattle.dropping.specs.Inner.{Droppable}
use Rattle.dropping.specs.Effect.{sum_for, record_count_of}
use Rattle.dropping.proofs.Following.{Sort, head, opening, inside, tail, none, sort}
use Rattle.dropping.proofs.OneRecord.{next-deleghe, carries-number}
use Rattle.dropping.proofs.Stayed.{stayed-type}
use Rattle.dropping.proofs.Parts.{over-same, stays-or-goes, goes-by-delega, stayed-sum}
use Rattle.dropping.proofs.Shortened.{shortened-accepted, shortened-stayed}

-- What a record counts among those that stay.
tens-kept : (numbers r : List ℕ) (rs : List (List ℕ)) → tens_in (kept_of numbers (r ∷ rs)) ≡ cond (stays numbers r) (opens (type_in r)) 0 + tens_in (kept_of numbers rs)
unfolding sum_over kept_of
tens-kept numbers r rs = go (stays numbers r)
  where
    go : (b : Bool) → tens_in (cond b (r ∷ kept_of numbers rs) (kept_of numbers rs)) ≡ cond b (opens (type_in r)) 0 + tens_in (kept_of numbers rs)
    go true = refl
    go false = omega arith

-- What counts nothing counts nothing, whether it stays or goes.
none-counts : (b : Bool) (n : ℕ) → n ≡ 0 → cond b n 0 ≡ 0
none-counts true n e = e
none-counts false n e = refl

-- A sum of ones is the number of records.
each_counts : (rs : List (List ℕ)) → sum_over (λ r. 1) rs ≡ length rs
unfolding sum_over
each_counts [] = refl
each_counts (r ∷ rs) = omega (arith, each_counts rs)

-- Only a record that carries a number goes.
only-numbered : (numbers r : List ℕ) → ◌≡◌ {A = ℕ} (cond (stays numbers r) 0 1) (cond (stays numbers r) 0 (cond (numbered (kind_in r)) 1 0))
unfolding stays
only-numbered numbers r = go (numbered (kind_in r)) (among (value_of r delega_number) numbers)
  where
    go : (a b : Bool) → ◌≡◌ {A = ℕ} (cond (cond a (cond b false true) true) 0 1) (cond (cond a (cond b false true) true) 0 (cond a 1 0))
    go true true = refl
    go true false = refl
    go false b = refl

-- Of records without a fault, after a state: the deleghe that are left.
module _ (numbers name : List ℕ) where
  -- One record, and those behind it.
  step_left : (st : State) (r : List ℕ) (rs : List (List ℕ)) → fault name st r ≡ Pass → left_of numbers (next st r).deleghe + tens_in (kept_of numbers rs) ≡ left_of numbers (state_after (next st r) rs).deleghe →
      left_of numbers st.deleghe + tens_in (kept_of numbers (r ∷ rs)) ≡ left_of numbers (state_after (next st r) rs).deleghe
  unfolding state_after sum_over stays numbered
  step_left st r rs p ih = go (sort (kind_in r)) refl
    where
      grown : (next st r).deleghe ≡ st.deleghe + (opens (type_in r) + 0)
      grown = deleghe-after st (r ∷ [])

      -- A record that begins no delega counts nothing, whether it stays or goes.
      still : (next st r).deleghe ≡ st.deleghe → left_of numbers st.deleghe + tens_in (kept_of numbers (r ∷ rs)) ≡ left_of numbers (state_after (next st r) rs).deleghe
      still e =
          let z = none-counts (stays numbers r) (opens (type_in r)) (omega (arith, grown)) in
          let w = ap (left_of numbers) e in
          omega (arith, tens-kept numbers r rs, ih)

      begun : (b : Bool) → among (st.deleghe + 1) numbers ≡ b → stays numbers r ≡ cond b false true → (next st r).deleghe ≡ st.deleghe + 1 → left_of numbers st.deleghe + tens_in (kept_of numbers (r ∷ rs)) ≡ left_of numbers (state_after (next st r) rs).deleghe
      begun true a s e = let w = ap (left_of numbers) e in let v = ap (λ (t : Bool). cond t (opens (type_in r)) 0) s in omega (arith, tens-kept numbers r rs, ih, left-taken numbers st.deleghe a)
      begun false a s e = let w = ap (left_of numbers) e in let v = ap (λ (t : Bool). cond t (opens (type_in r)) 0) s in omega (arith, tens-kept numbers r rs, ih, left-kept numbers st.deleghe a, grown)

      go : {k : Kind} → Sort k → kind_in r ≡ k → left_of numbers st.deleghe + tens_in (kept_of numbers (r ∷ rs)) ≡ left_of numbers (state_after (next st r) rs).deleghe
      go head e = still (next-deleghe st r ∙ rw e)
      go opening e =
          let n : numbered (kind_in r) ≡ true = rw e in
          let d : (next st r).deleghe ≡ st.deleghe + 1 = next-deleghe st r ∙ rw e in
          let v : value_of r delega_number ≡ st.deleghe + 1 = carries-number name st r p n ∙ (sym (next-deleghe st r) ∙ d) in
          begun (among (st.deleghe + 1) numbers) refl (rw (n, v)) d
      go (inside m d w) e = still (next-deleghe st r ∙ (ap (next_deleghe st.deleghe) e ∙ d st.deleghe))
      go tail e = still (next-deleghe st r ∙ rw e)
      go none e = still (next-deleghe st r ∙ rw e)

  -- All records.
  tens-left : (st : State) (rs : List (List ℕ)) → NoFault name st rs → left_of numbers st.deleghe + tens_in (kept_of numbers rs) ≡ left_of numbers (state_after st rs).deleghe
  unfolding state_after sum_over kept_of
  tens-left st [] h = omega arith
  tens-left st (r ∷ rs) h = step_left st r rs h.0 (tens-left (next st r) rs h.1)

-- A flow from which deleghe may be dropped.
module _ (f numbers : List ℕ) (m : Droppable f numbers) where
  abbrev n : ℕ
  n = (judged f).summary.deleghe

  -- Its deleghe that are not named are left.
  pub deleghe-left : (judged (shortened f numbers)).summary.deleghe ≡ left_of numbers (judged f).summary.deleghe
  unfolding start_state
  deleghe-left =
      let h = accepted-means-no-fault f m.accepted in
      let t = tens-left numbers (head_name_of f) start_state (records_of f) h.passes in
      let s = ap (λ (j : Judgement). left_of numbers j.summary.deleghe) (sound-judged f h) in
      let k = stayed-sum numbers (λ r. opens (type_in r)) (λ r q w. ap opens (stayed-type w)) (kept_of numbers (records_of f)) (records_of (shortened f numbers)) (shortened-stayed f numbers m) in
      omega (arith, accepted-deleghe (shortened f numbers) (shortened-accepted f numbers m), none_left numbers)

  -- There are as many less as are named.
  pub deleghe-before : (judged f).summary.deleghe ≡ (judged (shortened f numbers)).summary.deleghe + length numbers
  deleghe-before = omega (arith, deleghe-left, left-counted n numbers m.once)

  -- Its records are those that are left and those of the deleghe that are dropped.
  pub records-before : (judged f).summary.records ≡ (judged (shortened f numbers)).summary.records + sum_for (λ d. record_count_of d (records_of f)) numbers
  records-before =
      let h : List ℕ → ℕ = λ r. 1 in
      let own : List ℕ → ℕ = λ r. cond (numbered (kind_in r)) 1 0 in
      let a = stays-or-goes numbers h (records_of f) in
      let b = stayed-sum numbers h (λ r q w. refl) (kept_of numbers (records_of f)) (records_of (shortened f numbers)) (shortened-stayed f numbers m) in
      let c = over-same (records_of f) (λ r. cond (stays numbers r) 0 1) (λ r. cond (stays numbers r) 0 (own r)) (λ r. only-numbered numbers r) in
      let d = goes-by-delega n numbers m.once own (λ r e. ap (λ (t : Bool). cond t 1 0) e) (records_of f) in
      omega (arith, accepted-records f m.accepted, accepted-records (shortened f numbers) (shortened-accepted f numbers m), each_counts (records_of f), each_counts (records_of (shortened f numbers)), length-chunks (length f / 120) f, length-chunks (length (shortened f numbers) / 120) (shortened f numbers))
