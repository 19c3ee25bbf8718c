-- A turn of the judge: the state that it has come to, and what each of its ways out says of the whole flow.
use Rattle.std.specs.Prelude.{Err}
use Prim.Native.Nat.{ℕ, ◌+◌, ◌-◌, ◌*◌, ◌/◌, ◌%◌, ◌<◌, ◌≤◌}
use mathlib.Core.Path.{◌≡◌, refl, sym, ap, ◌∙◌}
use mathlib.Core.List.{List, [], ◌∷◌}
use native.Mathlib.Omega.{arith}
use native.Mathlib.Nat.{sub-zero}
use borrow.Author.Tests.{lt-ltb, le-ltb, eq-eqb, ne_eqb}
use lib.ListN.{length, take, drop}
use Rattle.text.specs.Characters.{first_bad}
use Rattle.layout.specs.declared.Kind.{Kind}
use Rattle.layout.specs.Kinds.{type_in, kind_in}
use Rattle.layout.specs.Fields.{fields_of, value_of, delega_number}
use Rattle.refusal.specs.Outcomes.{Outcome, Pass, Fails}
use Rattle.rules.specs.declared.State.{State}
use Rattle.rules.specs.State.{start_state}
use Rattle.rules.specs.Bounds.{StateBelow}
use Rattle.state.specs.Numbers.{state_in}
use Rattle.order.specs.Order.{standing}
use Rattle.rules.specs.Checks.{char_fault, bad_fields, number_fault, fault}
use Rattle.rules.specs.Values.{values_in, values_on}
use Rattle.rules.specs.Step.{next_of, next}
use Rattle.rules.proofs.Reading.{pair_of, values-read, step-read}
use Rattle.rules.proofs.Growth.{start-below, state-on}
use Rattle.records.proofs.Sizes.{pair_small}
use Rattle.judge.specs.Flow.{refused_with, after, judged_from, chunks, rest_of, head_name_of, judged, Ready}
use Rattle.judge.specs.Run.{Run, stands_at, stopped, ran, answer_of}
use Rattle.judge.proofs.Records.{chunks-on}

-- the first failed check of a record, by how far the checks have come
module _ (name : List ℕ) (st : State) (r : List ℕ) where
  pub fault-chars : {e p : ℕ} → char_fault (first_bad r) ≡ Fails e p → fault name st r ≡ Fails e p
  unfolding fault
  fault-chars a = rw a

  module _ (k : Kind) (ek : k ≡ kind_in r) (a : char_fault (first_bad r) ≡ Pass) where
    pub fault-standing : {e p : ℕ} → standing st.stage (type_in r) k ≡ Fails e p → fault name st r ≡ Fails e p
    unfolding fault
    fault-standing b = rw (a, ← ek, b)

    module _ (b : standing st.stage (type_in r) k ≡ Pass) where
      pub fault-fields : {e p : ℕ} → bad_fields (fields_of k) r ≡ Fails e p → fault name st r ≡ Fails e p
      unfolding fault
      fault-fields d = rw (a, ← ek, b, d)

      pub fault-number : {e p : ℕ} → bad_fields (fields_of k) r ≡ Pass → number_fault st.deleghe k (value_of r delega_number) ≡ Fails e p → fault name st r ≡ Fails e p
      unfolding fault
      fault-number d f = rw (a, ← ek, b, d, f)

      pub fault-values : {o : Outcome} → bad_fields (fields_of k) r ≡ Pass → values_on name st k (values_in (fields_of k) r) r ≡ o → fault name st r ≡ o
      unfolding fault
      fault-values d f = rw (a, ← ek, b, d, ← (values-read name st k r), f)

pub next-read : (st : State) (r : List ℕ) (k : Kind) → k ≡ kind_in r → next st r ≡ next_of st k (pair_of (values_in (fields_of k) r))
unfolding next
next-read st r k e = rw (← e, step-read st k r)

-- the judgement of records is that of the run over them
pub judged-ran : (name : List ℕ) (st : State) (rs : List (List ℕ)) → judged_from name st rs ≡ answer_of (ran name st rs)
unfolding judged_from ran
judged-ran name st [] = refl
judged-ran name st (r ∷ rs) = go (fault name st r) (judged-ran name (next st r) rs)
  where
    go : (o : Outcome) → judged_from name (next st r) rs ≡ answer_of (ran name (next st r) rs) → after o st.seen (judged_from name (next st r) rs) ≡ answer_of (stopped o st (ran name (next st r) rs))
    go Pass e = e
    go (Err why) h = refl

-- the state st is where the run x over the flow's first records has come to: what x is, the rest gives from st
pub record Going (flow name : List ℕ) (x : Run) (st : State) : Type 0 where
  pub ahead : st.seen ≤ length flow / 120
  pub rest : x ≡ ran name st (rest_of flow st.seen)
  pub below : StateBelow st

-- all records have passed
pub going_end : (flow name : List ℕ) (x : Run) (st : State) → Going flow name x st → st.seen ≡ length flow / 120 → x ≡ stands_at Pass st
unfolding ran chunks
going_end flow name x st g e = g.rest ∙ ap (λ (n : ℕ). ran name st (chunks n (drop (st.seen * 120) flow))) (let h : length flow / 120 - st.seen ≡ 0 = omega arith in h)

module _ (flow name : List ℕ) (x : Run) (st : State) (g : Going flow name x st) (more : st.seen < length flow / 120) (r : List ℕ) (er : r ≡ take 120 (drop (st.seen * 120) flow)) where
  opened : x ≡ stopped (fault name st r) st (ran name (next st r) (rest_of flow (st.seen + 1)))
  unfolding ran
  opened =
      g.rest
      ∙ (ap (ran name st) (chunks-on (length flow / 120 - st.seen) (length flow / 120 - (st.seen + 1)) st.seen flow (omega arith))
      ∙ ap (λ (q : List ℕ). stopped (fault name st q) st (ran name (next st q) (rest_of flow (st.seen + 1)))) (sym er))

  pub going-refuses : {e p : ℕ} → fault name st r ≡ Fails e p → x ≡ stands_at (Fails e p) st
  going-refuses f = rw f at opened

  pub going_on : (k : Kind) → k ≡ kind_in r → length r ≡ 120 → fault name st r ≡ Pass → Going flow name x (next_of st k (pair_of (values_in (fields_of k) r)))
  going_on k e l f =
      record {
        ahead = omega arith;
        rest = rw (f, next-read st r k e) at opened;
        below = state-on st k (pair_of (values_in (fields_of k) r)) g.below (pair_small k r l);
      }

-- the tests on the length
pub judged-long : (s : List ℕ) → 65520 < length s → judged s ≡ refused_with 1 0 0
unfolding judged
judged-long s h = rw (lt-ltb _ _ h)

pub judged-empty : (s : List ℕ) → length s ≤ 65520 → length s ≡ 0 → judged s ≡ refused_with 2 0 0
unfolding judged
judged-empty s h e = rw (le-ltb _ _ h, eq-eqb _ _ e)

pub judged-ragged : (s : List ℕ) → length s ≤ 65520 → (length s ≡ 0 → ⊥) → (length s % 120 ≡ 0 → ⊥) → judged s ≡ refused_with 2 0 0
unfolding judged
judged-ragged s h e f = rw (le-ltb _ _ h, ne_eqb _ _ e, ne_eqb _ _ f)

pub judged-from-start : (s : List ℕ) → length s ≤ 65520 → (length s ≡ 0 → ⊥) → length s % 120 ≡ 0 → judged s ≡ judged_from (head_name_of s) start_state (rest_of s start_state.seen)
unfolding judged start_state
judged-from-start s h e f = rw (le-ltb _ _ h, ne_eqb _ _ e, eq-eqb _ _ f, sub-zero)

pub ready-start : (s : List ℕ) → length s ≤ 65520 → (length s ≡ 0 → ⊥) → length s % 120 ≡ 0 → Ready s start_state
unfolding start_state
ready-start s h e f = record { some = omega arith; whole = f; short = h; ahead = omega arith; below = start-below }

-- so it is where no numbers are kept
pub judged-from-none : (s : List ℕ) → length s ≤ 65520 → (length s ≡ 0 → ⊥) → length s % 120 ≡ 0 → judged s ≡ judged_from (head_name_of s) (state_in []) (rest_of s (state_in []).seen)
unfolding state_in
judged-from-none s h e f = judged-from-start s h e f

pub ready-none : (s : List ℕ) → length s ≤ 65520 → (length s ≡ 0 → ⊥) → length s % 120 ≡ 0 → Ready s (state_in [])
unfolding state_in
ready-none s h e f = ready-start s h e f
