-- A flow is accepted exactly when it is sound: whole records, none with a fault, the last of them EF.
use Rattle.std.specs.Prelude.{Err}
use Prim.Native.Nat.{ℕ, ◌+◌, ◌%◌}
use mathlib.Core.Path.{◌≡◌, refl, sym, ap, ◌∙◌}
use mathlib.Core.Bool.{Bool, true, false, cond, false≢true}
use mathlib.Core.List.{List, [], ◌∷◌}
use mathlib.Core.Logic.{◌↔◌}
use native.Mathlib.Omega.{arith}
use borrow.Author.Tests.{ltb-false, eqb-true, eqb-false, le-ltb, eq-eqb, ne_eqb}
use lib.Dec.{eqb, ltb}
use lib.ListN.{length}
use Rattle.text.specs.Characters.{first_bad}
use Rattle.layout.specs.declared.RecordType.{RecordType}
use Rattle.layout.specs.declared.Kind.{Kind}
use Rattle.layout.specs.declared.Kind.TheVariants.{Head, Taxpayer, Domicile, Line, Balance, Payment, Receipt, Addressee, Tail, Unknown}
use Rattle.layout.specs.Kinds.{same, type_of, type_in, kind_in}
use Rattle.layout.specs.Fields.{delega_number, fields_of, value_of}
use Rattle.order.specs.declared.Stage.{Stage}
use Rattle.refusal.specs.Outcomes.{Outcome, Pass, Fails}
use Rattle.rules.specs.declared.State.{State}
use Rattle.rules.specs.State.{start_state}
use Rattle.order.specs.Stages.{at_start, after_tail}
use Rattle.text.specs.Among.{among}
use Rattle.order.specs.Order.{stands, type_stands, standing, next_stage}
use Rattle.rules.specs.Stored.{stored_of, wrong}
use Rattle.rules.specs.Checks.{char_fault, bad_fields, carried, number_fault, own_fault, fault}
use Rattle.rules.specs.Step.{next}
use Rattle.judge.specs.Refusal.{Accepted}
use Rattle.judge.specs.declared.Judgement.{Judgement}
use Rattle.judge.specs.Flow.{refused_with, accepted_with, closing, after, judged_from, records_of, head_name_of, judged}
use Rattle.amounts.proofs.Outcomes.{first-pass, five-pass}
use Rattle.judge.specs.Plain.{last_of, state_after, NoFault, Whole, Sound}

-- a record that passes may stand where it stands, carries the number that it should, and breaks no rule of its own and of its stored fields
pub record Right (name : List ℕ) (st : State) (r : List ℕ) : Type 0 where
  pub ordered : stands st.stage (kind_in r) ≡ true
  pub numbered : number_fault st.deleghe (kind_in r) (value_of r delega_number) ≡ Pass
  pub own : own_fault name st (kind_in r) r ≡ Pass
  pub stored : wrong (stored_of st (kind_in r)) r ≡ Pass

pub stands_of : (p : Stage) (t : RecordType) (k : Kind) → standing p t k ≡ Pass → stands p k ≡ true
unfolding standing
stands_of p t k e = go (stands p k) (type_stands p t) _ e
  where
    go : (a b : Bool) (o : Outcome) → cond a o (cond b (Fails 4 11) (Fails 4 2)) ≡ Pass → a ≡ true
    go true b o e = refl
    go false true o e = cc
    go false false o e = cc

pub right_of : (name : List ℕ) (st : State) (r : List ℕ) → fault name st r ≡ Pass → Right name st r
unfolding fault
right_of name st r e =
    let a = five-pass (char_fault (first_bad r)) (standing st.stage (type_in r) (kind_in r)) (bad_fields (fields_of (kind_in r)) r) (number_fault st.deleghe (kind_in r) (value_of r delega_number)) _ e in
    let f = first-pass (own_fault name st (kind_in r) r) _ a.4 in
    record {
      ordered = stands_of st.stage (type_in r) (kind_in r) a.1;
      numbered = a.3;
      own = f.0;
      stored = f.1;
    }

-- at the start only the head may stand
pub head-stands : (p : Stage) (k : Kind) → p.phase ≡ at_start → stands p k ≡ true → k ≡ Head
unfolding stands among
head-stands p Head z e = refl
head-stands p Taxpayer z e = absurd (false≢true (rw z at e))
head-stands p Domicile z e = absurd (false≢true (rw z at e))
head-stands p (Line s) z e = absurd (false≢true (rw z at e))
head-stands p (Balance s) z e = absurd (false≢true (rw z at e))
head-stands p Payment z e = absurd (false≢true (rw z at e))
head-stands p Receipt z e = absurd (false≢true (rw z at e))
head-stands p Addressee z e = absurd (false≢true (rw z at e))
head-stands p Tail z e = absurd (false≢true (rw z at e))
head-stands p Unknown z e = absurd (false≢true e)

-- check 8 passes only where the number is the one that is expected
pub carried-number : (d v : ℕ) → carried d v ≡ Pass → v ≡ d
unfolding carried
carried-number d v e = go (eqb v d) refl e
  where
    go : (b : Bool) → eqb v d ≡ b → cond b Pass (Fails 8 4) ≡ Pass → v ≡ d
    go true q f = eqb-true v d q
    go false q f = let z : ◌≡◌ {A = ℕ} 0 1 = cc in absurd (omega arith)

-- records without a fault are judged by where they end
pub no-fault-closing : (name : List ℕ) (st : State) (rs : List (List ℕ)) → NoFault name st rs → judged_from name st rs ≡ closing (state_after st rs)
unfolding judged_from state_after
no-fault-closing name st [] h = refl
no-fault-closing name st (r ∷ rs) h = rw h.0 (no-fault-closing name (next st r) rs h.1)

after-accepts : (o : Outcome) (n : ℕ) (j : Judgement) → (after o n j).verdict ≡ Accepted → (o ≡ Pass) × (j.verdict ≡ Accepted)
after-accepts Pass n j e = (refl, e)
after-accepts (Err why) n j e = (cc, cc)

accepted-passes : (name : List ℕ) (st : State) (rs : List (List ℕ)) → (judged_from name st rs).verdict ≡ Accepted → NoFault name st rs
unfolding judged_from
accepted-passes name st [] e = tt
accepted-passes name st (r ∷ rs) e =
    let a = after-accepts (fault name st r) st.seen (judged_from name (next st r) rs) e in
    (a.0, accepted-passes name (next st r) rs a.1)

closing-accepts : (st : State) → (closing st).verdict ≡ Accepted → st.stage.phase ≡ after_tail
unfolding closing
closing-accepts st e = go (eqb st.stage.phase after_tail) refl e
  where
    go : (b : Bool) → eqb st.stage.phase after_tail ≡ b → (cond b (accepted_with st) (refused_with 5 (st.seen + 1) 0)).verdict ≡ Accepted → st.stage.phase ≡ after_tail
    go true q f = eqb-true _ _ q
    go false q f = let z : ◌≡◌ {A = ℕ} 0 1 = cc in omega arith

-- the phase is that after EF exactly where EF came last
tail-phase : (p : Stage) (k : Kind) → stands p k ≡ true → ((next_stage p k).phase ≡ after_tail) ↔ (k ≡ Tail)
unfolding stands
tail-phase p Head h = (λ e. absurd (omega arith), λ e. cc)
tail-phase p Taxpayer h = (λ e. absurd (omega arith), λ e. cc)
tail-phase p Domicile h = (λ e. absurd (omega arith), λ e. cc)
tail-phase p (Line s) h = (λ e. absurd (omega arith), λ e. cc)
tail-phase p (Balance s) h = (λ e. absurd (omega arith), λ e. cc)
tail-phase p Payment h = (λ e. absurd (omega arith), λ e. cc)
tail-phase p Receipt h = (λ e. absurd (omega arith), λ e. cc)
tail-phase p Addressee h = (λ e. absurd (omega arith), λ e. cc)
tail-phase p Tail h = (λ e. refl, λ e. refl)
tail-phase p Unknown h = (λ e. cc, λ e. cc)

tail-after : (name : List ℕ) (st : State) (x : List ℕ) (rs : List (List ℕ)) → (st.stage.phase ≡ after_tail) ↔ (kind_in x ≡ Tail) → NoFault name st rs →
    ((state_after st rs).stage.phase ≡ after_tail) ↔ (kind_in (last_of x rs) ≡ Tail)
unfolding state_after last_of next
tail-after name st x [] e h = e
tail-after name st x (r ∷ rs) e h = tail-after name (next st r) r rs (tail-phase st.stage (kind_in r) (right_of name st r h.0).ordered) h.1

pub ends-in-tail : (s : List ℕ) → NoFault (head_name_of s) start_state (records_of s) → ((state_after start_state (records_of s)).stage.phase ≡ after_tail) ↔ (kind_in (last_of [] (records_of s)) ≡ Tail)
unfolding start_state kind_in type_of same
ends-in-tail s h = tail-after (head_name_of s) start_state [] (records_of s) (λ e. absurd (omega arith), λ e. cc) h

pub judged-whole : (s : List ℕ) → Whole s → judged s ≡ judged_from (head_name_of s) start_state (records_of s)
unfolding judged
judged-whole s w = rw (le-ltb _ _ w.short, ne_eqb (length s) 0 (omega arith), eq-eqb (length s % 120) 0 w.even)

accepted-whole : (s : List ℕ) → (judged s).verdict ≡ Accepted → Whole s
unfolding judged
accepted-whole s e = go (ltb 65520 (length s)) (eqb (length s) 0) (eqb (length s % 120) 0) refl refl refl e
  where
    go : (a b c : Bool) → ltb 65520 (length s) ≡ a → eqb (length s) 0 ≡ b → eqb (length s % 120) 0 ≡ c →
        (cond a (refused_with 1 0 0) (cond b (refused_with 2 0 0) (cond c (judged_from (head_name_of s) start_state (records_of s)) (refused_with 2 0 0)))).verdict ≡ Accepted → Whole s
    go true b c p q r f = let z : ◌≡◌ {A = ℕ} 0 1 = cc in absurd (omega arith)
    go false true c p q r f = let z : ◌≡◌ {A = ℕ} 0 1 = cc in absurd (omega arith)
    go false false true p q r f = let n = eqb-false (length s) 0 q in record { short = ltb-false _ _ p; some = omega arith; even = eqb-true _ _ r }
    go false false false p q r f = let z : ◌≡◌ {A = ℕ} 0 1 = cc in absurd (omega arith)

-- "the first blocking fault ends the judgement": an accepted flow has none
pub accepted-means-no-fault : (s : List ℕ) → (judged s).verdict ≡ Accepted → Sound s
accepted-means-no-fault s e =
    let w = accepted-whole s e in
    let j = ap (λ (j : Judgement). j.verdict) (sym (judged-whole s w)) ∙ e in
    let n = accepted-passes (head_name_of s) start_state (records_of s) j in
    let c = ap (λ (j : Judgement). j.verdict) (sym (no-fault-closing (head_name_of s) start_state (records_of s) n)) ∙ j in
    record { whole = w; passes = n; ends = (ends-in-tail s n).0 (closing-accepts _ c) }

-- a sound flow ends after EF, and is accepted with the counts and sums of the state after its records
module _ (s : List ℕ) (h : Sound s) where
  pub sound-phase : (state_after start_state (records_of s)).stage.phase ≡ after_tail
  sound-phase = (ends-in-tail s h.passes).1 h.ends

  pub sound-judged : judged s ≡ accepted_with (state_after start_state (records_of s))
  unfolding closing
  sound-judged = judged-whole s h.whole ∙ (no-fault-closing (head_name_of s) start_state (records_of s) h.passes ∙ rw (eq-eqb _ _ sound-phase))

  pub no-fault-is-accepted : (judged s).verdict ≡ Accepted
  no-fault-is-accepted = ap (λ (j : Judgement). j.verdict) sound-judged
