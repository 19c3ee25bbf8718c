-- A flow is accepted exactly when it is sound, and else refused for exactly one of five reasons: its length, its first fault, or a missing EF.
use Rattle.std.specs.Prelude.{Err}
use Prim.Native.Nat.{ℕ, suc, ◌+◌, ◌%◌, ◌≤◌, ◌<◌}
use mathlib.Core.Path.{◌≡◌, refl, sym, ap, ap₂, ◌∙◌}
use mathlib.Core.Bool.{Bool, true, false, cond}
use mathlib.Core.List.{List, [], ◌∷◌, ◌++◌}
use mathlib.Core.Logic.{◌⊎◌, inl, inr, ◌↔◌}
use native.Mathlib.Omega.{arith}
use borrow.Author.Tests.{ltb-true, ltb-false, eqb-true, eqb-false, ne_eqb}
use lib.Dec.{eqb, ltb}
use lib.ListN.{length}
use Rattle.refusal.proofs.Parts.{refused-parts}
use Rattle.refusal.specs.Outcomes.{Outcome, Pass, Fails}
use Rattle.rules.specs.declared.State.{State}
use Rattle.rules.specs.State.{start_state}
use Rattle.order.specs.Stages.{after_tail}
use Rattle.rules.specs.Checks.{fault}
use Rattle.rules.specs.Step.{next}
use Rattle.judge.specs.Refusal.{Verdict, Accepted, Refused, refusal_of}
use Rattle.judge.specs.declared.Judgement.{Judgement}
use Rattle.refusal.specs.declared.Refusal.{Refusal}
use Rattle.refusal.specs.Refusals.{refusal, no_refusal}
use Rattle.judge.specs.Flow.{refused_with, accepted_with, closing, after, judged_from, records_of, head_name_of, judged}
use Rattle.judge.specs.Plain.{state_after, NoFault, Whole, Sound, FirstFault, RefusedFor, LongFlow, NoBytes, RaggedFlow, FaultAt, NoTail}
use Rattle.judge.proofs.Turn.{judged-long, judged-empty, judged-ragged}
use Rattle.judge.proofs.Accepted.{ends-in-tail, judged-whole, no-fault-closing, accepted-means-no-fault, no-fault-is-accepted}
use Rattle.judge.proofs.Counts.{seen-after}
use Rattle.judge.proofs.ChecksInOrder.{fault-number}

-- a refusal tells of the end of records without a fault, or of the first fault
module _ (name : List ℕ) (n r p : ℕ) where
  abbrev Told : State → List (List ℕ) → Type 0
  Told st rs = (NoFault name st rs × ((closing (state_after st rs)).verdict ≡ Refused n r p)) ⊎ ((k : ℕ) × (r ≡ st.seen + k) × FirstFault name st rs n k p)

  told-on : (st : State) (x : List ℕ) (rs : List (List ℕ)) → fault name st x ≡ Pass → Told (next st x) rs → Told st (x ∷ rs)
  unfolding state_after next
  told-on st x rs e (inl h) = inl ((e, h.0), h.1)
  told-on st x rs e (inr h) =
      let f = h.2 in
      inr (
        h.0 + 1,
        omega arith,
        record {
          before = x ∷ f.before;
          here = f.here;
          behind = f.behind;
          split = ap (◌∷◌ x) f.split;
          counted = omega (arith, f.counted);
          passes = (e, f.passes);
          fails = f.fails;
        },
      )

  told : (st : State) (rs : List (List ℕ)) → (judged_from name st rs).verdict ≡ Refused n r p → Told st rs
  unfolding judged_from state_after
  told st [] e = inl (tt, e)
  told st (x ∷ rs) e = go (fault name st x) refl e (told (next st x) rs)
    where
      go : (o : Outcome) → fault name st x ≡ o → (after o st.seen (judged_from name (next st x) rs)).verdict ≡ Refused n r p → ((judged_from name (next st x) rs).verdict ≡ Refused n r p → Told (next st x) rs) → Told st (x ∷ rs)
      go Pass q f g = told-on st x rs q (g f)
      go (Err why) q f g = let same = refused-parts f in inr (1, sym same.1, record { before = []; here = x; behind = rs; split = refl; counted = refl; passes = tt; fails = q ∙ ap₂ Fails same.0 same.2 })

-- at the end only 5 is told, where the phase is not that after EF
closing-refuses : (st : State) {n r p : ℕ} → (closing st).verdict ≡ Refused n r p → (n ≡ 5) × (r ≡ st.seen + 1) × (p ≡ 0) × (st.stage.phase ≡ after_tail → ⊥)
unfolding closing
closing-refuses st {n} {r} {p} e = go (eqb st.stage.phase after_tail) refl e
  where
    go : (b : Bool) → eqb st.stage.phase after_tail ≡ b → (cond b (accepted_with st) (refused_with 5 (st.seen + 1) 0)).verdict ≡ Refused n r p → (n ≡ 5) × (r ≡ st.seen + 1) × (p ≡ 0) × (st.stage.phase ≡ after_tail → ⊥)
    go true q f = let z : ◌≡◌ {A = ℕ} 0 1 = cc in absurd (omega arith)
    go false q f = let same = refused-parts f in (sym same.0, sym same.1, sym same.2, eqb-false _ _ q)

-- where a record fails behind records that pass, the judgement tells of it
fault-told : (name : List ℕ) (st : State) (before : List (List ℕ)) (here : List ℕ) (behind : List (List ℕ)) {n p : ℕ} → NoFault name st before → fault name (state_after st before) here ≡ Fails n p →
    judged_from name st (before ++ (here ∷ behind)) ≡ refused_with n (st.seen + (length before + 1)) p
unfolding judged_from state_after next
fault-told name st [] here behind h e = rw e
fault-told name st (x ∷ xs) here behind {n} {p} h e = rw h.0 (fault-told name (next st x) xs here behind h.1 e ∙ ap (λ (k : ℕ). refused_with n k p) (counted xs))
  where
    counted : (xs : List (List ℕ)) → (next st x).seen + (length xs + 1) ≡ st.seen + (suc (length xs) + 1)
    counted xs = omega arith

-- how a flow's length decides
pub data Sized (s : List ℕ) : Type 0 where
  long : 65520 < length s → Sized s
  none : length s ≡ 0 → Sized s
  ragged : length s ≤ 65520 → (length s ≡ 0 → ⊥) → (length s % 120 ≡ 0 → ⊥) → Sized s
  whole : Whole s → Sized s

pub sized : (s : List ℕ) → Sized s
sized s = go (ltb 65520 (length s)) (eqb (length s) 0) (eqb (length s % 120) 0) refl refl refl
  where
    go : (a b c : Bool) → ltb 65520 (length s) ≡ a → eqb (length s) 0 ≡ b → eqb (length s % 120) 0 ≡ c → Sized s
    go true b c p q r = long (ltb-true _ _ p)
    go false true c p q r = none (eqb-true _ _ q)
    go false false false p q r = ragged (ltb-false _ _ p) (eqb-false _ _ q) (eqb-false _ _ r)
    go false false true p q r = let n = eqb-false (length s) 0 q in whole (record { short = ltb-false _ _ p; some = omega arith; even = eqb-true _ _ r })

abbrev told_of : Judgement → Refusal
told_of j = refusal_of j.verdict

-- a refusal that is told has one of the five reasons
whole-refused : (s : List ℕ) (w : Whole s) (n r p : ℕ) → (judged s).verdict ≡ Refused n r p → RefusedFor s (refusal n r p)
unfolding start_state
whole-refused s w n r p e = go (told (head_name_of s) n r p start_state (records_of s) (ap (λ (j : Judgement). j.verdict) (sym (judged-whole s w)) ∙ e))
  where
    go : Told (head_name_of s) n r p start_state (records_of s) → RefusedFor s (refusal n r p)
    go (inl h) =
        let c = closing-refuses (state_after start_state (records_of s)) h.1 in
        let k : r ≡ length (records_of s) + 1 = omega (arith, seen-after start_state (records_of s)) in
        NoTail w (record { passes = h.0; ends = λ t. c.3 ((ends-in-tail s h.0).1 t) }) (rw (c.0, k, c.2))
    go (inr h) = let q : r ≡ h.0 = omega arith in FaultAt w (rw q h.2)

refused-for : (s : List ℕ) (x : Refusal) → told_of (judged s) ≡ x → (x.number ≡ 0 → ⊥) → RefusedFor s x
refused-for s x e z = by_size (sized s)
  where
    by-verdict : (v : Verdict) → (judged s).verdict ≡ v → Whole s → RefusedFor s x
    by-verdict Accepted q w = absurd (z (ap (λ (y : Refusal). y.number) (sym e ∙ ap refusal_of q)))
    by-verdict (Err why) q w = rw (sym e ∙ ap refusal_of q) (whole-refused s w why.number why.«record» why.position q)

    by_size : Sized s → RefusedFor s x
    by_size (long h) = LongFlow h (sym e ∙ ap told_of (judged-long s h))
    by_size (none h) = NoBytes h (sym e ∙ ap told_of (judged-empty s (omega arith) h))
    by_size (ragged h n g) = RaggedFlow h g (sym e ∙ ap told_of (judged-ragged s h n g))
    by_size (whole w) = by-verdict (judged s).verdict refl w

-- and each of the five is told
told-for : (s : List ℕ) (x : Refusal) → RefusedFor s x → told_of (judged s) ≡ x
unfolding closing start_state
told-for s x (LongFlow h e) = ap told_of (judged-long s h) ∙ sym e
told-for s x (NoBytes h e) = ap told_of (judged-empty s (omega arith) h) ∙ sym e
told-for s x (RaggedFlow h g e) = go (eqb (length s) 0) refl
  where
    go : (b : Bool) → eqb (length s) 0 ≡ b → told_of (judged s) ≡ x
    go true q = ap told_of (judged-empty s h (eqb-true _ _ q)) ∙ sym e
    go false q = ap told_of (judged-ragged s h (eqb-false _ _ q) g) ∙ sym e
told-for s x (FaultAt w f) =
    let c : start_state.seen + (length f.before + 1) ≡ x.«record» = omega (arith, f.counted) in
    ap told_of (judged-whole s w)
    ∙ (ap (λ (rs : List (List ℕ)). told_of (judged_from (head_name_of s) start_state rs)) f.split
    ∙ (ap told_of (fault-told (head_name_of s) start_state f.before f.here f.behind f.passes f.fails)
    ∙ ap (λ (k : ℕ). refusal x.number k x.position) c))
told-for s x (NoTail w u e) =
    let st = state_after start_state (records_of s) in
    let c : st.seen + 1 ≡ length (records_of s) + 1 = omega (arith, seen-after start_state (records_of s)) in
    ap told_of (judged-whole s w)
    ∙ (ap told_of (no-fault-closing (head_name_of s) start_state (records_of s) u.passes)
    ∙ (rw (ne_eqb st.stage.phase after_tail (λ t. u.ends ((ends-in-tail s u.passes).0 t))) (ap (λ (k : ℕ). refusal 5 k 0) c)
    ∙ sym e))

-- no reason has the number 0, and none a number above 20 but 26
reason-number : (s : List ℕ) (x : Refusal) → RefusedFor s x → (1 ≤ x.number) × (20 < x.number → x.number ≡ 26)
reason-number s x (LongFlow h e) = let n = ap (λ (y : Refusal). y.number) e in (omega arith, λ h. omega arith)
reason-number s x (NoBytes h e) = let n = ap (λ (y : Refusal). y.number) e in (omega arith, λ h. omega arith)
reason-number s x (RaggedFlow h g e) = let n = ap (λ (y : Refusal). y.number) e in (omega arith, λ h. omega arith)
reason-number s x (FaultAt w f) = let n = fault-number (head_name_of s) _ f.here f.fails in (omega arith, n.most)
reason-number s x (NoTail w u e) = let n = ap (λ (y : Refusal). y.number) e in (omega arith, λ h. omega arith)

-- a judgement's refusals have the numbers 1 to 20 and 26
pub judgement-number : (s : List ℕ) {n r p : ℕ} → (judged s).verdict ≡ Refused n r p → (1 ≤ n) × (20 < n → n ≡ 26)
judgement-number s {n} {r} {p} e = by_size (sized s)
  where
    told_with : {m : ℕ} → judged s ≡ refused_with m 0 0 → n ≡ m
    told_with q = ap (λ (y : Refusal). y.number) (sym (ap refusal_of e) ∙ ap told_of q)

    by_size : Sized s → (1 ≤ n) × (20 < n → n ≡ 26)
    by_size (long h) = let k = told_with (judged-long s h) in (omega arith, λ h. omega arith)
    by_size (none h) = let k = told_with (judged-empty s (omega arith) h) in (omega arith, λ h. omega arith)
    by_size (ragged h m g) = let k = told_with (judged-ragged s h m g) in (omega arith, λ h. omega arith)
    by_size (whole w) = reason-number s (refusal n r p) (whole-refused s w n r p e)

-- an answer that is no refusal is an acceptance
pub accepted-has-none : (s : List ℕ) → (refusal_of (judged s).verdict ≡ no_refusal) ↔ ((judged s).verdict ≡ Accepted)
accepted-has-none s = (λ e. go (judged s).verdict refl e, λ e. ap refusal_of e)
  where
    go : (v : Verdict) → (judged s).verdict ≡ v → refusal_of (judged s).verdict ≡ no_refusal → (judged s).verdict ≡ Accepted
    go Accepted q e = q
    go (Err why) q e =
        let z : why.number ≡ 0 = ap (λ (y : Refusal). y.number) (sym (ap refusal_of q) ∙ e) in
        let k = judgement-number s q in
        absurd (omega arith)

-- "A flow is accepted exactly when it breaks no check"
pub accepted-exactly : (s : List ℕ) → (refusal_of (judged s).verdict ≡ no_refusal) ↔ Sound s
accepted-exactly s = (λ e. accepted-means-no-fault s ((accepted-has-none s).0 e), λ h. (accepted-has-none s).1 (no-fault-is-accepted s h))

-- "Otherwise the refusal is the first failed check in the stated order": 1 and 2, then the first fault in the order of the records, then 5
pub refused-exactly : (s : List ℕ) (x : Refusal) → ((refusal_of (judged s).verdict ≡ x) × (x.number ≡ 0 → ⊥)) ↔ RefusedFor s x
refused-exactly s x = (λ h. refused-for s x h.0 h.1, λ h. (told-for s x h, λ z. let n = (reason-number s x h).0 in omega arith))

-- a refusal with a number above 5 is the fault of a record
pub record-fault : (s : List ℕ) (x : Refusal) → refusal_of (judged s).verdict ≡ x → 5 < x.number → Whole s × FirstFault (head_name_of s) start_state (records_of s) x.number x.«record» x.position
record-fault s x e n = go (refused-for s x e (λ z. omega arith))
  where
    go : RefusedFor s x → Whole s × FirstFault (head_name_of s) start_state (records_of s) x.number x.«record» x.position
    go (LongFlow h q) = absurd (omega (arith, ap (λ (y : Refusal). y.number) q))
    go (NoBytes h q) = absurd (omega (arith, ap (λ (y : Refusal). y.number) q))
    go (RaggedFlow h g q) = absurd (omega (arith, ap (λ (y : Refusal). y.number) q))
    go (FaultAt w f) = (w, f)
    go (NoTail w u q) = absurd (omega (arith, ap (λ (y : Refusal). y.number) q))
