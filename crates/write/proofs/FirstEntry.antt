-- The faults of records to be written, one by one: they pass together where each passes, and else the first is told.
use Rattle.std.specs.Prelude.{Err}
use Prim.Native.Nat.{ℕ, suc, ◌+◌}
use mathlib.Core.Path.{◌≡◌, refl, sym, ap, ◌∙◌}
use mathlib.Core.List.{List, [], ◌∷◌, ◌++◌}
use native.Mathlib.Omega.{arith}
use lib.ListN.{length}
use Rattle.refusal.specs.Outcomes.{Outcome, Pass, Fails}
use Rattle.refusal.proofs.Parts.{refused-parts}
use Rattle.rules.specs.declared.State.{State}
use Rattle.rules.specs.Step.{next}
use Rattle.judge.specs.Plain.{state_after}
use Rattle.lenient.specs.Answers as Kept
use Rattle.lenient.specs.Lenient.{or_refused}
use Rattle.sheet.specs.Sheet.{Entry}
use Rattle.sheet.specs.Filled.{filled, filled_all}
use Rattle.write.specs.Writing.{entry_fault, entries_fault}
use Rattle.write.specs.WhenRefused.{NoEntryFault, FirstEntryFault}

-- Where records pass together, each passes.
pub each-passes : (name : List ℕ) (st : State) (es : List Entry) → entries_fault name st es ≡ Kept.Passed → NoEntryFault name st es
unfolding entries_fault
each-passes name st [] q = tt
each-passes name st (e ∷ es) q = go (entry_fault name st e) refl q (each-passes name (next st (filled name e)) es)
  where
    go : (o : Outcome) → entry_fault name st e ≡ o → or_refused o st.seen (entries_fault name (next st (filled name e)) es) ≡ Kept.Passed →
        (entries_fault name (next st (filled name e)) es ≡ Kept.Passed → NoEntryFault name (next st (filled name e)) es) → NoEntryFault name st (e ∷ es)
    go Pass p f g = (p, g f)
    go (Err why) p f g = let z : ◌≡◌ {A = ℕ} 0 1 = cc in absurd (omega arith)

-- Where each passes, they pass together.
pub all_pass : (name : List ℕ) (st : State) (es : List Entry) → NoEntryFault name st es → entries_fault name st es ≡ Kept.Passed
unfolding entries_fault
all_pass name st [] h = refl
all_pass name st (e ∷ es) h = rw h.0 (all_pass name (next st (filled name e)) es h.1)

-- A fault is told of the k-th of these records, behind those seen.
abbrev Told : List ℕ → State → List Entry → ℕ → ℕ → ℕ → Type 0
Told name st es n r p = (k : ℕ) × (r ≡ st.seen + k) × FirstEntryFault name st es n k p

told-on : (name : List ℕ) (st : State) (e : Entry) (es : List Entry) (n r p : ℕ) → entry_fault name st e ≡ Pass → Told name (next st (filled name e)) es n r p → Told name st (e ∷ es) n r p
unfolding next state_after filled_all
told-on name st e es n r p h f =
    let g = f.2 in (
      f.0 + 1,
      omega arith,
      record { before = e ∷ g.before; here = g.here; behind = g.behind; split = ap (◌∷◌ e) g.split; counted = omega (arith, g.counted); passes = (h, g.passes); fails = g.fails },
    )

-- A fault that is told is that of the first record that has one.
pub first-told : (name : List ℕ) (st : State) (es : List Entry) {n r p : ℕ} → entries_fault name st es ≡ Kept.Refused n r p → (k : ℕ) × (r ≡ st.seen + k) × FirstEntryFault name st es n k p
unfolding entries_fault state_after filled_all
first-told name st [] q = let z : ◌≡◌ {A = ℕ} 0 1 = cc in absurd (omega arith)
first-told name st (e ∷ es) {n} {r} {p} q = go (entry_fault name st e) refl q (first-told name (next st (filled name e)) es)
  where
    go : (o : Outcome) → entry_fault name st e ≡ o → or_refused o st.seen (entries_fault name (next st (filled name e)) es) ≡ Kept.Refused n r p →
        (entries_fault name (next st (filled name e)) es ≡ Kept.Refused n r p → Told name (next st (filled name e)) es n r p) → Told name st (e ∷ es) n r p
    go Pass h f g = told-on name st e es n r p h (g f)
    go (Err why) h f g =
        let q = refused-parts f in
        (1, sym q.1, record { before = []; here = e; behind = es; split = refl; counted = refl; passes = tt; fails = rw (← q.0, ← q.2) h })

-- Where a record has a fault behind records that pass, it is told.
pub told-first : (name : List ℕ) (st : State) (before : List Entry) (here : Entry) (behind : List Entry) {n p : ℕ} → NoEntryFault name st before → entry_fault name (state_after st (filled_all name before)) here ≡ Fails n p →
    entries_fault name st (before ++ (here ∷ behind)) ≡ Kept.Refused n (st.seen + (length before + 1)) p
unfolding entries_fault state_after filled_all next
told-first name st [] here behind h e = rw e
told-first name st (x ∷ xs) here behind {n} {p} h e =
    rw h.0 (told-first name (next st (filled name x)) xs here behind h.1 e ∙ ap (λ (k : ℕ). Kept.Refused n k p) (let c : (next st (filled name x)).seen + (length xs + 1) ≡ st.seen + (suc (length xs) + 1) = omega arith in c))
