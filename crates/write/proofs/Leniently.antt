-- The lenient judgement of the records put together gives the first fault of the records to be written: the first that is not of its slot's kind is all that has to be known of the slots.
use Rattle.std.specs.Prelude.{Err, Option, None, Some}
use Rattle.std.specs.Option.{unwrap_or}
use Prim.Native.Nat.{ℕ, ◌+◌, ◌<◌}
use mathlib.Core.Path.{◌≡◌, refl, sym, ap, ◌∙◌}
use mathlib.Core.Bool.{Bool, true, false, cond}
use mathlib.Core.List.{List, [], ◌∷◌}
use native.Mathlib.Omega.{arith}
use borrow.Author.Tests.{eq-eqb, ne_eqb}
use lib.ListN.{length, take, drop}
use Rattle.text.specs.Characters.{first_bad}
use Rattle.refusal.specs.Outcomes.{Outcome, Pass, Fails}
use Rattle.refusal.proofs.Parts.{fails-parts}
use Rattle.amounts.specs.Names.{same_bytes}
use Rattle.amounts.specs.Outcomes.{first}
use Rattle.layout.specs.declared.Kind.{Kind}
use Rattle.rules.specs.declared.State.{State}
use Rattle.rules.specs.Checks.{char_fault}
use Rattle.rules.specs.Step.{next}
use Rattle.judge.specs.Plain.{state_after}
use Rattle.rebalance.specs.Rebalance.{kept_fault}
use Rattle.lenient.specs.Answers.{Lenient}
use Rattle.lenient.specs.Answers as Kept
use Rattle.lenient.specs.declared.Misfit.{Misfit}
use Rattle.lenient.specs.Lenient.{misfit_fault, lenient_fault, or_refused, ended, lenient_from}
use Rattle.sheet.specs.Slots.{type_text, subtype_text, slot_fault}
use Rattle.sheet.specs.Sheet.{Entry}
use Rattle.sheet.specs.Filled.{filled, filled_all}
use Rattle.sheet.specs.Walk.{or_misfit, misfit_from}
use Rattle.write.specs.Writing.{entry_fault, entries_fault}

-- The first misfit stays the first.
misfit-stays : (name : List ℕ) (n : ℕ) (es : List Entry) (x : Misfit) → misfit_from name n es (Some x) ≡ Some x
unfolding misfit_from
misfit-stays name n [] x = refl
misfit-stays name n (e ∷ es) x = misfit-stays name (n + 1) es x

-- The first misfit of records behind n others is none of those.
misfit-later : (name : List ℕ) (n : ℕ) (es : List Entry) (x : Misfit) → misfit_from name n es None ≡ Some x → n < x.at
unfolding misfit_from
misfit-later name n [] x h = let z : ◌≡◌ {A = ℕ} 0 1 = cc in absurd (omega arith)
misfit-later name n (e ∷ es) x h = go (slot_fault e.slot (filled name e)) (misfit-later name (n + 1) es x) h
  where
    go : (o : Outcome) → (misfit_from name (n + 1) es None ≡ Some x → n + 1 < x.at) → misfit_from name (n + 1) es (or_misfit None (n + 1) o) ≡ Some x → n < x.at
    go Pass rest i = let l : n + 1 < x.at = rest i in omega arith
    go (Err why) rest i =
        let j = sym (misfit-stays name (n + 1) es (record { at = n + 1; position = why.position })) ∙ i in
        let v : n + 1 ≡ x.at = ap (λ (m : Option Misfit). (unwrap_or m x).at) j in
        omega arith

-- A slot's fault is a 4.
slot-four : (k : Kind) (r : List ℕ) (n p : ℕ) → slot_fault k r ≡ Fails n p → n ≡ 4
unfolding slot_fault
slot-four k r n p e = go (same_bytes (take 2 (drop 1 r)) (type_text k)) (same_bytes (take (length (subtype_text k)) (drop 10 r)) (subtype_text k)) e
  where
    go : (t u : Bool) → cond t (cond u Pass (Fails 4 11)) (Fails 4 2) ≡ Fails n p → n ≡ 4
    go true true h = cc
    go true false h = sym (fails-parts h).0
    go false u h = sym (fails-parts h).0

-- What comes behind records, where they pass.
abbrev pub behind_faults : Lenient → Lenient → Lenient
behind_faults Kept.Passed x = x
behind_faults (Err why) x = Err why

behind-or : (o : Outcome) (n : ℕ) (x y : Lenient) → behind_faults (or_refused o n x) y ≡ or_refused o n (behind_faults x y)
behind-or Pass n x y = refl
behind-or (Err why) n x y = refl

-- A record that is not of its slot's kind ends the judgement.
misfit-ends : (c : Outcome) (q p n : ℕ) (k : Outcome) (x y : Lenient) → or_refused (first c (first (Fails q p) k)) n x ≡ or_refused (first c (first (Fails q p) k)) n y
misfit-ends Pass q p n k x y = refl
misfit-ends (Err why) q p n k x y = refl

module _ (name : List ℕ) (st : State) (e : Entry) where
  -- A record of its slot's kind is judged alike where it is not told as the misfit,
  alike-fitting : (m : Option Misfit) → slot_fault e.slot (filled name e) ≡ Pass → ((x : Misfit) → m ≡ Some x → st.seen + 1 < x.at) → lenient_fault name m st (filled name e) ≡ entry_fault name st e
  unfolding lenient_fault entry_fault misfit_fault
  alike-fitting None i h = rw i
  alike-fitting (Some x) i h = rw (i, ne_eqb x.at (st.seen + 1) (λ z. let l : st.seen + 1 < x.at = h x refl in omega (arith, z)))

  -- and one of another kind where it is.
  alike-misfit : (p : ℕ) → slot_fault e.slot (filled name e) ≡ Fails 4 p → lenient_fault name (Some (record { at = st.seen + 1; position = p })) st (filled name e) ≡ entry_fault name st e
  unfolding lenient_fault entry_fault misfit_fault
  alike-misfit p i = rw (i, eq-eqb (st.seen + 1) (st.seen + 1) refl)

  -- One turn of the judgement, with what is left behind it.
  turn : (es : List Entry) (x y end : Lenient) (o : Outcome) → slot_fault e.slot (filled name e) ≡ o → (o ≡ Pass → x ≡ behind_faults y end) → or_refused (lenient_fault name (misfit_from name (st.seen + 1) es (or_misfit None (st.seen + 1) o)) st (filled name e)) st.seen x ≡ behind_faults (or_refused (entry_fault name st e) st.seen y) end
  unfolding entry_fault
  turn es x y end Pass i h =
      ap (λ (o : Outcome). or_refused o st.seen x) (alike-fitting (misfit_from name (st.seen + 1) es None) i (misfit-later name (st.seen + 1) es))
      ∙ (ap (or_refused (entry_fault name st e) st.seen) (h refl) ∙ sym (behind-or (entry_fault name st e) st.seen y end))
  turn es x y end (Err why) i h =
      let f : why.number ≡ 4 = slot-four e.slot (filled name e) why.number why.position i in
      ap (λ (w : Option Misfit). or_refused (lenient_fault name w st (filled name e)) st.seen x) (misfit-stays name (st.seen + 1) es (record { at = st.seen + 1; position = why.position }))
      ∙ (ap (λ (o : Outcome). or_refused o st.seen x) (alike-misfit why.position (rw f at i))
      ∙ (rw i (misfit-ends (char_fault (first_bad (filled name e))) why.number why.position st.seen (kept_fault name st (filled name e)) x (behind_faults y end)) ∙ sym (behind-or (entry_fault name st e) st.seen y end)))

-- The lenient judgement of records, none of them a misfit so far: their first fault, and else how they end.
pub leniently : (name : List ℕ) (st : State) (es : List Entry) → lenient_from name (misfit_from name st.seen es None) st (filled_all name es) ≡ behind_faults (entries_fault name st es) (ended (state_after st (filled_all name es)))
unfolding lenient_from entries_fault filled_all misfit_from state_after next
leniently name st [] = refl
leniently name st (e ∷ es) =
    turn name st e es _ (entries_fault name (next st (filled name e)) es) (ended (state_after (next st (filled name e)) (filled_all name es))) (slot_fault e.slot (filled name e)) refl
    (λ i. ap (λ (o : Outcome). lenient_from name (misfit_from name (st.seen + 1) es (or_misfit None (st.seen + 1) o)) (next st (filled name e)) (filled_all name es)) i ∙ leniently name (next st (filled name e)) es)
