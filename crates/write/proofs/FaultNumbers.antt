-- The numbers of the faults of a record to be written.
use Rattle.std.specs.Prelude.{Err}
use Prim.Native.Nat.{ℕ}
use mathlib.Core.Path.{◌≡◌, refl}
use mathlib.Core.List.{List, [], ◌∷◌}
use Rattle.text.specs.Characters.{first_bad}
use Rattle.layout.specs.declared.Kind.{Kind}
use Rattle.layout.specs.Kinds.{kind_in}
use Rattle.layout.specs.Fields.{value_of, delega_number}
use Rattle.refusal.specs.Outcomes.{Outcome, Pass}
use Rattle.amounts.specs.Outcomes.{first}
use Rattle.amounts.specs.Names.{same_bytes}
use Rattle.text.specs.Among.{among}
use Rattle.rules.specs.declared.State.{State}
use Rattle.rules.specs.Checks.{number_fault}
use Rattle.judge.proofs.OwnNumbers.{In, none, has, in-cond, in-first}
use Rattle.rebalance.specs.Rebalance.{kept_fault}
use Rattle.rebalance.proofs.KeptNumbers.{before, last_checks, characters-in, own_in, kept_in, last-in}
use Rattle.sheet.specs.Slots.{type_text, subtype_text, slot_fault}
use Rattle.sheet.specs.Sheet.{Entry}
use Rattle.sheet.specs.Filled.{filled}
use Rattle.write.specs.Writing.{entry_fault}
use Rattle.write.specs.WhenRefused.{record_numbers}

-- 4
slot-in : (ns : List ℕ) (k : Kind) (r : List ℕ) → In (before ns) (slot_fault k r)
unfolding among slot_fault
slot-in ns k r = in-cond (same_bytes _ (type_text k)) (in-cond (same_bytes _ (subtype_text k)) none (has refl)) (has refl)

-- A fault of a record to be written is 3, 4, 6 or 7, or that of the last checks of a record of its slot's kind.
pub entry_in : (ns : List ℕ) (name : List ℕ) (st : State) (e : Entry) → (slot_fault e.slot (filled name e) ≡ Pass → In ns (last_checks name st (filled name e))) → In (3 ∷ 4 ∷ 6 ∷ 7 ∷ ns) (entry_fault name st e)
unfolding entry_fault
entry_in ns name st e h = in-first (characters-in ns (first_bad r)) (go (slot_fault e.slot r) (slot-in ns e.slot r) h)
  where
    r : List ℕ
    r = filled name e

    go : (o : Outcome) → In (before ns) o → (o ≡ Pass → In ns (last_checks name st r)) → In (before ns) (first o (kept_fault name st r))
    go Pass i f = kept_in ns name st r (f refl)
    go (Err why) i f = i

-- So it has one of the numbers named, or 8.
pub entry-number : (name : List ℕ) (st : State) (e : Entry) → In (3 ∷ 4 ∷ 6 ∷ 7 ∷ 8 ∷ 9 ∷ 14 ∷ 16 ∷ 17 ∷ 26 ∷ []) (entry_fault name st e)
entry-number name st e =
    entry_in (8 ∷ 9 ∷ 14 ∷ 16 ∷ 17 ∷ 26 ∷ []) name st e (λ p. last-in name st (filled name e))

-- It has not 8, where a record of its slot's kind passes the check on the delega number.
pub entry-number-right : (name : List ℕ) (st : State) (e : Entry) → (slot_fault e.slot (filled name e) ≡ Pass → number_fault st.deleghe (kind_in (filled name e)) (value_of (filled name e) delega_number) ≡ Pass) → In record_numbers (entry_fault name st e)
entry-number-right name st e h = let r = filled name e in entry_in (9 ∷ 14 ∷ 16 ∷ 17 ∷ 26 ∷ []) name st e (λ p. rw (h p) (own_in name st (kind_in r) r))
