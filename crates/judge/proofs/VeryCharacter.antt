-- Refusal 7 names the very character: of the record that it tells, the first in a numeric field that is no digit.
use Rattle.std.specs.Prelude.{Err}
use Prim.Native.Nat.{ℕ, suc, ◌+◌, ◌-◌, ◌/◌}
use mathlib.Core.Path.{◌≡◌, ap, ◌∙◌}
use mathlib.Core.List.{List, [], ◌∷◌}
use mathlib.Core.Logic.{◌↔◌}
use native.Mathlib.Omega.{arith}
use lib.ListN.{length, get_or, length-append}
use lib.Seq.{get_or-append_seam}
use Rattle.text.specs.Answers.{Characters, Allowed}
use Rattle.text.specs.Characters.{first_bad}
use Rattle.layout.specs.declared.Field.{Field}
use Rattle.layout.specs.declared.RecordType.{RecordType}
use Rattle.layout.specs.declared.Kind.{Kind}
use Rattle.layout.specs.Kinds.{type_in, kind_in}
use Rattle.layout.specs.Fields.{fields_of}
use Rattle.layout.proofs.InOrder.{InOrder, fields-in-order}
use Rattle.refusal.specs.Outcomes.{Outcome, Pass, Fails}
use Rattle.amounts.specs.Outcomes.{first}
use Rattle.order.specs.declared.Stage.{Stage}
use Rattle.order.specs.Order.{standing}
use Rattle.rules.specs.declared.State.{State}
use Rattle.rules.specs.Checks.{char_fault, bad_fields, fault}
use Rattle.rules.specs.NonDigits.{FirstNonDigit}
use Rattle.rules.proofs.NonDigits.{fault-told, fault-exactly}
use Rattle.refusal.specs.Refusals.{refusal}
use Rattle.judge.specs.Refusal.{refusal_of}
use Rattle.judge.specs.Flow.{records_of, head_name_of, judged}
use Rattle.judge.specs.Part.{record_at}
use Rattle.judge.proofs.Records.{length-chunks, record-whole, record-number}
use Rattle.judge.proofs.ChecksInOrder.{char-only, allowed_of, Never, never, other-fault, order-number, rest-number}
use Rattle.judge.proofs.FirstFault.{record-fault}

-- an outcome that is no 7
abbrev pub NoSeven : Outcome → Type 0
NoSeven o = Never 7 o

-- where the first of two faults is 7 and the second cannot be, it is the first
this-seven : (o : Outcome) {x : Outcome} {q : ℕ} → NoSeven x → first o x ≡ Fails 7 q → o ≡ Fails 7 q
this-seven Pass {q = q} n e = absurd (n q e)
this-seven (Err why) n e = e

-- the characters have 3, the order has 4 and 6
pub no-seven-characters : (c : Characters) → NoSeven (char_fault c)
no-seven-characters c = never (char-only c) (λ z. omega arith)

no-seven-order : (p : Stage) (t : RecordType) (k : Kind) → NoSeven (standing p t k)
no-seven-order p t k q e = let h = order-number p t k e in omega arith

-- the checks of a record whose fields fl are looked at, where what is behind them has not the number 7
module _ (p : Stage) (r : List ℕ) (l : length r ≡ 120) (fl : List Field) (o : InOrder 0 fl) (x : Outcome) (n : NoSeven x) where
  abbrev checked : Outcome
  checked = first (char_fault (first_bad r)) (first (standing p (type_in r) (kind_in r)) (first (bad_fields fl r) x))

  of_fields : {q : ℕ} → checked ≡ Fails 7 q → (first_bad r ≡ Allowed) × (standing p (type_in r) (kind_in r) ≡ Pass) × (bad_fields fl r ≡ Fails 7 q)
  of_fields e =
      let a = other-fault (char_fault (first_bad r)) (no-seven-characters (first_bad r)) e in
      let b = other-fault (standing p (type_in r) (kind_in r)) (no-seven-order p (type_in r) (kind_in r)) a.1 in
      (allowed_of (first_bad r) a.0, b.0, this-seven (bad_fields fl r) n b.1)

  -- their 7 is behind the index of the first non-digit of these fields
  pub seven-index : {q : ℕ} → checked ≡ Fails 7 q → (i : ℕ) × (q ≡ i + 1) × FirstNonDigit fl r i
  seven-index e = let t = fault-told r l 0 fl o (of_fields e).2 in (t.0, t.2, t.3)

  -- and is told exactly where the characters and the order are right
  pub seven-when : (i : ℕ) → (checked ≡ Fails 7 (i + 1)) ↔ ((first_bad r ≡ Allowed) × (standing p (type_in r) (kind_in r) ≡ Pass) × FirstNonDigit fl r i)
  seven-when i = let y = fault-exactly r l 0 fl o i in (λ e. let f = of_fields e in (f.0, f.1, y.0 f.2), λ h. rw (h.0, h.1, y.1 h.2))

module _ (name : List ℕ) (st : State) (r : List ℕ) (l : length r ≡ 120) where
  -- 7 is told of a record exactly where its characters and its place in the order are right, at the first non-digit of its numeric fields
  pub seven-exactly : (i : ℕ) → (fault name st r ≡ Fails 7 (i + 1)) ↔ ((first_bad r ≡ Allowed) × (standing st.stage (type_in r) (kind_in r) ≡ Pass) × FirstNonDigit (fields_of (kind_in r)) r i)
  unfolding fault
  seven-exactly i = seven-when st.stage r l (fields_of (kind_in r)) (fields-in-order r) _ (λ q e. let h = rest-number name st r e in omega arith) i

  -- so it is behind an index
  seven_at : {q : ℕ} → fault name st r ≡ Fails 7 q → (i : ℕ) × (q ≡ i + 1) × FirstNonDigit (fields_of (kind_in r)) r i
  unfolding fault
  seven_at e = seven-index st.stage r l (fields_of (kind_in r)) (fields-in-order r) _ (λ q e. let h = rest-number name st r e in omega arith) e

-- "7 names the first non-digit's own position in every kind of record": of any flow that is refused with 7, in the record told
pub seven-names-character : (s : List ℕ) (k p : ℕ) → refusal_of (judged s).verdict ≡ refusal 7 k p → (i : ℕ) × (p ≡ i + 1) × FirstNonDigit (fields_of (kind_in (record_at s k))) (record_at s k) i
seven-names-character s k p e =
    let f = (record-fault s (refusal 7 k p) e (omega arith)).1 in
    let c = f.counted in
    let n : length (records_of s) ≡ length s / 120 = length-chunks (length s / 120) s in
    let m : length (records_of s) ≡ length f.before + suc (length f.behind) = ap length f.split ∙ length-append f.before (f.here ∷ f.behind) in
    let w = record-whole s k (λ z. omega arith) (omega arith) in
    let j : k - 1 ≡ length f.before = omega arith in
    let h : record_at s k ≡ f.here = record-number s k (omega arith) ∙ (ap (λ (x : ℕ). get_or (records_of s) x []) j ∙ (ap (λ (x : List (List ℕ)). get_or x (length f.before) []) f.split ∙ get_or-append_seam f.before f.here f.behind [])) in
    seven_at (head_name_of s) _ (record_at s k) w (ap (fault (head_name_of s) _) h ∙ f.fails)
