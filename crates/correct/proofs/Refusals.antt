-- Demand 3: when a correction is refused 21, 22, 9, 14 or 23, when its refusal is the flow's, and when it is made.
use Rattle.std.specs.Prelude.{Err}
use Prim.Native.Nat.{ℕ, ◌≤◌}
use mathlib.Core.Path.{◌≡◌, refl, sym, ap, ◌∙◌}
use mathlib.Core.Bool.{false}
use mathlib.Core.List.{List}
use mathlib.Core.Logic.{◌⊎◌, ◌↔◌}
use native.Mathlib.Omega.{arith}
use Rattle.amounts.specs.Amounts.{line_right}
use Rattle.judge.specs.Refusal.{Verdict, refusal_of}
use Rattle.judge.specs.Refusal as Judged
use Rattle.refusal.specs.declared.Refusal.{Refusal}
use Rattle.refusal.specs.Refusals.{refusal, no_refusal}
use Rattle.judge.specs.Flow.{judged}
use Rattle.judge.specs.Plain.{RefusedFor, LongFlow, NoBytes, RaggedFlow, FaultAt, NoTail}
use Rattle.judge.proofs.FirstFault.{judgement-number, refused-exactly}
use Rattle.correct.specs.Answers.{Correction, Made, Refused}
use Rattle.correct.specs.Correction.{refusal_made, section_of, correction_of}
use Rattle.correct.specs.WhenRefused.{HasLine, Large, Negative, Overflows, new_records, Tried22, Tried9, Tried14, Tried23, MayBeMade, Answers, AsFlow, NoLine, TooLarge, WrongLine, TurnsNegative, HasNoRoom, IsMade}
use Rattle.correct.proofs.Answered.{answered-exactly}

-- Of a flow's refusals only 1 and 2 are at record 0: records are counted from 1.
nowhere-told : (f : List ℕ) {m p : ℕ} → (judged f).verdict ≡ Judged.Refused m 0 p → m ≤ 2
nowhere-told f {m} {p} e = go ((refused-exactly f (refusal m 0 p)).0 (ap refusal_of e, λ z. omega (arith, (judgement-number f e).0)))
  where
    go : RefusedFor f (refusal m 0 p) → m ≤ 2
    go (LongFlow h q) = omega (arith, ap (λ (t : Refusal). t.number) q)
    go (NoBytes h q) = omega (arith, ap (λ (t : Refusal). t.number) q)
    go (RaggedFlow h g q) = omega (arith, ap (λ (t : Refusal). t.number) q)
    go (FaultAt w q) = absurd (omega (arith, q.counted))
    go (NoTail w u q) = absurd (omega (arith, ap (λ (t : Refusal). t.«record») q))

-- What an answer's number, record and position say, the answer is.
told-as : (c : Correction) (m r p : ℕ) → (m ≡ 0 → ⊥) → refusal_made c ≡ refusal m r p → c ≡ Refused m r p
told-as Made m r p z e = absurd (z (sym (ap (λ (t : Refusal). t.number) e)))
told-as (Err why) m r p z e = ap Err e

module _ (f : List ℕ) (d subtype n x y : ℕ) where
  -- 21, "no such delega, section or line"
  pub refused-21 : (refusal_made (correction_of f d subtype n x y) ≡ refusal 21 0 0) ↔ (((judged f).verdict ≡ Judged.Accepted) × (HasLine f d subtype n → ⊥))
  refused-21 = (λ e. go ((answered-exactly f d subtype n x y _).0 (told-as _ 21 0 0 (λ z. omega arith) e)), λ h. ap refusal_made ((answered-exactly f d subtype n x y _).1 (NoLine h.0 h.1)))
    where
      go : Answers f d subtype n x y (Refused 21 0 0) → ((judged f).verdict ≡ Judged.Accepted) × (HasLine f d subtype n → ⊥)
      go (AsFlow e) = absurd (omega (arith, nowhere-told f e))
      go (NoLine a h) = (a, h)

  -- 22, "new debit or credit has more digits than its field"
  pub refused-22 : (refusal_made (correction_of f d subtype n x y) ≡ refusal 22 0 0) ↔ (Tried22 f d subtype n × (Large x ⊎ Large y))
  refused-22 = (λ e. go ((answered-exactly f d subtype n x y _).0 (told-as _ 22 0 0 (λ z. omega arith) e)), λ h. ap refusal_made ((answered-exactly f d subtype n x y _).1 (TooLarge h.0 h.1)))
    where
      go : Answers f d subtype n x y (Refused 22 0 0) → Tried22 f d subtype n × (Large x ⊎ Large y)
      go (AsFlow e) = absurd (omega (arith, nowhere-told f e))
      go (TooLarge t l) = (t, l)

  -- 9, "line amounts break the line rule"
  pub refused-9 : (refusal_made (correction_of f d subtype n x y) ≡ refusal 9 0 0) ↔ (Tried9 f d subtype n x y × (line_right (section_of subtype) x y ≡ false))
  refused-9 = (λ e. go ((answered-exactly f d subtype n x y _).0 (told-as _ 9 0 0 (λ z. omega arith) e)), λ h. ap refusal_made ((answered-exactly f d subtype n x y _).1 (WrongLine h.0 h.1)))
    where
      go : Answers f d subtype n x y (Refused 9 0 0) → Tried9 f d subtype n x y × (line_right (section_of subtype) x y ≡ false)
      go (AsFlow e) = absurd (omega (arith, nowhere-told f e))
      go (WrongLine t e) = (t, e)

  -- 14, "delega negative"
  pub refused-14 : (refusal_made (correction_of f d subtype n x y) ≡ refusal 14 0 0) ↔ (Tried14 f d subtype n x y × Negative d (new_records f d subtype n x y))
  refused-14 = (λ e. go ((answered-exactly f d subtype n x y _).0 (told-as _ 14 0 0 (λ z. omega arith) e)), λ h. ap refusal_made ((answered-exactly f d subtype n x y _).1 (TurnsNegative h.0 h.1)))
    where
      go : Answers f d subtype n x y (Refused 14 0 0) → Tried14 f d subtype n x y × Negative d (new_records f d subtype n x y)
      go (AsFlow e) = absurd (omega (arith, nowhere-told f e))
      go (TurnsNegative t h) = (t, h)

  -- 23, "a new stored total, balance or sum has more digits than its field"
  pub refused-23 : (refusal_made (correction_of f d subtype n x y) ≡ refusal 23 0 0) ↔ (Tried23 f d subtype n x y × Overflows d (section_of subtype) (new_records f d subtype n x y))
  refused-23 = (λ e. go ((answered-exactly f d subtype n x y _).0 (told-as _ 23 0 0 (λ z. omega arith) e)), λ h. ap refusal_made ((answered-exactly f d subtype n x y _).1 (HasNoRoom h.0 h.1)))
    where
      go : Answers f d subtype n x y (Refused 23 0 0) → Tried23 f d subtype n x y × Overflows d (section_of subtype) (new_records f d subtype n x y)
      go (AsFlow e) = absurd (omega (arith, nowhere-told f e))
      go (HasNoRoom t o) = (t, o)

  -- "Every call on a flow judges it first and gives that refusal if there is one"
  pub refused-as-flow : ((judged f).verdict ≡ Judged.Accepted → ⊥) → refusal_made (correction_of f d subtype n x y) ≡ refusal_of (judged f).verdict
  refused-as-flow h = go (judged f).verdict refl
    where
      go : (v : Verdict) → (judged f).verdict ≡ v → refusal_made (correction_of f d subtype n x y) ≡ refusal_of (judged f).verdict
      go Judged.Accepted e = absurd (h e)
      go (Err why) e = ap refusal_made ((answered-exactly f d subtype n x y _).1 (AsFlow e)) ∙ sym (ap refusal_of e)

  -- A correction is answered to be made exactly when none of its refusals holds.
  pub answered-made : (correction_of f d subtype n x y ≡ Made) ↔ MayBeMade f d subtype n x y
  answered-made = (λ e. go ((answered-exactly f d subtype n x y _).0 e), λ m. (answered-exactly f d subtype n x y _).1 (IsMade m))
    where
      go : Answers f d subtype n x y Made → MayBeMade f d subtype n x y
      go (IsMade m) = m

  -- A refusal has a number.
  refused-number : {m r p : ℕ} → Answers f d subtype n x y (Refused m r p) → 1 ≤ m
  refused-number (AsFlow e) = (judgement-number f e).0
  refused-number (NoLine a h) = omega arith
  refused-number (TooLarge t l) = omega arith
  refused-number (WrongLine t e) = omega arith
  refused-number (TurnsNegative t h) = omega arith
  refused-number (HasNoRoom t o) = omega arith

  pub correction-number : {m r p : ℕ} → correction_of f d subtype n x y ≡ Refused m r p → 1 ≤ m
  correction-number e = refused-number ((answered-exactly f d subtype n x y _).0 e)

  -- So it has no refusal exactly then.
  pub made-exactly-when : (refusal_made (correction_of f d subtype n x y) ≡ no_refusal) ↔ MayBeMade f d subtype n x y
  made-exactly-when = (λ e. go (correction_of f d subtype n x y) refl e, λ m. ap refusal_made (answered-made.1 m))
    where
      go : (c : Correction) → correction_of f d subtype n x y ≡ c → refusal_made (correction_of f d subtype n x y) ≡ no_refusal → MayBeMade f d subtype n x y
      go Made q e = answered-made.0 q
      go (Err why) q e =
          let z : why.number ≡ 0 = ap (λ (t : Refusal). t.number) (sym (ap refusal_made q) ∙ e) in
          absurd (omega (arith, refused-number ((answered-exactly f d subtype n x y _).0 q)))
