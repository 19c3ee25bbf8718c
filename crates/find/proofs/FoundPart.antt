-- The part of a found line is the record that the answer names, whole, and within the flow; and an answer has no refusal exactly where a line is found.
use Rattle.std.specs.Prelude.{Err}
use Prim.Native.Nat.{ℕ, ◌-◌, ◌/◌, ◌<◌, ◌≤◌}
use mathlib.Core.Path.{◌≡◌, refl, sym, ap, ◌∙◌}
use mathlib.Core.Bool.{Bool, true, false, cond}
use mathlib.Core.List.{List, []}
use mathlib.Core.Logic.{◌↔◌}
use native.Mathlib.Omega.{arith}
use lib.Dec.{eqb}
use lib.ListN.{length, get_or}
use Rattle.refusal.proofs.Parts.{refused-parts}
use Rattle.judge.specs.Refusal.{Verdict, Accepted, Refused, judged_first}
use Rattle.refusal.specs.declared.Refusal.{Refusal}
use Rattle.refusal.specs.Refusals.{no_refusal}
use Rattle.judge.specs.Flow.{records_of, judged}
use Rattle.judge.proofs.Records.{length-chunks, record-whole, record-number}
use Rattle.judge.proofs.FirstFault.{judgement-number}
use Rattle.find.specs.Answers.{Found}
use Rattle.find.specs.Answers as Answer
use Rattle.find.specs.Line.{refusal_found, line_of, or_absent, found_in}
use Rattle.find.specs.Part.{part_of}
use Rattle.find.proofs.NamedLine.{found-exactly}

-- the part at k is the k-th record of a flow, counted from 1
pub record KthRecord (f : List ℕ) (k : ℕ) : Type 0 where
  pub counted : 0 < k
  pub within : k ≤ length f / 120
  pub record_is : part_of f (Answer.At k) ≡ get_or (records_of f) (k - 1) []
  pub whole : length (part_of f (Answer.At k)) ≡ 120

-- a line is found in an accepted flow only
pub found-accepted : (f : List ℕ) (d subtype n k : ℕ) → found_in f d subtype n ≡ Answer.At k → (judged f).verdict ≡ Accepted
unfolding found_in
found-accepted f d subtype n k e = go (judged f).verdict e
  where
    go : (v : Verdict) → judged_first Answer.Refused v (or_absent (line_of f d subtype n)) ≡ Answer.At k → v ≡ Accepted
    go Accepted q = refl
    go (Err why) q = let z : ◌≡◌ {A = ℕ} 0 1 = cc in absurd (omega arith)

-- "A found line is handed back as that record"
pub found_part : (f : List ℕ) (d subtype n k : ℕ) → found_in f d subtype n ≡ Answer.At k → KthRecord f k
found_part f d subtype n k e =
    let h = (found-exactly f d subtype n k (found-accepted f d subtype n k e)).0 e in
    let w : k ≤ length f / 120 = omega (arith, h.within, length-chunks (length f / 120) f) in
    record { counted = h.counted; within = w; record_is = record-number f k h.counted; whole = record-whole f k (λ z. omega (arith, h.counted)) w }

-- a refused answer is the judgement's or 21, and neither has the number 0
pub found_number : (f : List ℕ) (d subtype n m r p : ℕ) → found_in f d subtype n ≡ Answer.Refused m r p → 1 ≤ m
unfolding found_in
found_number f d subtype n m r p e = by-verdict (judged f).verdict refl e
  where
    by-line : (b : Bool) → cond b (Answer.Refused 21 0 0) (Answer.At (line_of f d subtype n)) ≡ Answer.Refused m r p → 1 ≤ m
    by-line true q = let x : 21 ≡ m = (refused-parts q).0 in omega arith
    by-line false q = let z : ◌≡◌ {A = ℕ} 0 1 = cc in absurd (omega arith)

    by-verdict : (v : Verdict) → (judged f).verdict ≡ v → judged_first Answer.Refused v (or_absent (line_of f d subtype n)) ≡ Answer.Refused m r p → 1 ≤ m
    by-verdict Accepted h q = by-line (eqb (line_of f d subtype n) 0) q
    by-verdict (Err why) h q = let w : why.number ≡ m = (refused-parts q).0 in omega (arith, (judgement-number f h).0)

-- "A refusal is a number, a record counted from 1, and a position": an answer has none exactly where it names a record
pub found-refusal : (f : List ℕ) (d subtype n : ℕ) → (refusal_found (found_in f d subtype n) ≡ no_refusal) ↔ ((k : ℕ) × (found_in f d subtype n ≡ Answer.At k))
found-refusal f d subtype n = (λ e. by_answer (found_in f d subtype n) refl e, λ x. ap refusal_found x.1)
  where
    by_answer : (a : Found) → found_in f d subtype n ≡ a → refusal_found (found_in f d subtype n) ≡ no_refusal → (k : ℕ) × (found_in f d subtype n ≡ Answer.At k)
    by_answer (Answer.At k) q e = (k, q)
    by_answer (Err why) q e =
        let z : why.number ≡ 0 = ap (λ (x : Refusal). x.number) (sym (ap refusal_found q) ∙ e) in
        absurd (omega (arith, found_number f d subtype n why.number why.«record» why.position q))
