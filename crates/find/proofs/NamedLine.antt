-- Of an accepted flow the line that is found is the one that is named, over the plain records: the n-th line of that subtype that carries that delega's number.
use Rattle.std.specs.Prelude.{Err}
use Prim.Native.Nat.{ℕ, ◌+◌, ◌-◌}
use mathlib.Core.Path.{◌≡◌, refl, sym, ap, ap₂, ◌∙◌}
use mathlib.Core.Bool.{Bool, true, false, cond, false≢true}
use mathlib.Core.List.{List}
use mathlib.Core.Logic.{◌↔◌, inl, inr}
use native.Mathlib.Omega.{arith}
use native.Mathlib.Decide.{ℕ_discrete}
use borrow.Author.Tests.{eqb-true, eqb-false, eq-eqb, ne_eqb}
use lib.Dec.{eqb}
use lib.ListN.{take}
use Rattle.layout.specs.declared.Kind.TheVariants.{Line}
use Rattle.layout.specs.Sections.{section_at}
use Rattle.layout.specs.Kinds.{of_line, section_kind, kind_in}
use Rattle.layout.specs.Fields.{delega_number, value_of}
use Rattle.layout.proofs.OtherKinds.{no_line}
use Rattle.text.proofs.Tests.{both_true}
use Rattle.rules.specs.State.{start_state}
use Rattle.judge.specs.Refusal.{Accepted}
use Rattle.judge.specs.Flow.{records_of, head_name_of, judged}
use Rattle.judge.specs.Part.{record_at}
use Rattle.judge.proofs.Accepted.{accepted-means-no-fault}
use Rattle.judge.proofs.Records.{record-number}
use Rattle.refusal.specs.declared.Refusal.{Refusal}
use Rattle.refusal.specs.Refusals.{refusal}
use Rattle.find.specs.Answers.{Found}
use Rattle.find.specs.Answers as Answer
use Rattle.find.specs.Line.{refusal_found, line_of, or_absent, found_in}
use Rattle.find.specs.NamedLine.{line_with, count_of, NthLine}
use Rattle.find.proofs.Subtypes.{Other, no_other, LineOrOther, line-or-other, named-row, row_named}
use Rattle.layout.proofs.InTable.{line-within}
use Rattle.find.proofs.NthIn.{NthIn, count_to, counted-is-nth, nth-is-counted, none-counted}
use Rattle.find.proofs.LinesSoFar.{line_in, so-far-starts, search-counts}

module _ (d subtype : ℕ) (r : List ℕ) where
  -- a line has the subtype exactly where it is of the section that the subtype names
  section-told : (s t : ℕ) → section_kind subtype ≡ Line s → kind_in r ≡ Line t → eqb (section_at t).line_subtype subtype ≡ eqb t s
  section-told s t e k = go (eqb t s) refl
    where
      go : (b : Bool) → eqb t s ≡ b → eqb (section_at t).line_subtype subtype ≡ b
      go true q = let x = eqb-true t s q in rw x (eq-eqb _ _ (named-row subtype s e).1)
      go false q =
          ne_eqb _ _ (λ x.
          let y : Line t ≡ Line s = sym (row_named t (line-within r t k)) ∙ (ap section_kind x ∙ e) in
          let z : t ≡ s = cc in
          eqb-false t s q z)

  -- so the test over plain records is that of the section
  told : (s : ℕ) → section_kind subtype ≡ Line s → line_with d subtype r ≡ line_in d s (kind_in r) (value_of r delega_number)
  unfolding line_with
  told s e = go (line-or-other (kind_in r))
    where
      go : LineOrOther (kind_in r) → line_with d subtype r ≡ line_in d s (kind_in r) (value_of r delega_number)
      go (inl x) = rw (x.1, section-told s x.0 e x.1)
      go (inr x) = rw (no_line false _ (kind_in r) x, no_line false _ (kind_in r) x)

  -- a subtype that names no section is that of no line
  none_told : Other (section_kind subtype) → line_with d subtype r ≡ false
  unfolding line_with
  none_told o = go (line-or-other (kind_in r))
    where
      go : LineOrOther (kind_in r) → line_with d subtype r ≡ false
      go (inl x) =
          let named = row_named x.0 (line-within r x.0 x.1) in
          rw (x.1, ne_eqb (section_at x.0).line_subtype subtype (λ y. no_other x.0 (rw (sym (ap section_kind y) ∙ named) at o)))
      go (inr x) = no_line false _ (kind_in r) x

-- the line of an accepted flow, by counting along its records
line-counts : (f : List ℕ) (d subtype n : ℕ) → (judged f).verdict ≡ Accepted → line_of f d subtype n ≡ count_to (line_with d subtype) n 0 0 (records_of f)
unfolding line_of start_state
line-counts f d subtype n a = go (line-or-other (section_kind subtype))
  where
    go : LineOrOther (section_kind subtype) → line_of f d subtype n ≡ count_to (line_with d subtype) n 0 0 (records_of f)
    go (inl x) =
        rw x.1
        (search-counts (head_name_of f) d x.0 n (line_with d subtype) (λ r. told d subtype r x.0 x.1) start_state 0 0 (records_of f) (so-far-starts d x.0) (accepted-means-no-fault f a).passes)
    go (inr x) = no_line 0 _ (section_kind subtype) x ∙ sym (none-counted (line_with d subtype) n (λ r. none_told d subtype r x) 0 0 (records_of f))

-- the number of a line's record names it
pub named-line : (f : List ℕ) (d subtype n k : ℕ) → (judged f).verdict ≡ Accepted → line_of f d subtype n ≡ k → (k ≡ 0 → ⊥) → NthLine f d subtype n k
unfolding count_of
named-line f d subtype n k a e z =
    let c = line-counts f d subtype n a in
    let x = counted-is-nth (line_with d subtype) n 0 0 (records_of f) (λ y. z (sym e ∙ (c ∙ y))) in
    let i : x.0 ≡ k - 1 = omega (arith, x.1) in
    let h : NthIn (line_with d subtype) n 0 (records_of f) (k - 1) = rw i at x.2 in
    record {
      counted = omega (arith, z);
      within = omega (arith, h.within);
      line = ap (line_with d subtype) (record-number f k (omega arith)) ∙ h.passes;
      before = omega (arith, h.before);
    }

-- and the line that is named has that number
pub line-of-named : (f : List ℕ) (d subtype n k : ℕ) → (judged f).verdict ≡ Accepted → NthLine f d subtype n k → line_of f d subtype n ≡ k
unfolding count_of
line-of-named f d subtype n k a h =
    line-counts f d subtype n a ∙ (nth-is-counted (line_with d subtype) n 0 0 (records_of f) (k - 1) nth ∙ omega (arith, h.counted))
  where
    nth : NthIn (line_with d subtype) n 0 (records_of f) (k - 1)
    nth =
        record {
          within = omega (arith, h.counted, h.within);
          passes = ap (line_with d subtype) (sym (record-number f k h.counted)) ∙ h.line;
          before = omega (arith, h.before);
        }

-- an answer is a record or 21, by the number of the line's record
at-line : (m k : ℕ) → or_absent m ≡ Answer.At k → (m ≡ k) × (k ≡ 0 → ⊥)
at-line m k e = go (eqb m 0) refl e
  where
    go : (b : Bool) → eqb m 0 ≡ b → cond b (Answer.Refused 21 0 0) (Answer.At m) ≡ Answer.At k → (m ≡ k) × (k ≡ 0 → ⊥)
    go true q g = let z : ◌≡◌ {A = ℕ} 0 1 = cc in absurd (omega arith)
    go false q g = let x : m ≡ k = cc in (x, λ z. eqb-false m 0 q (x ∙ z))

at_none : (m : ℕ) → or_absent m ≡ Answer.Refused 21 0 0 → m ≡ 0
at_none m e = go (eqb m 0) refl e
  where
    go : (b : Bool) → eqb m 0 ≡ b → cond b (Answer.Refused 21 0 0) (Answer.At m) ≡ Answer.Refused 21 0 0 → m ≡ 0
    go true q g = eqb-true m 0 q
    go false q g = let z : ◌≡◌ {A = ℕ} 0 1 = cc in absurd (omega arith)

-- the answer that an accepted flow gets
accepted-answer : (f : List ℕ) (d subtype n : ℕ) → (judged f).verdict ≡ Accepted → found_in f d subtype n ≡ or_absent (line_of f d subtype n)
unfolding found_in
accepted-answer f d subtype n a = rw a

-- "A line is named by delega number, line subtype and its place in the section, counted from 1": a record is found exactly where it is the line so named
pub found-exactly : (f : List ℕ) (d subtype n k : ℕ) → (judged f).verdict ≡ Accepted → (found_in f d subtype n ≡ Answer.At k) ↔ NthLine f d subtype n k
found-exactly f d subtype n k a =
    let w = accepted-answer f d subtype n a in (
      λ e. let x = at-line (line_of f d subtype n) k (sym w ∙ e) in named-line f d subtype n k a x.0 x.1,
      λ h. w ∙ (ap or_absent (line-of-named f d subtype n k a h) ∙ rw (ne_eqb k 0 (λ z. omega (arith, h.counted)))),
    )

-- 21, "no such delega, section or line": exactly where no record is the line so named
absent-answered : (f : List ℕ) (d subtype n : ℕ) → (judged f).verdict ≡ Accepted → (found_in f d subtype n ≡ Answer.Refused 21 0 0) ↔ ((k : ℕ) → NthLine f d subtype n k → ⊥)
absent-answered f d subtype n a =
    let w = accepted-answer f d subtype n a in (
      λ e k h. omega (arith, at_none (line_of f d subtype n) (sym w ∙ e), line-of-named f d subtype n k a h, h.counted),
      λ h. w ∙ rw (eq-eqb (line_of f d subtype n) 0 (none h (ℕ_discrete (line_of f d subtype n) 0))),
    )
  where
    none : ((k : ℕ) → NthLine f d subtype n k → ⊥) → Dec (line_of f d subtype n ≡ 0) → line_of f d subtype n ≡ 0
    none h (yes z) = z
    none h (no z) = absurd (h (line_of f d subtype n) (named-line f d subtype n (line_of f d subtype n) a refl z))

-- what an answer's number, record and position say, the answer is
told-as : (a : Found) (m r p : ℕ) → (m ≡ 0 → ⊥) → refusal_found a ≡ refusal m r p → a ≡ Answer.Refused m r p
told-as (Answer.At k) m r p z e = absurd (z (sym (ap (λ (t : Refusal). t.number) e)))
told-as (Err why) m r p z e = ap Err e

-- 21, "no such delega, section or line", exactly where no record is that line
pub absent-exactly : (f : List ℕ) (d subtype n : ℕ) → (judged f).verdict ≡ Accepted → (refusal_found (found_in f d subtype n) ≡ refusal 21 0 0) ↔ ((k : ℕ) → NthLine f d subtype n k → ⊥)
absent-exactly f d subtype n a =
    let w = absent-answered f d subtype n a in
    (λ e. w.0 (told-as _ 21 0 0 (λ z. omega arith) e), λ h. ap refusal_found (w.1 h))

-- a line so named has that subtype, and carries that number
said : (d subtype : ℕ) (r : List ℕ) → line_with d subtype r ≡ true → (of_line 0 (λ s. (section_at s).line_subtype) (kind_in r) ≡ subtype) × (value_of r delega_number ≡ d)
unfolding line_with
said d subtype r e = go (line-or-other (kind_in r))
  where
    go : LineOrOther (kind_in r) → (of_line 0 (λ s. (section_at s).line_subtype) (kind_in r) ≡ subtype) × (value_of r delega_number ≡ d)
    go (inl x) =
        let a = both_true (eqb (section_at x.0).line_subtype subtype) _ (rw x.1 at e) in
        (rw x.1 (eqb-true _ _ a.0), eqb-true _ _ a.1)
    go (inr x) = absurd (false≢true (sym (no_line false _ (kind_in r) x) ∙ e))

-- one record has one name
pub one_name : (f : List ℕ) (d subtype n e t m k : ℕ) → NthLine f d subtype n k → NthLine f e t m k → (d ≡ e) × (subtype ≡ t) × (n ≡ m)
one_name f d subtype n e t m k h i =
    let a = said d subtype (record_at f k) h.line in
    let b = said e t (record_at f k) i.line in
    let p : d ≡ e = sym a.1 ∙ b.1 in
    let q : subtype ≡ t = sym a.0 ∙ b.0 in
    (p, q, sym h.before ∙ (ap₂ (λ (x y : ℕ). count_of x y (take (k - 1) (records_of f)) + 1) p q ∙ i.before))
