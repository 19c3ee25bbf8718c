-- What a correction answers, and when: one way for each answer, and the answer for each way.
use Rattle.std.specs.Prelude.{Err}
use Prim.Native.Nat.{ℕ, ◌≤◌, ◌<◌}
use mathlib.Core.Path.{◌≡◌, refl, sym, ap₂, ◌∙◌}
use mathlib.Core.Bool.{Bool, true, false, true≢false}
use mathlib.Core.List.{List}
use mathlib.Core.Logic.{◌↔◌, inl, inr}
use native.Mathlib.Omega.{arith}
use native.Mathlib.Decide.{ℕ_discrete, dec_lt}
use borrow.Author.Tests.{eq-eqb, ne_eqb}
use Rattle.rules.specs.State.{start_state}
use Rattle.amounts.specs.Amounts.{line_right}
use Rattle.judge.specs.Refusal.{Verdict}
use Rattle.judge.specs.Refusal as Judged
use Rattle.judge.specs.Flow.{records_of, judged}
use Rattle.rebalance.specs.Rebalance.{all_fit}
use Rattle.rebalance.specs.Weigh.{any_negative}
use Rattle.find.specs.Line.{line_of, found_in}
use Rattle.correct.specs.Answers.{Correction, Made, Refused}
use Rattle.correct.specs.Correction.{section_of, outcome_of, weighed, tried, correction_of}
use Rattle.correct.specs.Effect.{with_amounts}
use Rattle.correct.specs.WhenRefused.{HasLine, Large, Negative, Overflows, new_records, Tried22, Tried9, Tried14, Tried23, MayBeMade, Answers, AsFlow, NoLine, TooLarge, WrongLine, TurnsNegative, HasNoRoom, IsMade}
use Rattle.correct.proofs.Split.{line-found, has-line}
use Rattle.correct.proofs.Undone.{tried-debit, tried-credit, tried-wrong, tried-weighed}
use Rattle.correct.proofs.OwnNegative.{only-own-delega-negative}
use Rattle.correct.proofs.OwnOverflow.{only-these-can-overflow}
use Rattle.text.proofs.Tests.{untrue}

-- An amount that is not large has at most fifteen digits.
small : (v : ℕ) → (Large v → ⊥) → v ≤ 999_999_999_999_999
small v h = go (dec_lt 999_999_999_999_999 v)
  where
    go : Dec (999_999_999_999_999 < v) → v ≤ 999_999_999_999_999
    go (yes l) = absurd (h l)
    go (no l) = omega arith

-- A test that is not false holds.
holds : (b : Bool) → (b ≡ false → ⊥) → b ≡ true
holds true h = refl
holds false h = absurd (h refl)

-- The tests of the definition, all passed: those of the flow, 21, 22, 9, 14 and 23.
pub record Passed (f : List ℕ) (d subtype n x y : ℕ) : Type 0 where
  pub accepted : (judged f).verdict ≡ Judged.Accepted
  pub found : line_of f d subtype n ≡ 0 → ⊥
  pub debit-fits : x ≤ 999_999_999_999_999
  pub credit-fits : y ≤ 999_999_999_999_999
  pub right : line_right (section_of subtype) x y ≡ true
  pub not_negative : any_negative start_state (records_of (with_amounts f d subtype n x y)) ≡ false
  pub all-fits : all_fit start_state (records_of (with_amounts f d subtype n x y)) ≡ true

-- 14 is answered where a delega is negative, then 23 where not all fits.
module _ (t : List ℕ) where
  weighed-negative : any_negative start_state (records_of t) ≡ true → weighed t ≡ Refused 14 0 0
  unfolding weighed
  weighed-negative e = rw e

  weighed-made : any_negative start_state (records_of t) ≡ false → all_fit start_state (records_of t) ≡ true → weighed t ≡ Made
  unfolding weighed
  weighed-made e g = ap₂ outcome_of e g

  weighed-unfit : any_negative start_state (records_of t) ≡ false → all_fit start_state (records_of t) ≡ false → weighed t ≡ Refused 23 0 0
  unfolding weighed
  weighed-unfit e g = ap₂ outcome_of e g

module _ (f : List ℕ) (d subtype n x y : ℕ) where
  abbrev s : ℕ
  s = section_of subtype

  abbrev k : ℕ
  k = line_of f d subtype n

  abbrev answer : Correction
  answer = correction_of f d subtype n x y

  -- The flow's refusal is handed on.
  flow-is : {m r p : ℕ} → (judged f).verdict ≡ Judged.Refused m r p → answer ≡ Refused m r p
  unfolding correction_of found_in
  flow-is e = rw e

  -- An accepted flow.
  module _ (a : (judged f).verdict ≡ Judged.Accepted) where
    -- 21 is answered where there is none, and the other tests are tried where there is one.
    absent-is : k ≡ 0 → answer ≡ Refused 21 0 0
    unfolding correction_of found_in
    absent-is z = rw (a, eq-eqb k 0 z)

    tried-is : (k ≡ 0 → ⊥) → answer ≡ tried k s x y f
    unfolding correction_of found_in
    tried-is z = rw (a, ne_eqb k 0 z)

    -- The line is there.
    module _ (h : HasLine f d subtype n) where
      -- 14 and 23 are the tests of the definition.
      negative-is : (any_negative start_state (new_records f d subtype n x y) ≡ true) ↔ Negative d (new_records f d subtype n x y)
      negative-is = only-own-delega-negative f d subtype n a h x y

      positive-is : (Negative d (new_records f d subtype n x y) → ⊥) → any_negative start_state (new_records f d subtype n x y) ≡ false
      positive-is p = untrue _ (λ e. p (negative-is.0 e))

      overflow-is : any_negative start_state (new_records f d subtype n x y) ≡ false → (all_fit start_state (new_records f d subtype n x y) ≡ false) ↔ Overflows d s (new_records f d subtype n x y)
      overflow-is p = only-these-can-overflow f d subtype n a h x y p

      -- They are tried where the amounts fit and keep the line rule.
      pub weighed-is : x ≤ 999_999_999_999_999 → y ≤ 999_999_999_999_999 → line_right (section_of subtype) x y ≡ true → correction_of f d subtype n x y ≡ weighed (with_amounts f d subtype n x y)
      weighed-is i j r = tried-is (line-found f d subtype n a h) ∙ tried-weighed k s x y f i j r

  -- A correction that may be made has all tests of the definition passed, and is made.
  pub passed-of : MayBeMade f d subtype n x y → Passed f d subtype n x y
  passed-of m =
      let q = m.before.before in
      let u = q.before.before in
      let p = positive-is u.accepted u.line m.before.not_negative in
      record {
        accepted = u.accepted;
        found = line-found f d subtype n u.accepted u.line;
        debit-fits = small x q.before.debit-fits;
        credit-fits = small y q.before.credit-fits;
        right = q.right;
        not_negative = p;
        all-fits = holds _ (λ e. m.all-fits ((overflow-is u.accepted u.line p).0 e));
      }

  pub passed-made : Passed f d subtype n x y → answer ≡ Made
  passed-made m = weighed-is m.accepted (has-line f d subtype n m.accepted m.found) m.debit-fits m.credit-fits m.right ∙ weighed-made (with_amounts f d subtype n x y) m.not_negative m.all-fits

  -- Each way gives its answer.
  answer-of : {c : Correction} → Answers f d subtype n x y c → answer ≡ c
  answer-of (AsFlow e) = flow-is e
  answer-of (NoLine a h) = go (ℕ_discrete k 0)
    where
      go : Dec (k ≡ 0) → answer ≡ Refused 21 0 0
      go (yes z) = absent-is a z
      go (no z) = absurd (h (has-line f d subtype n a z))
  answer-of (TooLarge t (inl l)) = tried-is t.accepted (line-found f d subtype n t.accepted t.line) ∙ tried-debit k s x y f l
  answer-of (TooLarge t (inr l)) = tried-is t.accepted (line-found f d subtype n t.accepted t.line) ∙ go (dec_lt 999_999_999_999_999 x)
    where
      go : Dec (999_999_999_999_999 < x) → tried k s x y f ≡ Refused 22 0 0
      go (yes i) = tried-debit k s x y f i
      go (no i) = tried-credit k s x y f (omega arith) l
  answer-of (WrongLine t e) =
      tried-is t.before.accepted (line-found f d subtype n t.before.accepted t.before.line) ∙ tried-wrong k s x y f (small x t.debit-fits) (small y t.credit-fits) e
  answer-of (TurnsNegative t h) =
      let u = t.before.before in
      weighed-is u.accepted u.line (small x t.before.debit-fits) (small y t.before.credit-fits) t.right
      ∙ weighed-negative (with_amounts f d subtype n x y) ((negative-is u.accepted u.line).1 h)
  answer-of (HasNoRoom t o) =
      let q = t.before in
      let u = q.before.before in
      let p = positive-is u.accepted u.line t.not_negative in
      weighed-is u.accepted u.line (small x q.before.debit-fits) (small y q.before.credit-fits) q.right
      ∙ weighed-unfit (with_amounts f d subtype n x y) p ((overflow-is u.accepted u.line p).1 o)
  answer-of (IsMade m) = passed-made (passed-of m)

  -- One of the ways is taken.
  way : (c : Correction) × Answers f d subtype n x y c
  way = by-verdict (judged f).verdict refl
    where
      by-room : Tried23 f d subtype n x y → (b : Bool) → all_fit start_state (new_records f d subtype n x y) ≡ b → (c : Correction) × Answers f d subtype n x y c
      by-room t true e =
          let u = t.before.before.before in
          (Made, IsMade (record { before = t; all-fits = λ o. true≢false (sym e ∙ (overflow-is u.accepted u.line (positive-is u.accepted u.line t.not_negative)).1 o) }))
      by-room t false e =
          let u = t.before.before.before in
          (Refused 23 0 0, HasNoRoom t ((overflow-is u.accepted u.line (positive-is u.accepted u.line t.not_negative)).0 e))

      by_sign : Tried14 f d subtype n x y → (b : Bool) → any_negative start_state (new_records f d subtype n x y) ≡ b → (c : Correction) × Answers f d subtype n x y c
      by_sign t true e = let u = t.before.before in (Refused 14 0 0, TurnsNegative t ((negative-is u.accepted u.line).0 e))
      by_sign t false e =
          let u = t.before.before in
          by-room (record { before = t; not_negative = λ h. true≢false (sym ((negative-is u.accepted u.line).1 h) ∙ e) }) (all_fit start_state (new_records f d subtype n x y)) refl

      by-rule : Tried9 f d subtype n x y → (b : Bool) → line_right s x y ≡ b → (c : Correction) × Answers f d subtype n x y c
      by-rule t true e = by_sign (record { before = t; right = e }) (any_negative start_state (new_records f d subtype n x y)) refl
      by-rule t false e = (Refused 9 0 0, WrongLine t e)

      by_size : Tried22 f d subtype n → Dec (999_999_999_999_999 < x) → Dec (999_999_999_999_999 < y) → (c : Correction) × Answers f d subtype n x y c
      by_size t (yes l) j = (Refused 22 0 0, TooLarge t (inl l))
      by_size t (no i) (yes l) = (Refused 22 0 0, TooLarge t (inr l))
      by_size t (no i) (no j) = by-rule (record { before = t; debit-fits = i; credit-fits = j }) (line_right s x y) refl

      by-line : (judged f).verdict ≡ Judged.Accepted → Dec (k ≡ 0) → (c : Correction) × Answers f d subtype n x y c
      by-line a (yes z) = (Refused 21 0 0, NoLine a (λ h. line-found f d subtype n a h z))
      by-line a (no z) = by_size (record { accepted = a; line = has-line f d subtype n a z }) (dec_lt 999_999_999_999_999 x) (dec_lt 999_999_999_999_999 y)

      by-verdict : (v : Verdict) → (judged f).verdict ≡ v → (c : Correction) × Answers f d subtype n x y c
      by-verdict Judged.Accepted a = by-line a (ℕ_discrete k 0)
      by-verdict (Err why) e = (Refused why.number why.«record» why.position, AsFlow e)

  -- "Every call on a flow judges it first"; "A correction then tries 21, 22, 9, 14, 23 in this order": each is answered exactly when it should be.
  pub answered-exactly : (c : Correction) → (answer ≡ c) ↔ Answers f d subtype n x y c
  answered-exactly c = (λ e. rw (sym (answer-of way.1) ∙ e) at way.1, answer-of)
