-- A correction to a line's own amounts is made, and leaves every byte.
use Prim.Native.Nat.{ℕ, ◌+◌, ◌-◌, ◌≤◌}
use mathlib.Core.Path.{◌≡◌, sym, ap, ◌∙◌}
use mathlib.Core.Bool.{true}
use mathlib.Core.List.{List, [], ◌∷◌, ◌++◌}
use native.Mathlib.Omega.{arith}
use lib.ListN.{length, drop, length-drop}
use lib.Seq.{length-take-le}
use Rattle.text.proofs.Numerals.{number-below}
use Rattle.layout.specs.Sections.{section_at}
use Rattle.layout.specs.Fields.{amount_at, bytes_of, value_of}
use Rattle.layout.proofs.Table.{row-rule}
use Rattle.rules.specs.declared.State.{State}
use Rattle.rules.specs.State.{start_state}
use Rattle.amounts.specs.Amounts.{line_right}
use Rattle.rules.specs.Step.{next}
use Rattle.judge.specs.Refusal.{Accepted}
use Rattle.judge.specs.Flow.{records_of, head_name_of, judged}
use Rattle.judge.specs.Plain.{Whole, state_after}
use Rattle.rebalance.specs.Rebalance.{flat, Mendable, refreshed}
use Rattle.rebalance.proofs.Rebalanced.{mendable-fits}
use Rattle.rebalance.proofs.Weighed.{mendable-positive}
use Rattle.rebalance.proofs.Judged.{flat-records, accepted-untouched, accepted-mends}
use Rattle.find.specs.Line.{line_of}
use Rattle.correct.specs.Answers.{Made}
use Rattle.correct.specs.Correction.{section_of, correction_of, corrected_bytes}
use Rattle.correct.specs.Effect.{with_amounts, debit_of, credit_of}
use Rattle.correct.proofs.Amended.{amended, amended-own}
use Rattle.correct.proofs.Mended.{kept-readable}
use Rattle.correct.proofs.Split.{Split, line-splits, named_here, length-here, within-table, replaced-flat}
use Rattle.correct.proofs.Conditions.{made-passed, made_bytes}
use Rattle.correct.proofs.StaysAccepted.{accepted-whole}

-- Records behind others are mended after the state that these lead to.
mendable-behind : (name : List ℕ) (st : State) (xs ys : List (List ℕ)) → Mendable name st (xs ++ ys) → Mendable name (state_after st xs) ys
unfolding state_after
mendable-behind name st [] ys m = m
mendable-behind name st (x ∷ xs) ys m = mendable-behind name (next st x) xs ys m.3

-- An amount within a record has fifteen digits.
amount-small : (r : List ℕ) (c : ℕ) → length r ≡ 120 → c + 15 ≤ 120 → value_of r (amount_at c) ≤ 999_999_999_999_999
amount-small r c l h =
    let e : c + 15 - c ≡ 15 = omega arith in
    omega (arith, number-below 15 (bytes_of r (amount_at c)) (length-take-le (c + 15 - c) (drop c r) (rw length-drop (omega arith)) ∙ e))

-- Amounts of a line: they have fifteen digits, keep the line rule, and leave its record.
pub record Own (s u v : ℕ) (r : List ℕ) : Type 0 where
  pub debit-fits : u ≤ 999_999_999_999_999
  pub credit-fits : v ≤ 999_999_999_999_999
  pub right : line_right s u v ≡ true
  pub same : amended s u v r ≡ r

-- An accepted flow in which the line is found.
module _ (f : List ℕ) (d subtype n : ℕ) (a : (judged f).verdict ≡ Accepted) (h : line_of f d subtype n ≡ 0 → ⊥) where
  -- The line's section, its place among the records, and that these are whole.
  abbrev s : ℕ
  s = section_of subtype

  abbrev p : Split d s start_state 0 (line_of f d subtype n) (records_of f)
  p = line-splits f d subtype n h

  abbrev w : Whole f
  w = accepted-whole f a

  -- Its debit and credit are amounts of the line.
  pub own : Own s (debit_of f d subtype n) (credit_of f d subtype n) p.here
  own =
      let l = length-here f w.even p in
      let i = within-table f w.even p in
      let m = mendable-behind (head_name_of f) start_state p.before (p.here ∷ p.behind) (rw p.split at (accepted-mends f a)) in
      let k = kept-readable (head_name_of f) (state_after start_state p.before) p.here l s p.kind m.1 in
      rw (named_here f d subtype n h)
      (record {
        debit-fits = amount-small p.here (section_at s).debit l (omega (arith, row-rule s i));
        credit-fits = amount-small p.here (section_at s).credit l (omega (arith, row-rule s i));
        right = k.right;
        same = amended-own s i p.here l k.debit k.credit;
      })

  -- They leave the flow.
  pub own-flow : with_amounts f d subtype n (debit_of f d subtype n) (credit_of f d subtype n) ≡ f
  own-flow = replaced-flat f w.even p _ _ ∙ (ap (λ (r : List ℕ). flat (p.before ++ (r ∷ p.behind))) own.same ∙ (ap flat (sym p.split) ∙ flat-records f w.even))

  -- A correction to a line's own amounts is made, and leaves every byte.
  pub same-amounts : (correction_of f d subtype n (debit_of f d subtype n) (credit_of f d subtype n) ≡ Made) × (corrected_bytes f d subtype n (debit_of f d subtype n) (credit_of f d subtype n) ≡ f)
  unfolding refreshed
  same-amounts = (made, made_bytes f d subtype n (debit_of f d subtype n) (credit_of f d subtype n) made ∙ (ap refreshed own-flow ∙ accepted-untouched f a))
    where
      made : correction_of f d subtype n (debit_of f d subtype n) (credit_of f d subtype n) ≡ Made
      made =
          (made-passed f d subtype n _ _).1
          (record {
            accepted = a;
            found = h;
            debit-fits = own.debit-fits;
            credit-fits = own.credit-fits;
            right = own.right;
            not_negative = rw own-flow (mendable-positive (head_name_of f) start_state (records_of f) (accepted-mends f a));
            all-fits = rw own-flow (mendable-fits (head_name_of f) start_state (records_of f) (accepted-mends f a));
          })
