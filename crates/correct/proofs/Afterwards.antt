-- After a correction that is made every line is where it was and that line has the new amounts; the same call again leaves every byte, and one back to the old amounts restores the old flow.
use Prim.Native.Nat.{ℕ, ◌%◌}
use mathlib.Core.Path.{◌≡◌, sym, ap, ◌∙◌}
use mathlib.Core.List.{List}
use native.Mathlib.Omega.{arith}
use lib.ListN.{length}
use Rattle.text.specs.Numbers.{amount_of}
use Rattle.rules.specs.State.{start_state}
use Rattle.judge.specs.declared.Judgement.{Judgement}
use Rattle.judge.specs.Flow.{records_of, head_name_of}
use Rattle.judge.specs.Plain.{Whole}
use Rattle.rebalance.specs.Rebalance.{all_fit, refreshed}
use Rattle.rebalance.specs.Weigh.{any_negative}
use Rattle.rebalance.proofs.Rebalanced.{mendable-fits}
use Rattle.rebalance.proofs.Weighed.{mendable-positive}
use Rattle.rebalance.proofs.Judged.{accepted-untouched, accepted-mends}
use Rattle.find.specs.Line.{line_of}
use Rattle.correct.specs.Answers.{Made}
use Rattle.correct.specs.Correction.{section_of, correction_of, corrected_bytes}
use Rattle.correct.specs.Effect.{with_amounts, debit_of, credit_of}
use Rattle.correct.proofs.Amended.{debit-amended, credit-amended}
use Rattle.correct.proofs.Split.{line-splits, length-here, within-table}
use Rattle.correct.proofs.Answered.{Passed}
use Rattle.correct.proofs.Conditions.{made-passed, made_bytes}
use Rattle.correct.proofs.StaysAccepted.{accepted-whole, amounts-whole, refreshed-accepted, corrected-accepted}
use Rattle.correct.proofs.LikeFlows.{refreshed-line, refreshed-named, refreshed-again, refreshed-negative, refreshed-fits}
use Rattle.correct.proofs.TwoLines.{amounts-line, amounts-named, amounts-again}
use Rattle.correct.proofs.SameAmounts.{Own, own, own-flow, same-amounts}

-- A correction that may be made, and the flow that it leaves.
module _ (f : List ℕ) (d subtype n x y : ℕ) (m : Passed f d subtype n x y) where
  -- The flow is of whole records, and so it is with the line's amounts replaced.
  abbrev w : Whole f
  w = accepted-whole f m.accepted

  abbrev t : List ℕ
  t = with_amounts f d subtype n x y

  abbrev wt : length t % 120 ≡ 0
  wt = (amounts-whole f d subtype n x y m).even

  -- The line is there as it was.
  there : line_of (with_amounts f d subtype n x y) d subtype n ≡ 0 → ⊥
  there z = m.found (sym (amounts-line f w.even d subtype n m.found x y d subtype n) ∙ z)

  -- The old amounts.
  abbrev u : ℕ
  u = debit_of f d subtype n

  abbrev v : ℕ
  v = credit_of f d subtype n

  abbrev mine : Own (section_of subtype) u v (line-splits f d subtype n m.found).here
  mine = own f d subtype n m.accepted m.found

  -- They replaced, it is the flow as it was.
  restored : with_amounts (with_amounts f d subtype n x y) d subtype n (debit_of f d subtype n) (credit_of f d subtype n) ≡ f
  restored = amounts-again f w.even d subtype n m.found x y u v ∙ own-flow f d subtype n m.accepted m.found

  -- The old amounts may be put back.
  back-may : Passed (refreshed (with_amounts f d subtype n x y)) d subtype n (debit_of f d subtype n) (credit_of f d subtype n)
  back-may =
      record {
        accepted = ap (λ (j : Judgement). j.verdict) (refreshed-accepted f d subtype n x y m);
        found = λ z. there (sym (refreshed-line t wt d subtype n) ∙ z);
        debit-fits = mine.debit-fits;
        credit-fits = mine.credit-fits;
        right = mine.right;
        not_negative =
            refreshed-negative t wt d subtype n there u v
            ∙ (ap (λ (l : List ℕ). any_negative start_state (records_of l)) restored ∙ mendable-positive (head_name_of f) start_state (records_of f) (accepted-mends f m.accepted));
        all-fits =
            refreshed-fits t wt d subtype n there u v
            ∙ (ap (λ (l : List ℕ). all_fit start_state (records_of l)) restored ∙ mendable-fits (head_name_of f) start_state (records_of f) (accepted-mends f m.accepted));
      }

  -- That restores the flow.
  back-flow : refreshed (with_amounts (refreshed (with_amounts f d subtype n x y)) d subtype n (debit_of f d subtype n) (credit_of f d subtype n)) ≡ f
  unfolding refreshed
  back-flow = refreshed-again t wt d subtype n there u v ∙ (ap refreshed restored ∙ accepted-untouched f m.accepted)

  -- The record that is named there is the line with its new amounts.
  new-amounts : (debit_of (refreshed (with_amounts f d subtype n x y)) d subtype n ≡ x) × (credit_of (refreshed (with_amounts f d subtype n x y)) d subtype n ≡ y)
  new-amounts =
      let p = line-splits f d subtype n m.found in
      let i = within-table f w.even p in
      let l = length-here f w.even p in
      rw (refreshed-named t wt d subtype n there, amounts-named f w.even d subtype n m.found x y) (
        ap amount_of (debit-amended (section_of subtype) i p.here l x y (omega (arith, m.debit-fits))),
        ap amount_of (credit-amended (section_of subtype) i p.here l x y (omega (arith, m.credit-fits))),
      )

-- After a correction that is made the line that is named has the new amounts.
pub corrected-amounts : (f : List ℕ) (d subtype n x y : ℕ) → correction_of f d subtype n x y ≡ Made →
    (debit_of (corrected_bytes f d subtype n x y) d subtype n ≡ x) × (credit_of (corrected_bytes f d subtype n x y) d subtype n ≡ y)
corrected-amounts f d subtype n x y made = rw (made_bytes f d subtype n x y made) (new-amounts f d subtype n x y ((made-passed f d subtype n x y).0 made))

-- After a correction that is made, one back to the old amounts is made, and restores every byte.
pub correct-back : (f : List ℕ) (d subtype n x y : ℕ) → correction_of f d subtype n x y ≡ Made →
    (correction_of (corrected_bytes f d subtype n x y) d subtype n (debit_of f d subtype n) (credit_of f d subtype n) ≡ Made)
    × (corrected_bytes (corrected_bytes f d subtype n x y) d subtype n (debit_of f d subtype n) (credit_of f d subtype n) ≡ f)
correct-back f d subtype n x y made =
    let m = (made-passed f d subtype n x y).0 made in
    let again = (made-passed (refreshed (with_amounts f d subtype n x y)) d subtype n (debit_of f d subtype n) (credit_of f d subtype n)).1 (back-may f d subtype n x y m) in
    rw (made_bytes f d subtype n x y made) (again, made_bytes _ d subtype n _ _ again ∙ back-flow f d subtype n x y m)

-- A correction that is made leaves every line where it was.
pub corrected-line : (f : List ℕ) (d subtype n x y : ℕ) → correction_of f d subtype n x y ≡ Made → (e t m : ℕ) → line_of (corrected_bytes f d subtype n x y) e t m ≡ line_of f e t m
corrected-line f d subtype n x y made e t m =
    let p = (made-passed f d subtype n x y).0 made in
    rw (made_bytes f d subtype n x y made) (refreshed-line (with_amounts f d subtype n x y) (amounts-whole f d subtype n x y p).even e t m ∙ amounts-line f (accepted-whole f p.accepted).even d subtype n p.found x y e t m)

-- The same call once more is made, and leaves every byte.
pub correct-again : (f : List ℕ) (d subtype n x y : ℕ) → correction_of f d subtype n x y ≡ Made →
    (correction_of (corrected_bytes f d subtype n x y) d subtype n x y ≡ Made) × (corrected_bytes (corrected_bytes f d subtype n x y) d subtype n x y ≡ corrected_bytes f d subtype n x y)
correct-again f d subtype n x y made =
    let p = (made-passed f d subtype n x y).0 made in
    let a = ap (λ (j : Judgement). j.verdict) (corrected-accepted f d subtype n x y made) in
    let v = corrected-amounts f d subtype n x y made in
    rw (v.0, v.1) at (same-amounts (corrected_bytes f d subtype n x y) d subtype n a (λ z. p.found (sym (corrected-line f d subtype n x y made d subtype n) ∙ z)))
