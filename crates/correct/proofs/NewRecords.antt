-- The records of a flow with the line's amounts replaced are those of the flow, but for the line, whose debit and credit read as the new ones.
use Prim.Native.Nat.{ℕ, zero, suc, ◌+◌, ◌-◌, ◌≤◌}
use mathlib.Core.Path.{◌≡◌, refl, sym, ap, ◌∙◌}
use mathlib.Core.List.{List, [], ◌∷◌, ◌++◌}
use native.Mathlib.Omega.{arith}
use lib.ListN.{length, get_or, length-append}
use lib.Seq.{get_or_at}
use Rattle.text.specs.Numbers.{amount_of}
use Rattle.rules.specs.State.{start_state}
use Rattle.layout.specs.Fields.{value_of}
use Rattle.judge.specs.Refusal.{Accepted}
use Rattle.judge.specs.Flow.{records_of, judged}
use Rattle.judge.specs.Part.{record_at}
use Rattle.judge.specs.Plain.{Debit, Credit, column_of}
use Rattle.judge.proofs.Accepted.{accepted-means-no-fault}
use Rattle.judge.proofs.Records.{record-number}
use Rattle.find.specs.Line.{line_of}
use Rattle.find.specs.NamedLine.{NthLine}
use Rattle.find.proofs.NamedLine.{line-of-named}
use Rattle.correct.specs.Correction.{section_of}
use Rattle.correct.specs.Effect.{with_amounts}
use Rattle.correct.specs.WhenRefused.{new_records}
use Rattle.correct.proofs.Amended.{amended, debit-amended, credit-amended}
use Rattle.correct.proofs.Split.{Split, line-splits, line-found, length-here, within-table, records-replaced}

-- Lists that differ at one place are equal at any other.
elsewhere : (xs : List (List ℕ)) (a b : List ℕ) (ys : List (List ℕ)) (i : ℕ) → (i ≡ length xs → ⊥) → get_or (xs ++ (a ∷ ys)) i [] ≡ get_or (xs ++ (b ∷ ys)) i []
elsewhere [] a b ys zero h = absurd (h refl)
elsewhere [] a b ys (suc i) h = refl
elsewhere (x ∷ xs) a b ys zero h = refl
elsewhere (x ∷ xs) a b ys (suc i) h = elsewhere xs a b ys i (λ e. h (ap suc e))

-- An accepted flow of which record k is the line that is named.
module _ (f : List ℕ) (d subtype n k : ℕ) (a : (judged f).verdict ≡ Accepted) (h : NthLine f d subtype n k) (x y : ℕ) where
  abbrev s : ℕ
  s = section_of subtype

  abbrev p : Split d s start_state 0 (line_of f d subtype n) (records_of f)
  p = line-splits f d subtype n (line-found f d subtype n a (k, h))

  records : new_records f d subtype n x y ≡ p.before ++ (amended s x y p.here ∷ p.behind)
  records = records-replaced f (accepted-means-no-fault f a).whole.even p x y

  counted : k ≡ length p.before + 1
  counted = sym (line-of-named f d subtype n k a h) ∙ (p.counted ∙ omega arith)

  -- There are as many records.
  pub same_number : length (new_records f d subtype n x y) ≡ length (records_of f)
  same_number = omega (arith, simp length-append at (ap length records), simp length-append at (ap length p.split))

  -- Every other record is as it was.
  pub others-stay : (j : ℕ) → (j ≡ k → ⊥) → record_at (with_amounts f d subtype n x y) j ≡ record_at f j
  unfolding record_at
  others-stay zero e = refl
  others-stay (suc j) e =
      ap (λ (l : List (List ℕ)). get_or l j []) records
      ∙ (elsewhere p.before _ p.here p.behind j (λ i. e (omega (arith, counted))) ∙ ap (λ (l : List (List ℕ)). get_or l j []) (sym p.split))

  -- Record k is the line with the new amounts.
  line-is : record_at (with_amounts f d subtype n x y) k ≡ amended s x y p.here
  line-is =
      record-number (with_amounts f d subtype n x y) k h.counted
      ∙ (ap (λ (l : List (List ℕ)). get_or l (k - 1) []) records ∙ get_or_at p.before _ p.behind [] (k - 1) (omega (arith, counted)))

  -- Its debit and its credit read as the new ones, where they fit.
  pub new-debit : x ≤ 999_999_999_999_999 → value_of (record_at (with_amounts f d subtype n x y) k) (column_of Debit s) ≡ x
  new-debit i =
      let w = (accepted-means-no-fault f a).whole.even in
      ap (λ (r : List ℕ). value_of r (column_of Debit s)) line-is ∙ ap amount_of (debit-amended s (within-table f w p) p.here (length-here f w p) x y (omega arith))

  pub new-credit : y ≤ 999_999_999_999_999 → value_of (record_at (with_amounts f d subtype n x y) k) (column_of Credit s) ≡ y
  new-credit i =
      let w = (accepted-means-no-fault f a).whole.even in
      ap (λ (r : List ℕ). value_of r (column_of Credit s)) line-is ∙ ap amount_of (credit-amended s (within-table f w p) p.here (length-here f w p) x y (omega arith))
