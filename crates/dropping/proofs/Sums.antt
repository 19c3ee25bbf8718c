-- "The sum of final balances before equals that after plus those dropped, and so for each section's sums"; and so for the lines.
use Prim.Native.Nat.{ℕ, ◌+◌, ◌<◌}
use mathlib.Core.Path.{◌≡◌, refl, sym, ap, ap₂, ◌∙◌}
use mathlib.Core.Bool.{Bool, true, false, cond, false≢true}
use mathlib.Core.List.{List}
use native.Mathlib.Omega.{arith}
use lib.Dec.{eqb, lit≤}
use lib.ListN.{get_or}
use Rattle.layout.specs.declared.Kind.{Kind}
use Rattle.layout.specs.declared.Kind.TheVariants.{Head, Taxpayer, Domicile, Line, Balance, Payment, Receipt, Addressee, Tail, Unknown}
use Rattle.layout.specs.Kinds.{of_line, of_payment, kind_in, numbered}
use Rattle.layout.specs.Fields.{final_balance, value_of}
use Rattle.layout.proofs.Table.{row-rule}
use Rattle.rules.specs.State.{no_sums}
use Rattle.judge.specs.Flow.{records_of, judged}
use Rattle.judge.specs.Plain.{sum_over, Side, Debit, Credit, side_of, column_of}
use Rattle.judge.proofs.Counts.{accepted-lines}
use Rattle.judge.proofs.PlainSums.{accepted-section-sums, accepted-total-finals}
use Rattle.delega.specs.OneDelega.{delega_of}
use Rattle.delega.specs.PlainDelega.{of_delega, section_of, finals_of, line_count_of}
use Rattle.delega.proofs.PlainAnswer.{delega-balance, delega-section-sums}
use Rattle.delega.proofs.SectionsUsed.{delega-lines}
use Rattle.dropping.specs.Dropping.{shortened}
use Rattle.dropping.specs.Inner.{Droppable}
use Rattle.dropping.specs.Effect.{Stayed, sum_for}
use Rattle.dropping.proofs.Stayed.{stayed-kind, stayed-value}
use Rattle.dropping.proofs.Parts.{sum_same, stays-or-goes, goes-by-delega, stayed-sum}
use Rattle.dropping.proofs.Shortened.{shortened-accepted, shortened-stayed}

-- A record that is neither a line nor a 50-01 counts nothing; both carry a number.
pub line-numbered : (k : Kind) (f : ℕ → ℕ) → numbered k ≡ false → of_line 0 f k ≡ 0
unfolding numbered
line-numbered Head f n = refl
line-numbered Taxpayer f n = refl
line-numbered Domicile f n = refl
line-numbered (Line s) f n = absurd (false≢true (sym n))
line-numbered (Balance s) f n = refl
line-numbered Payment f n = refl
line-numbered Receipt f n = refl
line-numbered Addressee f n = refl
line-numbered Tail f n = refl
line-numbered Unknown f n = refl

pub payment-numbered : (k : Kind) (m : ℕ) → numbered k ≡ false → of_payment 0 m k ≡ 0
unfolding numbered
payment-numbered Head m n = refl
payment-numbered Taxpayer m n = refl
payment-numbered Domicile m n = refl
payment-numbered (Line s) m n = refl
payment-numbered (Balance s) m n = refl
payment-numbered Payment m n = absurd (false≢true (sym n))
payment-numbered Receipt m n = refl
payment-numbered Addressee m n = refl
payment-numbered Tail m n = refl
payment-numbered Unknown m n = refl

-- What a record adds to a section's sums, and to the final balances.
abbrev pub in_section : Side → ℕ → List ℕ → ℕ
in_section x i r = of_line 0 (λ s. cond (eqb s i) (value_of r (column_of x i)) 0) (kind_in r)

abbrev pub in_finals : List ℕ → ℕ
in_finals r = of_payment 0 (value_of r final_balance) (kind_in r)

abbrev pub in_lines : List ℕ → ℕ
in_lines r = of_line 0 (λ s. 1) (kind_in r)

-- A record that stayed adds the same.
module _ (numbers r q : List ℕ) (s : Stayed numbers r q) where
  -- What holds where it carries a number and where it carries none holds.
  by-numbered : (f g : ℕ) → (numbered (kind_in r) ≡ true → f ≡ g) → (numbered (kind_in r) ≡ false → f ≡ g) → f ≡ g
  by-numbered f g a b = go (numbered (kind_in r)) a b
    where
      go : (t : Bool) → (t ≡ true → f ≡ g) → (t ≡ false → f ≡ g) → f ≡ g
      go true a b = a refl
      go false a b = b refl

  pub stayed-lines : in_lines q ≡ in_lines r
  stayed-lines = ap (of_line 0 (λ i. 1)) (stayed-kind s)

  pub stayed-finals : in_finals q ≡ in_finals r
  stayed-finals =
      ap (of_payment 0 (value_of q final_balance)) (stayed-kind s)
      ∙ by-numbered _ _ (λ n. ap (λ (v : ℕ). of_payment 0 v (kind_in r)) (stayed-value s n final_balance (lit≤ tt) (lit≤ tt) (lit≤ tt))) (λ n. payment-numbered (kind_in r) _ n ∙ sym (payment-numbered (kind_in r) _ n))

  stayed-column : (x : Side) (i : ℕ) → i < 5 → numbered (kind_in r) ≡ true → value_of q (column_of x i) ≡ value_of r (column_of x i)
  stayed-column Debit i h n = stayed-value s n (column_of Debit i) (omega (arith, row-rule i h)) (omega arith) (omega (arith, row-rule i h))
  stayed-column Credit i h n = stayed-value s n (column_of Credit i) (omega (arith, row-rule i h)) (omega arith) (omega (arith, row-rule i h))

  pub stayed-section : (x : Side) (i : ℕ) → i < 5 → in_section x i q ≡ in_section x i r
  stayed-section x i h =
      ap (of_line 0 (λ k. cond (eqb k i) (value_of q (column_of x i)) 0)) (stayed-kind s)
      ∙ by-numbered _ _ (λ n. ap (λ (v : ℕ). of_line 0 (λ k. cond (eqb k i) v 0) (kind_in r)) (stayed-column x i h n)) (λ n. line-numbered (kind_in r) _ n ∙ sym (line-numbered (kind_in r) _ n))

-- A flow from which deleghe may be dropped.
module _ (f numbers : List ℕ) (m : Droppable f numbers) where
  abbrev g : List ℕ
  g = shortened f numbers

  -- A number of each record, added up: before it is what it is after and what is dropped, where a record that stayed counts the same and one without a number nothing.
  before-after : (h : List ℕ → ℕ) → ((r q : List ℕ) → Stayed numbers r q → h q ≡ h r) → ((r : List ℕ) → numbered (kind_in r) ≡ false → h r ≡ 0) →
      sum_over h (records_of f) ≡ sum_over h (records_of (shortened f numbers)) + sum_for (λ d. sum_over (λ r. of_delega d r (h r)) (records_of f)) numbers
  before-after h same none =
      stays-or-goes numbers h (records_of f)
      ∙ ap₂ ◌+◌ (sym (stayed-sum numbers h same _ _ (shortened-stayed f numbers m))) (goes-by-delega _ numbers m.once h none (records_of f))

  -- The sum of final balances.
  pub total-before : (judged f).summary.total ≡ (judged (shortened f numbers)).summary.total + sum_for (λ d. (delega_of f d).balance) numbers
  total-before =
      accepted-total-finals f m.accepted
      ∙ (before-after in_finals (stayed-finals numbers) (λ r n. payment-numbered (kind_in r) _ n)
      ∙ ap₂ ◌+◌ (sym (accepted-total-finals g (shortened-accepted f numbers m))) (sum_same _ numbers m.once (λ d. finals_of d (records_of f)) _ (λ d lo hi. sym (delega-balance f d m.accepted lo hi))))

  -- Each section's debits and credits.
  pub section-before : (x : Side) (i : ℕ) → i < 5 → side_of x (get_or (judged f).summary.sums i no_sums) ≡ side_of x (get_or (judged (shortened f numbers)).summary.sums i no_sums) + sum_for (λ d. side_of x (get_or (delega_of f d).sums i no_sums)) numbers
  section-before x i h =
      accepted-section-sums f m.accepted x i h
      ∙ (before-after (in_section x i) (λ r q s. stayed-section numbers r q s x i h) (λ r n. line-numbered (kind_in r) _ n)
      ∙ ap₂ ◌+◌ (sym (accepted-section-sums g (shortened-accepted f numbers m) x i h)) (sum_same _ numbers m.once (λ d. section_of d x i (records_of f)) _ (λ d lo hi. sym (delega-section-sums f d m.accepted lo hi x i h))))

  -- The lines.
  pub lines-before : (judged f).summary.lines ≡ (judged (shortened f numbers)).summary.lines + sum_for (λ d. (delega_of f d).lines) numbers
  lines-before =
      accepted-lines f m.accepted
      ∙ (before-after in_lines (stayed-lines numbers) (λ r n. line-numbered (kind_in r) _ n)
      ∙ ap₂ ◌+◌ (sym (accepted-lines g (shortened-accepted f numbers m))) (sum_same _ numbers m.once (λ d. line_count_of d (records_of f)) _ (λ d lo hi. sym (delega-lines f d m.accepted lo hi))))
