-- A flow before deleghe are dropped and after: which bytes differ, and what the counts and sums come to.
use Prim.Native.Nat.{ℕ, ◌+◌, ◌<◌, ◌≤◌}
use mathlib.Core.Path.{◌≡◌}
use mathlib.Core.Bool.{false}
use mathlib.Core.List.{List}
use lib.ListN.{length, take, get_or}
use Rattle.text.specs.Among.{among}
use Rattle.text.proofs.Tests.{untrue}
use Rattle.rules.specs.State.{no_sums}
use Rattle.judge.specs.Flow.{records_of, judged}
use Rattle.judge.specs.Plain.{Side, side_of}
use Rattle.delega.specs.OneDelega.{delega_of}
use Rattle.close.specs.Closing.{kept_of, left_of}
use Rattle.dropping.specs.Answers.{Dropped}
use Rattle.dropping.specs.Dropping.{dropping_of, dropped_flow}
use Rattle.dropping.specs.Inner.{Droppable}
use Rattle.dropping.specs.Effect.{EachStayed, records_with, sum_for, record_count_of}
use Rattle.dropping.specs.WhenRefused.{Names}
use Rattle.dropping.proofs.Answered.{among-names, droppable}
use Rattle.dropping.proofs.Dropped.{dropped-room}
use Rattle.dropping.proofs.Shortened.{shortened-stayed}
use Rattle.dropping.proofs.Sums.{total-before, section-before, lines-before}
use Rattle.dropping.proofs.Numbers.{deleghe-before, records-before}
use Rattle.dropping.proofs.KeptDeleghe.{records-kept, balance-kept, lines-kept, section-kept, set-kept, size-kept}

module _ (f numbers : List ℕ) {n : ℕ} (e : dropping_of f numbers ≡ Dropped n) where
  may : Droppable f numbers
  may = (droppable f numbers e).0

  -- "Kept deleghe differ only in their number", and the tail in its counts and its sum.
  pub kept-differ : EachStayed numbers (kept_of numbers (records_of f)) (records_of (take n (dropped_flow f numbers)))
  kept-differ = rw (dropped-room f numbers e).0 (shortened-stayed f numbers may)

  -- "The sum of final balances before equals that after plus those dropped"
  pub total-dropped : (judged f).summary.total ≡ (judged (take n (dropped_flow f numbers))).summary.total + sum_for (λ d. (delega_of f d).balance) numbers
  total-dropped = rw (dropped-room f numbers e).0 (total-before f numbers may)

  -- "and so for each section's sums"
  pub sections-dropped : (x : Side) (i : ℕ) → i < 5 →
      side_of x (get_or (judged f).summary.sums i no_sums) ≡ side_of x (get_or (judged (take n (dropped_flow f numbers))).summary.sums i no_sums) + sum_for (λ d. side_of x (get_or (delega_of f d).sums i no_sums)) numbers
  sections-dropped x i h = rw (dropped-room f numbers e).0 (section-before f numbers may x i h)

  -- So for the lines, the records and the deleghe.
  pub lines_dropped : (judged f).summary.lines ≡ (judged (take n (dropped_flow f numbers))).summary.lines + sum_for (λ d. (delega_of f d).lines) numbers
  lines_dropped = rw (dropped-room f numbers e).0 (lines-before f numbers may)

  pub records-dropped : (judged f).summary.records ≡ (judged (take n (dropped_flow f numbers))).summary.records + sum_for (λ d. record_count_of d (records_of f)) numbers
  records-dropped = rw (dropped-room f numbers e).0 (records-before f numbers may)

  pub deleghe-dropped : (judged f).summary.deleghe ≡ (judged (take n (dropped_flow f numbers))).summary.deleghe + length numbers
  deleghe-dropped = rw (dropped-room f numbers e).0 (deleghe-before f numbers may)

  -- A delega of the flow that the list does not name.
  module _ (d : ℕ) (lo : 1 ≤ d) (hi : d ≤ (judged f).summary.deleghe) (unnamed : Names d numbers → ⊥) where
    apart : among d numbers ≡ false
    apart = untrue (among d numbers) (λ i. unnamed (among-names d numbers i))

    -- Its records are there in their order, each as it was but for its number, and no other carries that.
    pub delega-kept : EachStayed numbers (records_with d (records_of f)) (records_with (left_of numbers d) (records_of (take n (dropped_flow f numbers))))
    delega-kept = rw (dropped-room f numbers e).0 (records-kept f numbers may d lo hi apart)

    -- What is answered for it is what it was: its final balance, its lines, the set of its sections, the size of that, and its section sums.
    pub delega-same : ((delega_of (take n (dropped_flow f numbers)) (left_of numbers d)).balance ≡ (delega_of f d).balance) × ((delega_of (take n (dropped_flow f numbers)) (left_of numbers d)).lines ≡ (delega_of f d).lines)
        × ((delega_of (take n (dropped_flow f numbers)) (left_of numbers d)).set ≡ (delega_of f d).set) × ((delega_of (take n (dropped_flow f numbers)) (left_of numbers d)).size ≡ (delega_of f d).size)
        × ((x : Side) (i : ℕ) → i < 5 → side_of x (get_or (delega_of (take n (dropped_flow f numbers)) (left_of numbers d)).sums i no_sums) ≡ side_of x (get_or (delega_of f d).sums i no_sums))
    delega-same =
        rw (dropped-room f numbers e).0
        (balance-kept f numbers may d lo hi apart, lines-kept f numbers may d lo hi apart, set-kept f numbers may d lo hi apart, size-kept f numbers may d lo hi apart, section-kept f numbers may d lo hi apart)
