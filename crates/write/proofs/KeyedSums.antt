-- The summary of a flow written from a sheet: the sheet's count of deleghe, a record for each that is written, a line for each that is keyed, and the sums of the lines as they are keyed.
use Prim.Native.Nat.{ℕ, ◌+◌, ◌-◌, ◌≤◌, ◌<◌}
use mathlib.Core.Path.{◌≡◌, refl, ap, ap₂, ◌∙◌}
use mathlib.Core.Bool.{cond}
use mathlib.Core.List.{List, [], ◌∷◌}
use native.Mathlib.Omega.{arith}
use lib.Dec.{eqb}
use lib.ListN.{length, take, get_or}
use Rattle.text.specs.Numbers.{number_of, amount_of, digits_of}
use Rattle.text.specs.Placing.{put_at}
use Rattle.text.proofs.Numerals.{length_digits}
use Rattle.text.proofs.Puts.{put-after}
use Rattle.layout.specs.declared.Kind.{Kind}
use Rattle.layout.specs.declared.Kind.TheVariants.{Line}
use Rattle.layout.specs.Kinds.{of_line, kind_in, numbered}
use Rattle.layout.specs.Fields.{value_of}
use Rattle.layout.proofs.Table.{row-rule}
use Rattle.rules.specs.declared.State.{State}
use Rattle.rules.specs.State.{no_sums, start_state}
use Rattle.rules.specs.Stored.{stored_of}
use Rattle.rules.specs.Step.{next}
use Rattle.judge.specs.declared.Judgement.{Judgement}
use Rattle.judge.specs.Flow.{records_of, judged}
use Rattle.judge.specs.Plain.{sum_over, Side, Debit, Credit, side_of, column_of, lines_in}
use Rattle.judge.proofs.Counts.{seen-after, accepted-lines}
use Rattle.judge.proofs.PlainSums.{accepted-section-sums, accepted-total-lines}
use Rattle.rebalance.specs.Rebalance.{put_all, emit, rebalanced}
use Rattle.rebalance.proofs.Emit.{emit-kind, emit-plain}
use Rattle.sheet.specs.Sheet.{Entry, entry}
use Rattle.rebalance.specs.Numbering.{with_number}
use Rattle.sheet.specs.Filled.{with_name, filled, filled_all}
use Rattle.sheet.specs.Contents as In
use Rattle.sheet.specs.Contents.{Slot, All, Entered, count_in}
use Rattle.sheet.proofs.FilledRecords.{length-filled}
use Rattle.write.specs.Answers.{Written}
use Rattle.write.specs.Writing.{name_in, writing_of, flow_of}
use Rattle.write.specs.WhenRefused.{entries_in, NoEntryFault, MayBeWritten}
use Rattle.write.specs.Effect.{keyed_over, keyed_in, keyed_all, keyed_lines}
use Rattle.write.proofs.Refusals.{written-exactly}
use Rattle.write.proofs.Mended.{passes-kind, deleghe-after}
use Rattle.write.proofs.WrittenFlow.{length-filled-all, entries-in, name-length, records-written, flow-judged, written-accepted}

-- The amounts of a line stand behind its delega number.
behind-number : (x : Side) (i : ℕ) → i < 5 → 10 ≤ (column_of x i).start
behind-number Debit i h = omega (arith, (row-rule i h).0)
behind-number Credit i h = omega (arith, (row-rule i h).0, (row-rule i h).1.0)

-- In a line the delega number alone is filled.
line-filled : (name : List ℕ) (s d : ℕ) (r : List ℕ) → filled name (entry (Line s) d r) ≡ put_at 3 (digits_of 7 d) r
unfolding filled with_name with_number numbered put_all
line-filled name s d r = refl

-- What is filled in a line leaves its amounts.
line-amount : (x : Side) (i : ℕ) → i < 5 → (name : List ℕ) (s d : ℕ) (r : List ℕ) → length r ≡ 120 → value_of (filled name (entry (Line s) d r)) (column_of x i) ≡ value_of r (column_of x i)
line-amount x i h name s d r l =
    let k = length_digits 7 d in
    let w = (column_of x i).end - (column_of x i).start in
    ap (λ (t : List ℕ). value_of t (column_of x i)) (line-filled name s d r)
    ∙ ap (λ (t : List ℕ). amount_of (number_of (take w t))) (put-after 3 (digits_of 7 d) r (omega arith) (column_of x i).start (omega (arith, behind-number x i h)))

-- A name of 20 characters, and a number of each line that does not look at what is filled.
module _ (name : List ℕ) (n : length name ≡ 20) (f : ℕ → List ℕ → ℕ) (same : (s d : ℕ) (r : List ℕ) → s < 5 → length r ≡ 120 → f s (filled name (entry (Line s) d r)) ≡ f s r) where
  -- The number of a record of kind k.
  abbrev of : List ℕ → Kind → ℕ
  of r k = of_line 0 (λ s. f s r) k

  -- A written record has the number of the keyed one.
  record-number : {k : Kind} → Slot k → (st : State) (d : ℕ) (r : List ℕ) → length r ≡ 120 → kind_in (filled name (entry k d r)) ≡ k → of (emit st (filled name (entry k d r))) k ≡ of r k
  record-number In.head st d r l e = refl
  record-number In.taxpayer st d r l e = refl
  record-number In.domicile st d r l e = refl
  record-number (In.line s g) st d r l e = let p : stored_of st (kind_in (filled name (entry (Line s) d r))) ≡ [] = rw e in ap (f s) (emit-plain st (filled name (entry (Line s) d r)) p) ∙ same s d r g l
  record-number (In.balance s g) st d r l e = refl
  record-number In.payment st d r l e = refl
  record-number In.tail st d r l e = refl

  -- So it is with all records.
  records-number : (st : State) (es : List Entry) → All Entered es → NoEntryFault name st es → sum_over (λ r. of r (kind_in r)) (rebalanced st (filled_all name es)) ≡ keyed_over f es
  unfolding sum_over rebalanced filled_all keyed_over
  records-number st [] a p = refl
  records-number st (e ∷ es) a p =
      let r = filled name e in
      let k = passes-kind name st e a.0 p.0 in
      ap₂ ◌+◌ (ap (of (emit st r)) (emit-kind st r (length-filled name n e a.0) ∙ k) ∙ record-number a.0.in-slot st e.delega e.bytes a.0.sized k) (records-number (next st r) es a.1 p.1)

-- A flow that is written.
module _ (sheet room : List ℕ) (n : ℕ) (e : writing_of sheet room ≡ Written n) where
  may : MayBeWritten sheet room
  may = ((written-exactly sheet room n).0 e).0

  -- It has as many deleghe as the sheet's count says.
  pub written-deleghe : (judged (flow_of sheet)).summary.deleghe ≡ count_in sheet
  unfolding start_state
  written-deleghe =
      let i = entries-in sheet may.tried.a-sheet in
      ap (λ (j : Judgement). j.summary.deleghe) (flow-judged sheet room may) ∙ deleghe-after (name_in sheet) start_state (entries_in sheet) (count_in sheet) i.each may.passes i.numbers

  -- It has the records to be written, and no more.
  pub written-records : (judged (flow_of sheet)).summary.records ≡ length (entries_in sheet)
  unfolding start_state
  written-records =
      ap (λ (j : Judgement). j.summary.records) (flow-judged sheet room may)
      ∙ (omega (arith, seen-after start_state (filled_all (name_in sheet) (entries_in sheet)), length-filled-all (name_in sheet) (entries_in sheet)))

  -- A number of each line that does not look at what is filled adds up to the same over the records of the flow and over those that are keyed.
  same_over : (f : ℕ → List ℕ → ℕ) → ((s d : ℕ) (r : List ℕ) → s < 5 → length r ≡ 120 → f s (filled (name_in sheet) (entry (Line s) d r)) ≡ f s r) → sum_over (λ r. of_line 0 (λ s. f s r) (kind_in r)) (records_of (flow_of sheet)) ≡ keyed_over f (entries_in sheet)
  same_over f same =
      let a = may.tried.a-sheet in
      ap (sum_over (λ r. of_line 0 (λ s. f s r) (kind_in r))) (records-written sheet a) ∙ records-number (name_in sheet) (name-length sheet a) f same start_state (entries_in sheet) (entries-in sheet a).each may.passes

  -- It has as many lines as are keyed.
  pub written-lines : (judged (flow_of sheet)).summary.lines ≡ keyed_lines (entries_in sheet)
  written-lines = accepted-lines (flow_of sheet) (written-accepted sheet room n e) ∙ same_over (λ s r. 1) (λ s d r g l. refl)

  -- One side of all its lines is that of the lines as they are keyed.
  all_lines : (x : Side) → lines_in x (records_of (flow_of sheet)) ≡ keyed_all x (entries_in sheet)
  all_lines x = same_over (λ s r. value_of r (column_of x s)) (λ s d r g l. line-amount x s g (name_in sheet) s d r l)

  -- Its sum of final balances is all debits less all credits, as they are keyed.
  pub written-total : (judged (flow_of sheet)).summary.total + keyed_all Credit (entries_in sheet) ≡ keyed_all Debit (entries_in sheet)
  written-total = omega (arith, accepted-total-lines (flow_of sheet) (written-accepted sheet room n e), all_lines Credit, all_lines Debit)

  -- Its sums, of each section and side, are those of the lines as they are keyed.
  pub written-section-sums : (x : Side) (i : ℕ) → i < 5 → side_of x (get_or (judged (flow_of sheet)).summary.sums i no_sums) ≡ keyed_in x i (entries_in sheet)
  written-section-sums x i h =
      accepted-section-sums (flow_of sheet) (written-accepted sheet room n e) x i h
      ∙ same_over (λ s r. cond (eqb s i) (value_of r (column_of x i)) 0) (λ s d r g l. ap (λ (v : ℕ). cond (eqb s i) v 0) (line-amount x i h (name_in sheet) s d r l))
