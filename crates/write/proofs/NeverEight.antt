-- The numbers that a sheet can be refused with: never 8, since the numbers of deleghe are filled, and at EF never 16, since the name is.
use Prim.Native.Nat.{ℕ, zero, suc, ◌+◌, ◌≤◌, ◌<◌}
use mathlib.Core.Path.{◌≡◌, refl, sym, ap, ◌∙◌}
use mathlib.Core.Bool.{Bool, true, false, cond, false≢true}
use mathlib.Core.List.{List, [], ◌∷◌, ◌++◌}
use native.Mathlib.Omega.{arith}
use lib.ListN.{length, take, drop}
use Rattle.text.specs.Numbers.{number_of, amount_of, digits_of}
use Rattle.text.specs.Placing.{put_at}
use Rattle.text.proofs.Numerals.{number_digits}
use Rattle.text.proofs.Puts.{length-put, put-here, put-before}
use Rattle.layout.specs.declared.Kind.{Kind}
use Rattle.layout.specs.declared.Kind.TheVariants.{Head, Taxpayer, Domicile, Line, Balance, Payment, Receipt, Addressee, Tail, Unknown}
use Rattle.layout.specs.Kinds.{kind_in, numbered}
use Rattle.layout.specs.Fields.{delega_number, support_name, bytes_of, value_of}
use Rattle.refusal.specs.Outcomes.{Pass}
use Rattle.text.specs.Among.{among}
use Rattle.rules.specs.declared.State.{State}
use Rattle.rules.specs.State.{start_state}
use Rattle.rules.specs.Stored.{stored_of}
use Rattle.rules.specs.Checks.{number_fault, tail_name}
use Rattle.rules.specs.Step.{next_deleghe, next}
use Rattle.refusal.specs.declared.Refusal.{Refusal}
use Rattle.refusal.specs.Refusals.{refusal}
use Rattle.judge.specs.Plain.{state_after}
use Rattle.rebalance.specs.Rebalance.{clear}
use Rattle.rebalance.proofs.Written.{put_all-clear}
use Rattle.rebalance.proofs.Columns.{columns}
use Rattle.sheet.specs.Slots.{slot_fault}
use Rattle.sheet.specs.Sheet.{Entry, entry}
use Rattle.rebalance.specs.Numbering.{with_number}
use Rattle.sheet.specs.Filled.{is_tail, with_name, filled, filled_all}
use Rattle.sheet.specs.Contents.{tail, All, Entered, Numbering}
use Rattle.sheet.proofs.SlotPassed.{slot-kind}
use Rattle.amounts.proofs.Spelling.{same-itself}
use Rattle.rebalance.proofs.Numbered.{number-right, length-number, number-here}
use Rattle.sheet.proofs.FilledRecords.{slot-storing, slot-laid, length-name}
use Rattle.write.specs.Answers.{Refused}
use Rattle.write.specs.Writing.{name_in, entry_fault, writing_of}
use Rattle.write.specs.WhenRefused.{entries_in, NoEntryFault, FirstEntryFault, record_numbers, sheet_numbers, Tried, WhyRefused, NotASheet, ShortRoom, ManyRecords, FaultyRecord, NoFit}
use Rattle.judge.proofs.OwnNumbers.{In, none, has, in-fault, in-more}
use Rattle.write.proofs.FaultNumbers.{entry_in, entry-number-right}
use Rattle.write.proofs.Refusals.{refused_why}
use Rattle.write.proofs.Mended.{passes-kind}
use Rattle.write.proofs.WrittenFlow.{entries-in, name-length}

-- The name leaves the delega number.
name-apart : (k : Kind) (name r : List ℕ) → length name ≡ 20 → length r ≡ 120 → take 7 (drop 3 (with_name k name r)) ≡ take 7 (drop 3 r)
unfolding with_name
name-apart k name r n l = go (is_tail k)
  where
    go : (t : Bool) → take 7 (drop 3 (cond t (put_at 19 name r) r)) ≡ take 7 (drop 3 r)
    go true = put-before 19 name r (omega arith) 7 3 (omega arith)
    go false = refl

-- A name of 20 characters.
module _ (name : List ℕ) (n : length name ≡ 20) where
  -- Every record of a delega has the digits of the number that is filled.
  pub number-digits-filled : (e : Entry) → Entered e → numbered e.slot ≡ true → bytes_of (filled name e) delega_number ≡ digits_of 7 e.delega
  unfolding filled
  number-digits-filled e a h =
      let xs = stored_of start_state e.slot in
      let q = with_number e.slot e.delega e.bytes in
      let p = length-number e.slot e.delega e.bytes a.sized in
      let c = put_all-clear xs (with_name e.slot name q) (slot-laid start_state a.in-slot) (length-name e.slot q p name n) 3 7 (columns (slot-storing start_state a.in-slot)).delega-number in
      c ∙ (name-apart e.slot name q n p ∙ number-here e.slot e.delega e.bytes a.sized h)

  -- It has the number, where this has at most seven digits.
  number-filled : (e : Entry) → Entered e → numbered e.slot ≡ true → e.delega < 10000000 → value_of (filled name e) delega_number ≡ e.delega
  number-filled e a h l = ap (λ (b : List ℕ). amount_of (number_of b)) (number-digits-filled e a h) ∙ ap amount_of (number_digits 7 e.delega l)

  -- EF has the name that is filled.
  pub name-in-tail : (d : ℕ) (r : List ℕ) → length r ≡ 120 → bytes_of (filled name (entry Tail d r)) support_name ≡ name
  unfolding filled with_name with_number numbered clear
  name-in-tail d r l =
      let o : 19 + length name ≤ length r = omega arith in
      put_all-clear (stored_of start_state Tail) (put_at 19 name r) (slot-laid start_state tail) (length-put 19 name r o ∙ l) 19 20 refl ∙ put-here 19 name r o 20 (sym n)

  -- "The tail's name never gives 16": a record in the slot of EF has only 3, 4, 6 or 7.
  pub tail-number : (st : State) (d : ℕ) (r : List ℕ) → length r ≡ 120 → In (3 ∷ 4 ∷ 6 ∷ 7 ∷ []) (entry_fault name st (entry Tail d r))
  unfolding number_fault tail_name
  tail-number st d r l =
      entry_in [] name st (entry Tail d r) (λ q. rw (slot-kind tail (filled name (entry Tail d r)) q, name-in-tail d r l, same-itself name) none)

-- More records begin more deleghe, or as many.
next_grows : (d : ℕ) (k : Kind) → d ≤ next_deleghe d k
next_grows d Head = omega arith
next_grows d Taxpayer = omega arith
next_grows d Domicile = omega arith
next_grows d (Line s) = omega arith
next_grows d (Balance s) = omega arith
next_grows d Payment = omega arith
next_grows d Receipt = omega arith
next_grows d Addressee = omega arith
next_grows d Tail = omega arith
next_grows d Unknown = omega arith

numbering-grows : (d : ℕ) (es : List Entry) (m : ℕ) → Numbering d es m → d ≤ m
numbering-grows d [] m h = let e : d ≡ m = h in omega arith
numbering-grows d (e ∷ es) m h = omega (arith, next_grows d e.slot, numbering-grows (next_deleghe d e.slot) es m h.1)

-- A record behind others that pass has the number that is expected.
module _ (name : List ℕ) where
  expected : (st : State) (before : List Entry) (here : Entry) (behind : List Entry) (m : ℕ) → All Entered (before ++ (here ∷ behind)) → NoEntryFault name st before → Numbering st.deleghe (before ++ (here ∷ behind)) m →
      Entered here × (numbered here.slot ≡ true → here.delega ≡ next_deleghe (state_after st (filled_all name before)).deleghe here.slot) × (next_deleghe (state_after st (filled_all name before)).deleghe here.slot ≤ m)
  unfolding state_after filled_all next
  expected st [] here behind m a p h = (a.0, h.0, numbering-grows _ behind m h.1)
  expected st (x ∷ xs) here behind m a p h =
      let d : (next st (filled name x)).deleghe ≡ next_deleghe st.deleghe x.slot = ap (next_deleghe st.deleghe) (passes-kind name st x a.0 p.0) in
      expected (next st (filled name x)) xs here behind m a.1 p.1 (rw d h.1)

-- The first fault of a record of a sheet has one of the numbers named.
pub first-number : (sheet room : List ℕ) → Tried sheet room → {n k p : ℕ} → FirstEntryFault (name_in sheet) start_state (entries_in sheet) n k p → among n record_numbers ≡ true
unfolding start_state
first-number sheet room t f =
    let name = name_in sheet in
    let i = entries-in sheet t.a-sheet in
    let st = state_after start_state (filled_all name f.before) in
    let e = f.here in
    let x = expected name start_state f.before e f.behind _ (rw f.split at i.each) f.passes (rw f.split at i.numbers) in
    let right : slot_fault e.slot (filled name e) ≡ Pass → number_fault st.deleghe (kind_in (filled name e)) (value_of (filled name e) delega_number) ≡ Pass
    = λ q. rw (slot-kind x.0.in-slot (filled name e) q) (number-right st.deleghe e.slot _ (λ h. number-filled name (name-length sheet t.a-sheet) e x.0 h (omega (arith, x.1 h, x.2, i.few)) ∙ x.1 h)) in
    in-fault (rw f.fails at (entry-number-right name st e right))

-- A number of a record is one of a sheet.
also-sheet : (n : ℕ) → among n record_numbers ≡ true → among n sheet_numbers ≡ true
also-sheet n h = in-fault (in-more 24 (in-more 25 (in-more 1 (in-more 23 (has {n = n} {p = 0} h)))))

-- A sheet is refused with one of the numbers named: never with 8, nor with 2, 5, 10 to 13, 15 or 18 to 22.
pub never-eight : (sheet room : List ℕ) {n r p : ℕ} → writing_of sheet room ≡ Refused n r p → among n sheet_numbers ≡ true
unfolding among
never-eight sheet room {n} {r} {p} e = go (refused_why sheet room e).0
  where
    go : WhyRefused sheet room (refusal n r p) → among n sheet_numbers ≡ true
    go (NotASheet h q) = rw (ap (λ (y : Refusal). y.number) q)
    go (ShortRoom i h q) = rw (ap (λ (y : Refusal). y.number) q)
    go (ManyRecords i h m q) = rw (ap (λ (y : Refusal). y.number) q)
    go (FaultyRecord t f) = also-sheet n (first-number sheet room t f)
    go (NoFit t h f q) = rw (ap (λ (y : Refusal). y.number) q)

-- None of these is 0.
pub writing-number : (sheet room : List ℕ) {n r p : ℕ} → writing_of sheet room ≡ Refused n r p → 1 ≤ n
unfolding among
writing-number sheet room {n} e = some n (never-eight sheet room e)
  where
    some : (m : ℕ) → among m sheet_numbers ≡ true → 1 ≤ m
    some zero h = absurd (false≢true h)
    some (suc m) h = omega arith
