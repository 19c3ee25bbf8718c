-- What is filled in a record does not depend on what stood there; a record that passes its checks holds the name that is filled.
use Prim.Native.Nat.{ℕ}
use mathlib.Core.Path.{◌≡◌, refl, sym, ap, ◌∙◌}
use mathlib.Core.Bool.{Bool, true, false, cond, false≢true}
use mathlib.Core.List.{List, [], ◌∷◌}
use native.Mathlib.Omega.{arith}
use lib.Dec.{lit≤}
use lib.ListN.{length, take, drop}
use Rattle.text.specs.Numbers.{digits_of}
use Rattle.text.specs.Placing.{put_at}
use Rattle.text.proofs.Numerals.{length_digits}
use Rattle.text.proofs.Puts.{put_same}
use Rattle.layout.specs.declared.Field.{Field}
use Rattle.layout.specs.declared.Kind.{Kind}
use Rattle.layout.specs.Kinds.{kind_in, numbered}
use Rattle.layout.specs.Fields.{delega_number, final_balance, tail_deleghe, tail_sum, tail_records, support_name, bytes_of}
use Rattle.refusal.specs.Outcomes.{Pass}
use Rattle.amounts.specs.Names.{same_bytes}
use Rattle.rules.specs.declared.State.{State}
use Rattle.rules.specs.State.{start_state}
use Rattle.rules.specs.Stored.{stored_of}
use Rattle.rules.specs.Checks.{tail_name, own_fault}
use Rattle.judge.proofs.PlainSums.{cond-true}
use Rattle.rebalance.specs.Rebalance.{put_all, emit}
use Rattle.rebalance.proofs.Numbered.{number_same}
use Rattle.sheet.specs.Sheet.{entry}
use Rattle.rebalance.specs.Numbering.{with_number}
use Rattle.sheet.specs.Filled.{is_tail, with_name, filled}
use Rattle.sheet.specs.Contents as In
use Rattle.sheet.specs.Contents.{Slot}
use Rattle.amounts.proofs.Spelling.{same_bytes_lem}
use Rattle.sheet.proofs.FilledRecords.{slot-laid}
use Rattle.rebalance.specs.Places.{balance_columns}
use Rattle.write.specs.Effect.{filled_columns}
use Rattle.rebalance.proofs.Outside.{swapped}
use Rattle.write.proofs.SlotColumns.{slot_stored, slot-covers}
use Rattle.rebalance.proofs.Alike.{Alike, alike-put, alike-stored}

-- A name of 20 characters, and records that are alike outside the filled columns.
module _ (name : List ℕ) (n : length name ≡ 20) (d : ℕ) where
  number-alike : (fs : List Field) {r q : List ℕ} → Alike (delega_number ∷ fs) r q → Alike fs (put_at 3 (digits_of 7 d) r) (put_at 3 (digits_of 7 d) q)
  number-alike fs a = alike-put delega_number fs (digits_of 7 d) (rw (length_digits 7 d)) (lit≤ tt) a

  -- With number and name they are alike outside what is stored.
  front-alike : {k : Kind} (s : Slot k) {r q : List ℕ} → Alike (filled_columns k) r q → Alike (slot_stored s) (with_name k name (with_number k d r)) (with_name k name (with_number k d q))
  unfolding with_name with_number numbered
  front-alike In.head a = a
  front-alike In.taxpayer a = number-alike [] a
  front-alike In.domicile a = number-alike [] a
  front-alike (In.line x h) a = number-alike [] a
  front-alike (In.balance x h) a = number-alike (balance_columns x) a
  front-alike In.payment a = number-alike (final_balance ∷ []) a
  front-alike In.tail a =
      let b = alike-put support_name (tail_deleghe ∷ tail_sum ∷ tail_records ∷ []) name (rw n) (lit≤ tt) a in
      record { one = b.one; other = b.other; same = λ i h. b.same i (swapped i tail_deleghe tail_sum tail_records [] ∙ h) }

  -- With all that is filled they are equal.
  pub filled-alike : {k : Kind} → Slot k → {r q : List ℕ} → Alike (filled_columns k) r q → filled name (entry k d r) ≡ filled name (entry k d q)
  unfolding filled
  filled-alike s a = alike-stored (slot_stored s) _ _ _ (slot-covers s start_state) (slot-laid start_state s) (front-alike s a)

-- A record that holds its number and its name is filled with what is stored before any line.
module _ (name : List ℕ) (n : length name ≡ 20) (d : ℕ) (k : Kind) (r : List ℕ) (l : length r ≡ 120) where
  has-name : (is_tail k ≡ true → take 20 (drop 19 r) ≡ name) → with_name k name r ≡ r
  unfolding with_name
  has-name h = go (is_tail k) h
    where
      go : (t : Bool) → (t ≡ true → take 20 (drop 19 r) ≡ name) → cond t (put_at 19 name r) r ≡ r
      go true g = put_same 19 name r (omega arith) (rw n (g refl))
      go false g = refl

  pub held-filled : kind_in r ≡ k → (numbered k ≡ true → take 7 (drop 3 r) ≡ digits_of 7 d) → (is_tail k ≡ true → take 20 (drop 19 r) ≡ name) → filled name (entry k d r) ≡ emit start_state r
  unfolding filled emit
  held-filled e h g = ap (λ (x : List ℕ). put_all (stored_of start_state k) (with_name k name x)) (number_same k d r l h) ∙ (ap (put_all (stored_of start_state k)) (has-name g) ∙ ap (λ (j : Kind). put_all (stored_of start_state j) r) (sym e))

-- A tail that passes the check on its name holds the head's.
pub name-held : {k : Kind} → Slot k → (name : List ℕ) (st : State) (r : List ℕ) → own_fault name st k r ≡ Pass → is_tail k ≡ true → take 20 (drop 19 r) ≡ name
unfolding tail_name
name-held {k} s name st r = go s
  where
    go : {j : Kind} → Slot j → own_fault name st j r ≡ Pass → is_tail j ≡ true → take 20 (drop 19 r) ≡ name
    go In.head p e = absurd (false≢true e)
    go In.taxpayer p e = absurd (false≢true e)
    go In.domicile p e = absurd (false≢true e)
    go (In.line x h) p e = absurd (false≢true e)
    go (In.balance x h) p e = absurd (false≢true e)
    go In.payment p e = absurd (false≢true e)
    go In.tail p e = same_bytes_lem _ name (cond-true (same_bytes (bytes_of r support_name) name) 16 20 p)
