-- The records to be written, with what is filled: their length, and which bytes stay.
use Prim.Native.Nat.{ℕ}
use mathlib.Core.Path.{◌≡◌, refl, ◌∙◌}
use mathlib.Core.Bool.{Bool, true, false, cond}
use mathlib.Core.List.{List, [], ◌∷◌}
use native.Mathlib.Omega.{arith}
use lib.ListN.{length}
use Rattle.text.specs.Placing.{put_at}
use Rattle.text.proofs.Puts.{length-put}
use Rattle.layout.specs.declared.Kind.{Kind}
use Rattle.rules.specs.declared.State.{State}
use Rattle.rules.specs.State.{start_state}
use Rattle.rules.specs.Stored.{stored_of}
use Rattle.rebalance.specs.Rebalance.{Sized}
use Rattle.rebalance.proofs.Written.{laid, length-put_all}
use Rattle.rebalance.proofs.Numbered.{length-number}
use Rattle.rebalance.proofs.Columns.{Storing, plain, balance, payment, tail, columns}
use Rattle.sheet.specs.Sheet.{Entry}
use Rattle.sheet.specs.Filled.{is_tail, with_name, filled, filled_all}
use Rattle.sheet.specs.Contents as In
use Rattle.sheet.specs.Contents.{Slot, All, Entered}

-- A slot stores nothing, or it is the balance of a section, a 50-01 or the tail.
pub slot-storing : (st : State) {k : Kind} → Slot k → Storing st k
slot-storing st In.head = plain refl refl
slot-storing st In.taxpayer = plain refl refl
slot-storing st In.domicile = plain refl refl
slot-storing st (In.line x h) = plain refl refl
slot-storing st (In.balance x h) = balance x h
slot-storing st In.payment = payment
slot-storing st In.tail = tail

-- What a slot stores is laid out within the record.
pub slot-laid : (st : State) {k : Kind} → Slot k → laid (stored_of st k) ≡ true
slot-laid st s = (columns (slot-storing st s)).laid_out

-- A record of 120 bytes.
module _ (k : Kind) (r : List ℕ) (l : length r ≡ 120) where
  -- A name of 20 characters leaves its length.
  pub length-name : (name : List ℕ) → length name ≡ 20 → length (with_name k name r) ≡ 120
  unfolding with_name
  length-name name n = go (is_tail k)
    where
      go : (t : Bool) → length (cond t (put_at 19 name r) r) ≡ 120
      go true = length-put 19 name r (omega arith) ∙ l
      go false = l

-- A name of 20 characters.
module _ (name : List ℕ) (n : length name ≡ 20) where
  -- A record to be written has 120 bytes with what is filled.
  pub length-filled : (e : Entry) → Entered e → length (filled name e) ≡ 120
  unfolding filled
  length-filled e i = length-put_all _ _ (slot-laid start_state i.in-slot) (length-name e.slot _ (length-number e.slot e.delega e.bytes i.sized) name n)

  -- So have they all.
  pub sized-filled : (es : List Entry) → All Entered es → Sized (filled_all name es)
  unfolding filled_all
  sized-filled [] i = tt
  sized-filled (e ∷ es) i = (length-filled e i.0, sized-filled es i.1)
