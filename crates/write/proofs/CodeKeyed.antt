-- Refusal 26 of a sheet speaks of the code that was keyed: the record told is the one in a slot of type 10, and what was keyed at its positions 11 to 26 cannot exist.
use Prim.Native.Nat.{ℕ, ◌-◌}
use mathlib.Core.Path.{◌≡◌, sym, ap, ◌∙◌}
use mathlib.Core.Bool.{false}
use mathlib.Core.List.{List}
use native.Mathlib.Omega.{arith}
use lib.ListN.{take, drop}
use Rattle.text.specs.Numbers.{digits_of}
use Rattle.text.proofs.Numerals.{length_digits}
use Rattle.text.proofs.Puts.{put-after}
use Rattle.layout.specs.declared.Kind.TheVariants.{Taxpayer}
use Rattle.layout.specs.Kinds.{kind_in, numbered}
use Rattle.refusal.specs.Outcomes.{Outcome, Fails}
use Rattle.amounts.specs.Outcomes.{first}
use Rattle.taxcode.specs.TaxCodes.{code_right}
use Rattle.rules.specs.declared.State.{State}
use Rattle.rules.specs.Stored.{stored_of, wrong}
use Rattle.rules.specs.Checks.{own_fault}
use Rattle.refusal.specs.Refusals.{refusal}
use Rattle.judge.proofs.OwnNumbers.{twenty-six-is-taxpayer, behind-eight}
use Rattle.judge.proofs.CodeExists.{code-twenty-six}
use Rattle.rebalance.specs.Rebalance.{put_all, kept_fields, kept_fault}
use Rattle.sheet.specs.Sheet.{Entry}
use Rattle.rebalance.specs.Numbering.{with_number}
use Rattle.sheet.specs.Filled.{with_name, filled}
use Rattle.sheet.specs.Contents.{Entered}
use Rattle.write.specs.Writing.{refusal_written, name_in, entry_fault, writing_of}
use Rattle.write.specs.WhenRefused.{entries_in}
use Rattle.write.specs.Effect.{entry_at}
use Rattle.write.proofs.RecordRefused.{above-four, record-refused}

-- What is filled in a record 10 leaves its code.
code-left : (name : List ℕ) (e : Entry) → Entered e → e.slot ≡ Taxpayer → take 16 (drop 10 (filled name e)) ≡ take 16 (drop 10 e.bytes)
unfolding filled with_name with_number numbered put_all
code-left name e a s = let n = length_digits 7 e.delega in let l = a.sized in rw s (ap (take 16) (put-after 3 (digits_of 7 e.delega) e.bytes (omega arith) 10 (omega arith)))

-- The checks that rebalancing leaves alone have 26 where a record's own have it.
own-of-kept : (name : List ℕ) (st : State) (r : List ℕ) {p : ℕ} → kept_fault name st r ≡ Fails 26 p → own_fault name st (kind_in r) r ≡ Fails 26 p
unfolding kept_fault
own-of-kept name st r e = (behind-eight st r (kept_fields (kind_in r)) (own_fault name st (kind_in r) r) (omega arith) e).rest

entry-names-code : (name : List ℕ) (st : State) (e : Entry) {p : ℕ} → Entered e → entry_fault name st e ≡ Fails 26 p → (p ≡ 11) × (e.slot ≡ Taxpayer) × (code_right (take 16 (drop 10 e.bytes)) ≡ false)
entry-names-code name st e a f =
    let r = filled name e in
    let k = above-four name st e a (omega arith) f in
    let o = own-of-kept name st r k.1 in
    let w = ap (λ (x : Outcome). first x (wrong (stored_of st (kind_in r)) r)) o in
    let t = twenty-six-is-taxpayer name st (kind_in r) r w in
    let c = code-twenty-six name st r (rw t at w) in
    let s = sym k.0 ∙ t in
    (c.0, s, rw (code-left name e a s) at c.1)

-- "26 at the field's start, after 8 in the same record", in the sheets too: of any sheet that is refused with 26, the record told has the slot of a 10, and its code as it was keyed cannot exist
pub sheet-names-code : (sheet room : List ℕ) (k p : ℕ) → refusal_written (writing_of sheet room) ≡ refusal 26 k p →
    (p ≡ 11) × ((entry_at (entries_in sheet) (k - 1)).slot ≡ Taxpayer) × (code_right (take 16 (drop 10 (entry_at (entries_in sheet) (k - 1)).bytes)) ≡ false)
sheet-names-code sheet room k p w =
    let f = record-refused sheet room 26 k p (omega arith) w in
    entry-names-code (name_in sheet) f.after _ f.entered f.fails
