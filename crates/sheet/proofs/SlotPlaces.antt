-- Where a record that is not of its slot's kind is told: at 2 where its type is not the slot's, else at 11.
use Prim.Native.Nat.{ℕ}
use mathlib.Core.Path.{◌≡◌, refl, sym, ap, ◌∙◌}
use mathlib.Core.Bool.{Bool, true, false, cond, true≢false}
use mathlib.Core.List.{List}
use mathlib.Core.Logic.{◌↔◌}
use native.Mathlib.Omega.{arith}
use lib.ListN.{length, take, drop, get_or}
use Rattle.layout.specs.declared.RecordType.{RecordType}
use Rattle.layout.specs.declared.Kind.{Kind}
use Rattle.layout.specs.Kinds.{same, type_of, type_in, kind_in}
use Rattle.refusal.specs.Outcomes.{Pass, Fails}
use Rattle.amounts.specs.Names.{same_bytes}
use Rattle.sheet.specs.Slots.{type_text, subtype_text, slot_fault}
use Rattle.sheet.specs.Contents.{Slot, head, taxpayer, domicile, line, balance, payment, tail, slot_type, SlotSays, OfItsKind, OtherType, OtherSubtype}
use Rattle.amounts.proofs.Spelling.{same_bytes_lem, same-itself}
use Rattle.sheet.proofs.SlotPassed.{type-of}
use Rattle.sheet.proofs.SlotExactly.{Chars, type-chars, two, slot-exactly}

-- The characters of a slot's type name it.
slot-typed : {k : Kind} (s : Slot k) (r : List ℕ) → take 2 (drop 1 r) ≡ type_text k → type_in r ≡ slot_type s
unfolding type_text type_of same
slot-typed head r e = type-of r _ _ e
slot-typed taxpayer r e = type-of r _ _ e
slot-typed domicile r e = type-of r _ _ e
slot-typed (line x h) r e = type-of r _ _ e
slot-typed (balance x h) r e = type-of r _ _ e
slot-typed payment r e = type-of r _ _ e
slot-typed tail r e = type-of r _ _ e

-- A record of a slot's type has its characters.
typed-slot : {k : Kind} (s : Slot k) (r : List ℕ) → length r ≡ 120 → Chars (slot_type s) (get_or r 1 0) (get_or r 2 0) → take 2 (drop 1 r) ≡ type_text k
unfolding type_text
typed-slot head r l c = two r l 70 52 c
typed-slot taxpayer r l c = two r l 49 48 c
typed-slot domicile r l c = two r l 50 48 c
typed-slot (line x h) r l c = two r l 52 48 c
typed-slot (balance x h) r l c = two r l 52 48 c
typed-slot payment r l c = two r l 53 48 c
typed-slot tail r l c = two r l 69 70 c

-- A record of 120 bytes, and a slot.
module _ (r : List ℕ) (l : length r ≡ 120) {k : Kind} (s : Slot k) where
  abbrev typed : Bool
  typed = same_bytes (take 2 (drop 1 r)) (type_text k)

  abbrev subtyped : Bool
  subtyped = same_bytes (take (length (subtype_text k)) (drop 10 r)) (subtype_text k)

  -- The record has the slot's type exactly where the first test says so.
  type-told : (typed ≡ true) ↔ (type_in r ≡ slot_type s)
  type-told = (λ e. slot-typed s r (same_bytes_lem _ _ e), λ e. ap (λ (b : List ℕ). same_bytes b (type_text k)) (typed-slot s r l (go (type_in r) e (type-chars (get_or r 1 0) (get_or r 2 0)))) ∙ same-itself (type_text k))
    where
      go : (t : RecordType) → t ≡ slot_type s → Chars t (get_or r 1 0) (get_or r 2 0) → Chars (slot_type s) (get_or r 1 0) (get_or r 2 0)
      go t e c = rw e at c

  -- "4 for a record not of its slot's kind", and nothing else: each outcome of the check on a slot says which of the three holds.
  pub slot-says : SlotSays s r (slot_fault k r)
  unfolding slot_fault
  slot-says = go typed subtyped refl refl (slot-exactly r l s)
    where
      no-fault : {n m : ℕ} → Pass ≡ Fails n m → ⊥
      no-fault e = let z : ◌≡◌ {A = ℕ} 0 1 = cc in omega arith

      go : (t u : Bool) → typed ≡ t → subtyped ≡ u → (cond typed (cond subtyped Pass (Fails 4 11)) (Fails 4 2) ≡ Pass) ↔ (kind_in r ≡ k) → SlotSays s r (cond t (cond u Pass (Fails 4 11)) (Fails 4 2))
      go true true p q x = OfItsKind (x.0 (rw (p, q)))
      go true false p q x = OtherSubtype (type-told.0 p) (λ e. no-fault (sym (rw (p, q) at (x.1 e))))
      go false u p q x = OtherType (λ e. true≢false (sym (type-told.1 e) ∙ p))
