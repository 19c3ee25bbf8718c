-- The slots of a sheet: a record that passes the check on its slot is of the slot's kind.
use Prim.Native.Nat.{ℕ, zero, suc, ◌+◌, ◌<◌}
use mathlib.Core.Path.{◌≡◌, refl, sym, ap, ap₂, ◌∙◌}
use mathlib.Core.Bool.{Bool, true, false, cond}
use mathlib.Core.List.{List, [], ◌∷◌}
use native.Mathlib.Omega.{arith}
use lib.Dec.{lit<}
use lib.ListN.{length, take, drop, get_or}
use lib.Seq.{get_or-take, get_or-drop}
use Rattle.text.specs.Numbers.{number_from, number_of, digits_of}
use Rattle.layout.specs.declared.RecordType.TheVariants.{T40, T50}
use Rattle.layout.specs.declared.Kind.{Kind}
use Rattle.layout.specs.declared.Kind.TheVariants.{Line, Balance}
use Rattle.layout.specs.Sections.{section_at}
use Rattle.layout.specs.Kinds.{same, type_of, section_kind_from, payment_kind, kind_of, type_in, kind_in}
use Rattle.refusal.specs.Outcomes.{Pass, Fails}
use Rattle.amounts.specs.Names.{same_bytes}
use Rattle.amounts.proofs.Spelling.{same_bytes_lem}
use Rattle.sheet.specs.Slots.{type_text, subtype_text, slot_fault}
use Rattle.sheet.specs.Contents.{Slot, head, taxpayer, domicile, line, balance, payment, tail}

-- Where the check on the slot passes, type and subtype are the slot's.
slot-texts : (k : Kind) (r : List ℕ) → slot_fault k r ≡ Pass → (take 2 (drop 1 r) ≡ type_text k) × (take (length (subtype_text k)) (drop 10 r) ≡ subtype_text k)
unfolding slot_fault
slot-texts k r e = go (same_bytes (take 2 (drop 1 r)) (type_text k)) (same_bytes (take (length (subtype_text k)) (drop 10 r)) (subtype_text k)) refl refl e
  where
    go : (t u : Bool) → same_bytes (take 2 (drop 1 r)) (type_text k) ≡ t → same_bytes (take (length (subtype_text k)) (drop 10 r)) (subtype_text k) ≡ u →
        cond t (cond u Pass (Fails 4 11)) (Fails 4 2) ≡ Pass → (take 2 (drop 1 r) ≡ type_text k) × (take (length (subtype_text k)) (drop 10 r) ≡ subtype_text k)
    go true true p q f = (same_bytes_lem _ _ p, same_bytes_lem _ _ q)
    go true false p q f = (cc, cc)
    go false u p q f = (cc, cc)

-- The type of a record that begins with one byte and then these two.
pub type-of : (r : List ℕ) (a b : ℕ) → take 2 (drop 1 r) ≡ a ∷ b ∷ [] → type_in r ≡ type_of a b
type-of r a b e = ap₂ type_of (byte 0 (lit< tt) ∙ ap (λ (l : List ℕ). get_or l 0 0) e) (byte 1 (lit< tt) ∙ ap (λ (l : List ℕ). get_or l 1 0) e)
  where
    byte : (i : ℕ) → i < 2 → get_or r (1 + i) 0 ≡ get_or (take 2 (drop 1 r)) i 0
    byte i h = sym (get_or-take 2 (drop 1 r) i 0 h ∙ get_or-drop 1 r i 0)

-- What holds of each of the five sections.
pub each-section : (P : ℕ → Type 0) → P 0 → P 1 → P 2 → P 3 → P 4 → (x : ℕ) → x < 5 → P x
each-section P a b c d e zero h = a
each-section P a b c d e (suc zero) h = b
each-section P a b c d e (suc (suc zero)) h = c
each-section P a b c d e (suc (suc (suc zero))) h = d
each-section P a b c d e (suc (suc (suc (suc zero)))) h = e
each-section P a b c d e (suc (suc (suc (suc (suc x))))) h = absurd (omega arith)

-- The subtype of a section's lines names these, and that of its balance record this.
line-named : (x : ℕ) → x < 5 → kind_of T40 (number_of (digits_of 2 (section_at x).line_subtype)) ≡ Line x
unfolding digits_of number_from section_at section_kind_from
line-named = each-section (λ x. kind_of T40 (number_of (digits_of 2 (section_at x).line_subtype)) ≡ Line x) refl refl refl refl refl

balance-named : (x : ℕ) → x < 5 → kind_of T40 (number_of (digits_of 2 (section_at x).balance_subtype)) ≡ Balance x
unfolding digits_of number_from section_at section_kind_from
balance-named = each-section (λ x. kind_of T40 (number_of (digits_of 2 (section_at x).balance_subtype)) ≡ Balance x) refl refl refl refl refl

-- The kind that type and subtype of a slot name is the slot's.
slot-named : {k : Kind} → Slot k → (r : List ℕ) → take 2 (drop 1 r) ≡ type_text k → take (length (subtype_text k)) (drop 10 r) ≡ subtype_text k → kind_in r ≡ k
unfolding kind_in type_text subtype_text type_of same digits_of number_from payment_kind
slot-named head r e f = rw (type-of r _ _ e)
slot-named taxpayer r e f = rw (type-of r _ _ e)
slot-named domicile r e f = rw (type-of r _ _ e)
slot-named (line x h) r e f = rw (type-of r _ _ e) (ap (λ (l : List ℕ). kind_of T40 (number_of l)) f ∙ line-named x h)
slot-named (balance x h) r e f = rw (type-of r _ _ e) (ap (λ (l : List ℕ). kind_of T40 (number_of l)) f ∙ balance-named x h)
slot-named payment r e f = rw (type-of r _ _ e) (ap (λ (l : List ℕ). kind_of T50 (number_of l)) f)
slot-named tail r e f = rw (type-of r _ _ e)

-- A record that passes the check on its slot is of the slot's kind.
pub slot-kind : {k : Kind} → Slot k → (r : List ℕ) → slot_fault k r ≡ Pass → kind_in r ≡ k
slot-kind {k} s r e = let t = slot-texts k r e in slot-named s r t.0 t.1
