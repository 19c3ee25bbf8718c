-- A record of a slot's kind passes the check on the slot, so that the check tells exactly the records that are of another kind.
use Prim.Native.Nat.{ℕ, suc, ◌+◌, ◌<◌}
use mathlib.Core.Path.{◌≡◌, refl, sym, ap, ◌∙◌}
use mathlib.Core.Bool.{Bool, true, false, cond, false≢true}
use mathlib.Core.List.{List, [], ◌∷◌}
use mathlib.Core.Logic.{◌↔◌}
use native.Mathlib.Omega.{arith}
use borrow.Author.Tests.{eqb-true}
use lib.Dec.{eqb}
use lib.ListN.{length, take, drop, get_or}
use lib.Seq.{drop-cons}
use Rattle.text.specs.Answers.{Digits, Number, NonDigit, TooLong}
use Rattle.text.specs.Numbers.{digits_of}
use Rattle.text.proofs.Numerals.{length_digits, digits-of-number}
use Rattle.text.proofs.Bytes.{part_length}
use Rattle.layout.specs.declared.Section.{Section}
use Rattle.layout.specs.declared.RecordType.{RecordType}
use Rattle.layout.specs.declared.RecordType.TheVariants.{F4, T10, T20, T40, T50, EF, NoType}
use Rattle.layout.specs.declared.Kind.{Kind}
use Rattle.layout.specs.declared.Kind.TheVariants.{Head, Taxpayer, Domicile, Line, Balance, Payment, Receipt, Addressee, Tail, Unknown}
use Rattle.layout.specs.Sections.{sections, no_section, section_at}
use Rattle.layout.specs.Kinds.{same, type_of, section_kind_from, payment_kind, kind_of, type_in, subtype_in, kind_in}
use Rattle.refusal.specs.Outcomes.{Pass}
use Rattle.amounts.proofs.Spelling.{same-itself}
use Rattle.sheet.specs.Slots.{type_text, subtype_text, slot_fault}
use Rattle.sheet.specs.Contents.{Slot}
use Rattle.sheet.proofs.SlotPassed.{slot-kind}

-- The characters of a type.
abbrev pub Chars : RecordType → ℕ → ℕ → Type 0
Chars F4 a b = (a ≡ 70) × (b ≡ 52)
Chars T10 a b = (a ≡ 49) × (b ≡ 48)
Chars T20 a b = (a ≡ 50) × (b ≡ 48)
Chars T40 a b = (a ≡ 52) × (b ≡ 48)
Chars T50 a b = (a ≡ 53) × (b ≡ 48)
Chars EF a b = (a ≡ 69) × (b ≡ 70)
Chars NoType a b = Unit {0}

-- Two characters that are found the same are equal.
both-same : (a b x y : ℕ) → same a b x y ≡ true → (a ≡ x) × (b ≡ y)
unfolding same
both-same a b x y = go (eqb a x) refl
  where
    go : (p : Bool) → eqb a x ≡ p → cond p (eqb b y) false ≡ true → (a ≡ x) × (b ≡ y)
    go true q e = (eqb-true _ _ q, eqb-true _ _ e)
    go false q e = absurd (false≢true e)

-- The type that two characters name has these characters.
pub type-chars : (a b : ℕ) → Chars (type_of a b) a b
unfolding type_of
type-chars a b = go (same a b 70 52) (same a b 49 48) (same a b 50 48) (same a b 52 48) (same a b 53 48) (same a b 69 70) refl refl refl refl refl refl
  where
    go : (p q u v w x : Bool) → same a b 70 52 ≡ p → same a b 49 48 ≡ q → same a b 50 48 ≡ u → same a b 52 48 ≡ v → same a b 53 48 ≡ w → same a b 69 70 ≡ x →
        Chars (cond p F4 (cond q T10 (cond u T20 (cond v T40 (cond w T50 (cond x EF NoType)))))) a b
    go true q u v w x h i j k l m = both-same a b 70 52 h
    go false true u v w x h i j k l m = both-same a b 49 48 i
    go false false true v w x h i j k l m = both-same a b 50 48 j
    go false false false true w x h i j k l m = both-same a b 52 48 k
    go false false false false true x h i j k l m = both-same a b 53 48 l
    go false false false false false true h i j k l m = both-same a b 69 70 m
    go false false false false false false h i j k l m = tt

-- A record whose type and subtype are a slot's passes the check on the slot.
texts-fit : (k : Kind) (r : List ℕ) → take 2 (drop 1 r) ≡ type_text k → take (length (subtype_text k)) (drop 10 r) ≡ subtype_text k → slot_fault k r ≡ Pass
unfolding slot_fault
texts-fit k r p q = rw (p, q, same-itself (type_text k), same-itself (subtype_text k))

-- A record of 120 bytes.
module _ (r : List ℕ) (l : length r ≡ 120) where
  -- It passes the check on the slot of this kind, if there is one.
  abbrev Fits : Kind → Type 0
  Fits k = Slot k → slot_fault k r ≡ Pass

  -- The two characters of its type.
  pub two : (x y : ℕ) → (get_or r 1 0 ≡ x) × (get_or r 2 0 ≡ y) → take 2 (drop 1 r) ≡ x ∷ y ∷ []
  two x y e = rw (drop-cons r 1 0 (omega arith), drop-cons r 2 0 (omega arith), e.0, e.1)

  -- Its subtype in digits.
  digits : (n : ℕ) → subtype_in r ≡ Number n → take 2 (drop 10 r) ≡ digits_of 2 n
  digits n e = sym (digits-of-number 2 n (take 2 (drop 10 r)) (part_length 2 10 r (omega arith)) e)

  -- A kind whose subtype is n in two digits.
  with-subtype : (k : Kind) (n m : ℕ) → subtype_text k ≡ digits_of 2 m → n ≡ m → take 2 (drop 10 r) ≡ digits_of 2 n → take (length (subtype_text k)) (drop 10 r) ≡ subtype_text k
  with-subtype k n m p q e = rw (p, length_digits 2 m) (e ∙ ap (digits_of 2) q)

  choice : (b : Bool) (j k : Kind) → (b ≡ true → Fits j) → Fits k → Fits (cond b j k)
  choice true j k h i = h refl
  choice false j k h i = i

  -- A record 40.
  forty : (i : ℕ) (xs : List Section) → ((j : ℕ) → j < length xs → section_at (i + j) ≡ get_or xs j no_section) → (n : ℕ) → take 2 (drop 1 r) ≡ 52 ∷ 48 ∷ [] → take 2 (drop 10 r) ≡ digits_of 2 n → Fits (section_kind_from i xs n)
  unfolding section_kind_from type_text subtype_text
  forty i [] h n t u = λ s. elim s [ ]
  forty i (x ∷ xs) h n t u =
      let row : section_at i ≡ x = ap section_at (let e : i ≡ i + 0 = omega arith in e) ∙ h 0 (omega arith) in
      choice (eqb n x.line_subtype) (Line i) _
      (λ e s. texts-fit (Line i) r t (with-subtype (Line i) n (section_at i).line_subtype refl (rw row (eqb-true _ _ e)) u))
      (choice (eqb n x.balance_subtype) (Balance i) _
      (λ e s. texts-fit (Balance i) r t (with-subtype (Balance i) n (section_at i).balance_subtype refl (rw row (eqb-true _ _ e)) u))
      (forty (i + 1) xs (λ j g. ap section_at (let e : i + 1 + j ≡ i + suc j = omega arith in e) ∙ h (suc j) (omega arith)) n t u))

  -- A record 50.
  fifty : (n : ℕ) → take 2 (drop 1 r) ≡ 53 ∷ 48 ∷ [] → take 2 (drop 10 r) ≡ digits_of 2 n → Fits (payment_kind n)
  unfolding payment_kind type_text subtype_text
  fifty n t u =
      choice (eqb n 1) Payment _ (λ e s. texts-fit Payment r t (with-subtype Payment n 1 refl (eqb-true _ _ e) u))
      (choice (eqb n 2) Receipt _ (λ e s. elim s [ ]) (choice (eqb n 3) Addressee Unknown (λ e s. elim s [ ]) (λ s. elim s [ ])))

  -- A record of any type and subtype.
  fits-kind : (t : RecordType) (d : Digits) → Chars t (get_or r 1 0) (get_or r 2 0) → subtype_in r ≡ d → Fits (kind_of t d)
  unfolding type_text subtype_text section_at
  fits-kind F4 d c e = λ s. texts-fit Head r (two 70 52 c) refl
  fits-kind T10 d c e = λ s. texts-fit Taxpayer r (two 49 48 c) refl
  fits-kind T20 d c e = λ s. texts-fit Domicile r (two 50 48 c) refl
  fits-kind T40 (Number n) c e = forty 0 sections (λ j h. ap section_at (let q : 0 + j ≡ j = omega arith in q)) n (two 52 48 c) (digits n e)
  fits-kind T40 (NonDigit i) c e = λ s. elim s [ ]
  fits-kind T40 TooLong c e = λ s. elim s [ ]
  fits-kind T50 (Number n) c e = fifty n (two 53 48 c) (digits n e)
  fits-kind T50 (NonDigit i) c e = λ s. elim s [ ]
  fits-kind T50 TooLong c e = λ s. elim s [ ]
  fits-kind EF d c e = λ s. texts-fit Tail r (two 69 70 c) refl
  fits-kind NoType d c e = λ s. elim s [ ]

  -- A record is of its slot's kind exactly where it passes the check on the slot.
  pub slot-exactly : {k : Kind} → Slot k → (slot_fault k r ≡ Pass) ↔ (kind_in r ≡ k)
  unfolding kind_in
  slot-exactly {k} s = (slot-kind s r, λ e. go (kind_of (type_in r) (subtype_in r)) (fits-kind (type_in r) (subtype_in r) (type-chars (get_or r 1 0) (get_or r 2 0)) refl) e)
    where
      go : (j : Kind) → Fits j → j ≡ k → slot_fault k r ≡ Pass
      go j f e = (rw e at f) s
