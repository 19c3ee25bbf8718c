-- Check 7 passes exactly where the fields of a record hold digits only, and else tells the position of the first of their characters that is no digit.
use Prim.Native.Nat.{ℕ, ◌+◌, ◌-◌, ◌≤◌, ◌<◌}
use mathlib.Core.Path.{◌≡◌, refl, sym, ap, ◌∙◌}
use mathlib.Core.Bool.{Bool, true, false, false≢true}
use mathlib.Core.List.{List, [], ◌∷◌}
use mathlib.Core.Logic.{⊎_elim, ◌↔◌}
use native.Mathlib.Omega.{arith}
use borrow.Author.Tests.{ltb-true, ltb-false}
use lib.Dec.{ltb}
use lib.ListN.{length, drop, get_or}
use lib.Seq.{get_or-take, get_or-drop}
use Rattle.text.specs.Answers.{Digits, Number, NonDigit, TooLong}
use Rattle.text.specs.Numbers.{digit, number_of}
use Rattle.text.proofs.Bytes.{part_length}
use Rattle.text.proofs.NonDigits.{DigitsTo, Tells, number, non-digit, digits-told}
use Rattle.layout.specs.declared.Field.{Field}
use Rattle.layout.specs.Fields.{bytes_of, in_columns}
use Rattle.layout.proofs.InOrder.{InOrder, in-first, first-in, others-in, none_before}
use Rattle.refusal.proofs.Parts.{fails-parts}
use Rattle.refusal.specs.Outcomes.{Outcome, Pass, Fails}
use Rattle.rules.specs.Checks.{or_bad, bad_fields}
use Rattle.rules.specs.NonDigits.{FirstNonDigit, DigitsOnly}

-- what check 7 says of fields
data Said (fl : List Field) (r : List ℕ) : Outcome → Type 0 where
  passes : DigitsOnly fl r → Said fl r Pass
  fails : {i : ℕ} → FirstNonDigit fl r i → Said fl r (Fails 7 (i + 1))

module _ (r : List ℕ) (l : length r ≡ 120) where
  -- a field within the record, and others behind it
  module _ (f : Field) (fl : List Field) (n : ℕ) (o : InOrder n (f ∷ fl)) where
    -- its characters are those of the record from its start on
    field-length : length (bytes_of r f) ≡ f.end - f.start
    field-length = part_length (f.end - f.start) f.start r (omega (arith, o.1, o.2))

    field-byte : (m : ℕ) → m < f.end - f.start → get_or (bytes_of r f) m 0 ≡ get_or r (f.start + m) 0
    field-byte m h = get_or-take (f.end - f.start) (drop f.start r) m 0 h ∙ get_or-drop f.start r m 0

    -- characters of it that are digits
    pub field-digits : (m : ℕ) → m ≤ f.end - f.start → DigitsTo (bytes_of r f) m → (j : ℕ) → f.start ≤ j → j < f.start + m → digit (get_or r j 0) ≡ true
    field-digits m h d j a b =
        let e : f.start + (j - f.start) ≡ j = omega arith in
        ap (λ (x : ℕ). digit (get_or r x 0)) (sym e) ∙ (ap digit (sym (field-byte (j - f.start) (omega arith))) ∙ d (j - f.start) (omega arith))

    -- where it holds digits only, the others decide
    all_digits : DigitsTo (bytes_of r f) (length (bytes_of r f)) → (j : ℕ) → f.start ≤ j → j < f.end → digit (get_or r j 0) ≡ true
    all_digits d j a b = let e = field-length in field-digits (f.end - f.start) (omega arith) (λ m h. d m (omega arith)) j a (omega arith)

    on-digits : DigitsTo (bytes_of r f) (length (bytes_of r f)) → {x : Outcome} → Said fl r x → Said (f ∷ fl) r x
    on-digits d (passes h) = passes (λ j e. ⊎_elim (λ g. all_digits d j g.0 g.1) (h j) (in-first j f fl e))
    on-digits d (fails {i} h) = fails (record { inside = others-in i f fl h.inside; wrong = h.wrong; before = λ j p e. ⊎_elim (λ g. all_digits d j g.0 g.1) (h.before j p) (in-first j f fl e) })

    -- a character of it that is none is the first, since the others stand behind it
    at-non-digit : (m : ℕ) → m < length (bytes_of r f) → digit (get_or (bytes_of r f) m 0) ≡ false → DigitsTo (bytes_of r f) m → FirstNonDigit (f ∷ fl) r (f.start + m)
    at-non-digit m h w d =
        let e = field-length in
        record {
          inside = first-in (f.start + m) f fl (omega arith) (omega (arith, o.1));
          wrong = ap digit (sym (field-byte m (omega arith))) ∙ w;
          before = λ j p q. ⊎_elim (λ g. field-digits m (omega arith) d j g.0 p) (λ g. let b = none_before f.end fl o.3 j g in absurd (omega (arith, o.1))) (in-first j f fl q);
        }

    field-said : (d : Digits) → Tells 0 (bytes_of r f) d → {x : Outcome} → Said fl r x → Said (f ∷ fl) r (or_bad d f x)
    field-said (Number v) (number d) s = on-digits d s
    field-said (NonDigit k) (non-digit m p h w d) s = let e : k ≡ m = omega arith in fails {i = f.start + k} (rw e (at-non-digit m h w d))
    field-said TooLong x s = elim x [ ]

  said : (n : ℕ) (fl : List Field) → InOrder n fl → Said fl r (bad_fields fl r)
  unfolding bad_fields in_columns
  said n [] o = passes (λ j e. absurd (false≢true e))
  said n (f ∷ fl) o = field-said f fl n o (number_of (bytes_of r f)) (digits-told (bytes_of r f)) (said f.end fl o.3)

  -- there is one first
  one-first : (fl : List Field) {i j : ℕ} → FirstNonDigit fl r i → FirstNonDigit fl r j → i ≤ j
  one-first fl {i} {j} a b = go (ltb j i) refl
    where
      go : (t : Bool) → ltb j i ≡ t → i ≤ j
      go true e = absurd (false≢true (sym b.wrong ∙ a.before j (ltb-true _ _ e) b.inside))
      go false e = ltb-false _ _ e

  module _ (n : ℕ) (fl : List Field) (o : InOrder n fl) where
    -- check 7 passes exactly where the fields hold digits only
    pub pass-exactly : (bad_fields fl r ≡ Pass) ↔ DigitsOnly fl r
    pass-exactly = (λ e. go (said n fl o) e, λ h. back h (said n fl o))
      where
        go : {x : Outcome} → Said fl r x → x ≡ Pass → DigitsOnly fl r
        go (passes h) e = h
        go (fails h) e = let z : ◌≡◌ {A = ℕ} 0 1 = cc in absurd (omega arith)

        back : DigitsOnly fl r → {x : Outcome} → Said fl r x → x ≡ Pass
        back h (passes g) = refl
        back h (fails {i} g) = absurd (false≢true (sym g.wrong ∙ h i g.inside))

    -- its fault is 7, behind the index of the first non-digit
    pub fault-told : {e p : ℕ} → bad_fields fl r ≡ Fails e p → (i : ℕ) × (e ≡ 7) × (p ≡ i + 1) × FirstNonDigit fl r i
    fault-told {e} {p} = go (said n fl o)
      where
        go : {x : Outcome} → Said fl r x → x ≡ Fails e p → (i : ℕ) × (e ≡ 7) × (p ≡ i + 1) × FirstNonDigit fl r i
        go (passes h) q = let z : ◌≡◌ {A = ℕ} 0 1 = cc in absurd (omega arith)
        go (fails {i} h) q = let same = fails-parts q in (i, sym same.0, sym same.1, h)

    -- and tells the position behind an index exactly where that is the index of the first non-digit
    pub fault-exactly : (i : ℕ) → (bad_fields fl r ≡ Fails 7 (i + 1)) ↔ FirstNonDigit fl r i
    fault-exactly i = (λ e. go (said n fl o) e, λ h. back h (said n fl o))
      where
        go : {x : Outcome} → Said fl r x → x ≡ Fails 7 (i + 1) → FirstNonDigit fl r i
        go (passes h) e = let z : ◌≡◌ {A = ℕ} 0 1 = cc in absurd (omega arith)
        go (fails {i = j} h) e = let k : j + 1 ≡ i + 1 = (fails-parts e).1 in let q : i ≡ j = omega arith in rw q h

        back : FirstNonDigit fl r i → {x : Outcome} → Said fl r x → x ≡ Fails 7 (i + 1)
        back h (passes g) = absurd (false≢true (sym h.wrong ∙ g i h.inside))
        back h (fails {i = j} g) = let a = one-first fl h g in let b = one-first fl g h in ap (λ (k : ℕ). Fails 7 (k + 1)) (let q : j ≡ i = omega arith in q)
