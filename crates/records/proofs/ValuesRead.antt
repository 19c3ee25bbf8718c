-- Laws of the values of a record's fields: none is bad, or the position of the first non-digit.
use Rattle.std.specs.Prelude.{Ok, Err}
use Prim.Native.Nat.{ℕ, ◌+◌, ◌<◌}
use mathlib.Core.Path.{◌≡◌, refl, sym, ap₂, ◌∙◌}
use mathlib.Core.List.{List, [], ◌∷◌}
use native.Mathlib.Omega.{arith}
use Rattle.text.specs.Answers.{Digits, Number, NonDigit, TooLong}
use Rattle.text.specs.Numbers.{number_of}
use Rattle.layout.specs.declared.Field.{Field}
use Rattle.layout.specs.Fields.{bytes_of}
use Rattle.refusal.proofs.Parts.{fails-parts}
use Rattle.refusal.specs.Outcomes.{Outcome, Pass, Fails}
use Rattle.rules.specs.Checks.{or_bad, bad_fields}
use Rattle.rules.specs.Values.{values_in}
use Rattle.records.specs.Reading.{values_by, values_read}

-- a field that is no number is refused with 7, at a position above 0
bad-seven : (fl : List Field) (r : List ℕ) {e p : ℕ} → bad_fields fl r ≡ Fails e p → (e ≡ 7) × (0 < p)
unfolding bad_fields
bad-seven [] r g = let z : ◌≡◌ {A = ℕ} 0 1 = cc in absurd (omega arith)
bad-seven (f ∷ fl) r {e = e} {p = p} g = go (number_of (bytes_of r f)) g (λ h. bad-seven fl r h)
  where
    go : (d : Digits) → or_bad d f (bad_fields fl r) ≡ Fails e p → (bad_fields fl r ≡ Fails e p → (e ≡ 7) × (0 < p)) → (e ≡ 7) × (0 < p)
    go (Number v) h ih = ih h
    go (NonDigit i) h ih = let same = fails-parts h in (sym same.0, omega (arith, same.1))
    go TooLong h ih = let same = fails-parts h in (sym same.0, omega (arith, same.1))

-- where all are digits, they are the values
pub values-good : (fl : List Field) (r vs : List ℕ) → values_read fl r ≡ Ok vs → (bad_fields fl r ≡ Pass) × (vs ≡ values_in fl r)
unfolding values_read
values-good fl r vs z = go (bad_fields fl r) refl z
  where
    go : (o : Outcome) → bad_fields fl r ≡ o → values_by o (values_in fl r) ≡ Ok vs → (bad_fields fl r ≡ Pass) × (vs ≡ values_in fl r)
    go Pass g e = (g, sym cc)
    go (Err why) g e = let n : ◌≡◌ {A = ℕ} 0 1 = cc in absurd (omega arith)

-- else the position is that of fault 7
pub values-bad : (fl : List Field) (r : List ℕ) (p : ℕ) → values_read fl r ≡ Err p → bad_fields fl r ≡ Fails 7 p
unfolding values_read
values-bad fl r p z = go (bad_fields fl r) refl z
  where
    go : (o : Outcome) → bad_fields fl r ≡ o → values_by o (values_in fl r) ≡ Err p → bad_fields fl r ≡ Fails 7 p
    go Pass g e = let n : ◌≡◌ {A = ℕ} 0 1 = cc in absurd (omega arith)
    go (Err why) g e = let q : why.position ≡ p = cc in g ∙ ap₂ Fails (bad-seven fl r g).0 q
