-- A turn over the numeric fields of a kind of record, as the code hands them out: the field that is looked at is one of the kind's and lies within the record, and what it says is the next value or the fault.
use Prim.Native.Nat.{ℕ, suc, ◌+◌, ◌-◌, ◌<◌, ◌≤◌}
use mathlib.Core.Path.{◌≡◌, refl, sym, ap, ◌∙◌}
use mathlib.Core.List.{List, [], ◌∷◌, ◌++◌, map, append_assoc, map-append}
use mathlib.Core.Bool.{false≢true}
use native.Mathlib.Omega.{arith}
use native.Mathlib.Numerals.{add-one}
use native.Mathlib.Nat.{min-le_left}
use lib.ListN.{length, take, drop, get_or, set, replicate, length-map, length-take, drop_of_length-le}
use lib.Seq.{drop-cons, set_at, take-suc, take_all, length-take-le}
use Rattle.std.specs.Result.{IsErr}
use Rattle.text.specs.Answers.{Digits, Number, NonDigit, TooLong}
use Rattle.text.specs.Numbers.{number_of}
use Rattle.text.proofs.NonDigits.{Tells, number, non-digit, digits-told}
use Rattle.layout.specs.declared.Field.{Field}
use Rattle.layout.specs.declared.Fields.{Fields}
use Rattle.layout.specs.declared.Kind.{Kind}
use Rattle.layout.specs.Fields.{Within, nowhere, listed, fields_of, bytes_of, value_of}
use Rattle.layout.proofs.Within.{fields_within, fields-four, listed_at}
use Rattle.refusal.specs.Outcomes.{Outcome, Pass, Fails}
use Rattle.rules.specs.Checks.{or_bad, bad_fields}
use Rattle.rules.specs.Values.{values_in}
use Rattle.records.specs.Reading.{non_digit_at}

module _ (k : Kind) (fs : Fields) (e : fs ≡ listed (fields_of k)) (f : ℕ) (h : f < fs.count) where
  pub inside : f < length (fields_of k)
  inside = omega (arith, ap (λ (x : Fields). x.count) e)

  pub in_four : f < 4
  in_four = omega (arith, inside, fields-four k)

  pub field_is : get_or fs.fields f nowhere ≡ get_or (fields_of k) f nowhere
  field_is = ap (λ (x : Fields). get_or x.fields f nowhere) e ∙ listed_at (fields_of k) f inside

  pub field-within : Within (get_or fs.fields f nowhere)
  field-within = rw field_is (fields_within k f inside)

-- an answer that is no number is a fault, at the position of the first non-digit
no_number : (d : Digits) → IsErr d → (f : Field) (o : Outcome) → or_bad d f o ≡ Fails 7 (non_digit_at f d)
no_number (Number v) t f o = absurd (false≢true t)
no_number (NonDigit i) t f o = refl
no_number TooLong t f o = ap (Fails 7) (let e : f.start + 1 ≡ f.start + 0 + 1 = omega arith in e)

-- the position told is small
pub non-digit-near : (f : Field) (r : List ℕ) → Within f → (d : Digits) → d ≡ number_of (bytes_of r f) → non_digit_at f d < 1000
non-digit-near f r w d e = rw e (go (number_of (bytes_of r f)) (digits-told (bytes_of r f)))
  where
    narrow : length (bytes_of r f) ≤ 15
    narrow = omega (arith, w.narrow, length-take (f.end - f.start) (drop f.start r), min-le_left (f.end - f.start) (length (drop f.start r)))

    go : (d : Digits) → Tells 0 (bytes_of r f) d → non_digit_at f d < 1000
    go (Number v) (number h) = omega (arith, w.forward, w.inside)
    go (NonDigit k) (non-digit m p h q g) = omega (arith, w.forward, w.inside, narrow)
    go TooLong x = elim x [ ]

-- a turn over the fields
module _ (fl : List Field) (r : List ℕ) (j : ℕ) (h : j < length fl) where
  pub bad-on : (v : ℕ) → number_of (bytes_of r (get_or fl j nowhere)) ≡ Number v → bad_fields (drop j fl) r ≡ bad_fields (drop (j + 1) fl) r
  unfolding bad_fields
  bad-on v e = rw (drop-cons fl j nowhere h, e, add-one)

  -- an answer that is no number is the fault 7, at the position of the first non-digit
  pub bad-here : (d : Digits) → d ≡ number_of (bytes_of r (get_or fl j nowhere)) → IsErr d → bad_fields (drop j fl) r ≡ Fails 7 (non_digit_at (get_or fl j nowhere) d)
  unfolding bad_fields
  bad-here d e t = rw (drop-cons fl j nowhere h, ← e) (no_number d t (get_or fl j nowhere) (bad_fields (drop (suc j) fl) r))

  -- the values of the first j + 1 fields, in room for n
  pub read-on : (n : ℕ) → j < n → set (map (value_of r) (take j fl) ++ replicate (n - j) 0) j (value_of r (get_or fl j nowhere)) ≡ map (value_of r) (take (j + 1) fl) ++ replicate (n - (j + 1)) 0
  read-on n g =
      let v = value_of r (get_or fl j nowhere) in
      let l : length (map (value_of r) (take j fl)) ≡ j = length-map (take j fl) (value_of r) ∙ length-take-le j fl (omega arith) in
      ap (λ (m : ℕ). set (map (value_of r) (take j fl) ++ replicate m 0) j v) (let e : n - j ≡ suc (n - (j + 1)) = omega arith in e)
      ∙ (set_at (map (value_of r) (take j fl)) 0 (replicate (n - (j + 1)) 0) v j l
      ∙ (sym (append_assoc (map (value_of r) (take j fl)) (v ∷ []) (replicate (n - (j + 1)) 0))
      ∙ ap (λ (t : List ℕ). t ++ replicate (n - (j + 1)) 0) (sym (map-append (value_of r) (take j fl) (get_or fl j nowhere ∷ [])) ∙ ap (map (value_of r)) (sym (ap (λ (m : ℕ). take m fl) (add-one j) ∙ take-suc fl j nowhere h)))))

pub bad-end : (fl : List Field) (r : List ℕ) (j : ℕ) → length fl ≤ j → bad_fields (drop j fl) r ≡ Pass
unfolding bad_fields
bad-end fl r j h = rw (drop_of_length-le fl h)

pub read-end : (fl : List Field) (r : List ℕ) (j : ℕ) → length fl ≡ j → map (value_of r) (take j fl) ++ replicate (4 - j) 0 ≡ values_in fl r
unfolding values_in
read-end fl r j e = rw (take_all j fl (omega arith), e)
