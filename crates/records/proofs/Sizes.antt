-- What a record of a flow measures: 120 bytes, and amounts of at most fifteen digits.
use Prim.Native.Nat.{ℕ, zero, suc, ◌+◌, ◌-◌, ◌*◌, ◌/◌, ◌<◌}
use mathlib.Core.Path.{◌≡◌, refl}
use mathlib.Core.List.{List, ◌++◌, map}
use native.Mathlib.Omega.{arith}
use native.Mathlib.Nat.{lt_of_lt_of_le, pow-le-pow_right}
use native.Mathlib.Decide.{dec_lt}
use lib.Dec.{lit<}
use lib.ListN.{length, take, drop, get_or, replicate, length-map, get_or-append, get_or-map}
use lib.Seq.{get_or-append-add}
use Rattle.text.specs.Numbers.{number_from}
use Rattle.text.proofs.Bytes.{part_length}
use Rattle.text.proofs.Numerals.{number-below}
use Rattle.layout.specs.declared.Field.{Field}
use Rattle.layout.specs.declared.Kind.{Kind}
use Rattle.layout.specs.declared.Kind.TheVariants.{Head, Taxpayer, Domicile, Line, Balance, Payment, Receipt, Addressee, Tail, Unknown}
use Rattle.layout.specs.Fields.{Within, nowhere, fields_of, bytes_of, value_of}
use Rattle.layout.proofs.Within.{fields_within}
use Rattle.rules.specs.State.{no_sums}
use Rattle.rules.specs.Bounds.{Small}
use Rattle.rules.specs.Values.{values_in}
use Rattle.rules.specs.Step.{line_sums}
use Rattle.rules.proofs.Reading.{pair_of}

-- a record of a flow is one of 120 bytes
pub record-sized : (s : List ℕ) (n : ℕ) → n < length s / 120 → length (take 120 (drop (n * 120) s)) ≡ 120
record-sized s n h = part_length 120 (n * 120) s (omega arith)

-- a value has at most fifteen digits
value-small : (r : List ℕ) (f : Field) → length r ≡ 120 → Within f → value_of r f < 1_000_000_000_000_000
value-small r f l w =
    let b = number-below (f.end - f.start) (bytes_of r f) (part_length (f.end - f.start) f.start r (omega arith)) in
    lt_of_lt_of_le b (pow-le-pow_right {n = 10} (lit< tt) {i = f.end - f.start} {j = 15} (omega arith))

zeros : (n i : ℕ) → get_or {A = ℕ} (replicate n 0) i 0 ≡ 0
zeros zero i = refl
zeros (suc n) zero = refl
zeros (suc n) (suc i) = zeros n i

each-small : (fl : List Field) (r : List ℕ) → length r ≡ 120 → ((j : ℕ) → j < length fl → Within (get_or fl j nowhere)) → (i : ℕ) → get_or (map (value_of r) fl ++ replicate (4 - length fl) 0) i 0 < 1_000_000_000_000_000
unfolding number_from
each-small fl r l w i = go (dec_lt i (length fl))
  where
    go : Dec (i < length fl) → get_or (map (value_of r) fl ++ replicate (4 - length fl) 0) i 0 < 1_000_000_000_000_000
    go (yes h) = rw (get_or-append (map (value_of r) fl) (replicate (4 - length fl) 0) 0 i (rw length-map h), get_or-map (value_of r) fl i nowhere) (value-small r (get_or fl i nowhere) l (w i h))
    go (no h) = rw (let e : i ≡ length (map (value_of r) fl) + (i - length fl) = omega (arith, length-map fl (value_of r)) in e, get_or-append-add (map (value_of r) fl) (replicate (4 - length fl) 0) (i - length fl) 0, zeros (4 - length fl) (i - length fl)) (omega arith)

pub pair_small : (k : Kind) (r : List ℕ) → length r ≡ 120 → Small (pair_of (values_in (fields_of k) r))
unfolding values_in
pair_small k r l = record { debit-small = each-small (fields_of k) r l (fields_within k) 1; credit-small = each-small (fields_of k) r l (fields_within k) 2 }

-- the amounts of a record that is no line are none, and small
none-small : Small no_sums
none-small = record { debit-small = omega arith; credit-small = omega arith }

-- the amounts of a record have at most fifteen digits
pub sums-small : (k : Kind) (r : List ℕ) → length r ≡ 120 → Small (line_sums k r)
unfolding values_in
sums-small Head r l = none-small
sums-small Taxpayer r l = none-small
sums-small Domicile r l = none-small
sums-small (Line s) r l = pair_small (Line s) r l
sums-small (Balance s) r l = none-small
sums-small Payment r l = none-small
sums-small Receipt r l = none-small
sums-small Addressee r l = none-small
sums-small Tail r l = none-small
sums-small Unknown r l = none-small
