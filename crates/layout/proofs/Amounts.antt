-- The numeric fields of a record of a delega: its number comes first, and behind it amounts, each at a fixed distance from the one before.
use Prim.Native.Nat.{ℕ, zero, suc, ◌+◌, ◌-◌, ◌<◌, ◌≤◌}
use mathlib.Core.Path.{◌≡◌, refl, ap}
use mathlib.Core.Bool.{Bool, true, cond, false≢true}
use mathlib.Core.List.{List, [], ◌∷◌}
use native.Mathlib.Omega.{arith}
use native.Mathlib.Nat.{add-zero}
use lib.Dec.{T, eqb, eqb→eq}
use lib.ListN.{length, get_or, drop, length-drop}
use lib.Seq.{get_or-drop}
use Rattle.layout.specs.declared.Field.{Field}
use Rattle.layout.specs.declared.Section.{Section}
use Rattle.layout.specs.declared.Kind.{Kind}
use Rattle.layout.specs.declared.Kind.TheVariants.{Head, Taxpayer, Domicile, Line, Balance, Payment, Receipt, Addressee, Tail, Unknown}
use Rattle.layout.specs.Sections.{sections, no_section, section_at}
use Rattle.layout.specs.Kinds.{kind_in, numbered}
use Rattle.layout.specs.Fields.{Within, fields_of, nowhere, amount_at, delega_number}
use Rattle.layout.proofs.InTable.{section_of, section-within}
use Rattle.layout.proofs.Within.{fields_within, fields-four}
use Rattle.layout.proofs.Table.{both, both_left, both_right, at_each}

-- the numeric fields of a kind but the first
abbrev pub behind : Kind → List Field
behind k = drop 1 (fields_of k)

-- the number is the first numeric field of a record that carries it
pub number-first : (k : Kind) → numbered k ≡ true → fields_of k ≡ delega_number ∷ behind k
unfolding numbered
number-first Head h = absurd (false≢true h)
number-first Taxpayer h = refl
number-first Domicile h = refl
number-first (Line s) h = refl
number-first (Balance s) h = refl
number-first Payment h = refl
number-first Receipt h = refl
number-first Addressee h = refl
number-first Tail h = absurd (false≢true h)
number-first Unknown h = absurd (false≢true h)

-- a field is as wide as an amount, and the next one starts 15 + i behind it
abbrev wide : Field → Bool
wide x = eqb x.end (x.start + 15)

abbrev apart : ℕ → Field → Field → Bool
apart i x y = eqb y.start (x.start + (15 + i))

-- amounts in turn, from the i-th on
abbrev in_turn : ℕ → List Field → Bool
in_turn i [] = true
in_turn i (x ∷ []) = wide x
in_turn i (x ∷ y ∷ fl) = both (wide x) (both (apart i x y) (in_turn (i + 1) (y ∷ fl)))

-- so stand the fields behind the number, by a test of the table
in-turn : (k : Kind) → section_of k < 5 → numbered k ≡ true → T (in_turn 0 (behind k))
unfolding numbered section_at
in-turn Head w h = absurd (false≢true h)
in-turn Taxpayer w h = tt
in-turn Domicile w h = tt
in-turn (Line s) w h = at_each (λ (x : Section). in_turn 0 (amount_at x.debit ∷ amount_at x.credit ∷ [])) no_section sections tt s w
in-turn (Balance s) w h =
    at_each (λ (x : Section). in_turn 0 (cond x.totals (amount_at x.total_debit ∷ amount_at x.total_credit ∷ amount_at x.balance ∷ []) (amount_at x.balance ∷ []))) no_section sections tt s w
in-turn Payment w h = tt
in-turn Receipt w h = tt
in-turn Addressee w h = tt
in-turn Tail w h = absurd (false≢true h)
in-turn Unknown w h = absurd (false≢true h)

-- what the test says of two fields in turn, and of those behind
module _ (i : ℕ) (x y : Field) (fl : List Field) (t : T (in_turn i (x ∷ y ∷ fl))) where
  this-wide : T (wide x)
  this-wide = both_left (wide x) (both (apart i x y) (in_turn (i + 1) (y ∷ fl))) t

  rest : T (both (apart i x y) (in_turn (i + 1) (y ∷ fl)))
  rest = both_right (wide x) (both (apart i x y) (in_turn (i + 1) (y ∷ fl))) t

  next-apart : T (apart i x y)
  next-apart = both_left (apart i x y) (in_turn (i + 1) (y ∷ fl)) rest

  on : T (in_turn (i + 1) (y ∷ fl))
  on = both_right (apart i x y) (in_turn (i + 1) (y ∷ fl)) rest

an-amount : (x : Field) → T (wide x) → x ≡ amount_at x.start
an-amount x t = ap (λ (e : ℕ). record { start = x.start; end = e }) (eqb→eq x.end (x.start + 15) t)

wide_at : (i : ℕ) (fl : List Field) → T (in_turn i fl) → (f : ℕ) → f < length fl → get_or fl f nowhere ≡ amount_at (get_or fl f nowhere).start
wide_at i [] t f h = absurd (omega arith)
wide_at i (x ∷ []) t zero h = an-amount x t
wide_at i (x ∷ []) t (suc f) h = absurd (omega arith)
wide_at i (x ∷ y ∷ fl) t zero h = an-amount x (this-wide i x y fl t)
wide_at i (x ∷ y ∷ fl) t (suc f) h = wide_at (i + 1) (y ∷ fl) (on i x y fl t) f (omega arith)

next-at : (i : ℕ) (fl : List Field) → T (in_turn i fl) → (f : ℕ) → suc f < length fl → (get_or fl (suc f) nowhere).start ≡ (get_or fl f nowhere).start + (15 + (i + f))
next-at i [] t f h = absurd (omega arith)
next-at i (x ∷ []) t f h = absurd (omega arith)
next-at i (x ∷ y ∷ fl) t zero h = rw (add-zero i) (eqb→eq y.start (x.start + (15 + i)) (next-apart i x y fl t))
next-at i (x ∷ y ∷ fl) t (suc f) h =
    let z : i + 1 + f ≡ i + suc f = omega arith in
    rw (← z) (next-at (i + 1) (y ∷ fl) (on i x y fl t) f (omega arith))

pub behind-length : (k : Kind) → length (behind k) ≡ length (fields_of k) - 1
behind-length k = length-drop 1 (fields_of k)

pub behind-three : (k : Kind) → length (behind k) ≤ 3
behind-three k = omega (arith, behind-length k, fields-four k)

-- the first of them is the second field
pub behind-first : (k : Kind) → get_or (behind k) 0 nowhere ≡ get_or (fields_of k) 1 nowhere
behind-first k = get_or-drop 1 (fields_of k) 0 nowhere

module _ (r : List ℕ) (n : numbered (kind_in r) ≡ true) where
  turn : T (in_turn 0 (behind (kind_in r)))
  turn = in-turn (kind_in r) (section-within r) n

  module _ (f : ℕ) (h : f < length (behind (kind_in r))) where
    -- behind the number stand amounts
    pub behind-amount : get_or (behind (kind_in r)) f nowhere ≡ amount_at (get_or (behind (kind_in r)) f nowhere).start
    behind-amount = wide_at 0 (behind (kind_in r)) turn f h

    -- within the record
    pub behind-within : (get_or (behind (kind_in r)) f nowhere).start + 15 ≤ 120
    behind-within =
        let l = behind-length (kind_in r) in
        let w : Within (get_or (behind (kind_in r)) f nowhere) = rw (get_or-drop 1 (fields_of (kind_in r)) f nowhere) (fields_within (kind_in r) (1 + f) (omega arith)) in
        let e = ap (λ (x : Field). x.end) behind-amount in
        omega arith

    -- the second follows the first at once, and the third comes after a sign
    pub behind-next : f + 1 < length (behind (kind_in r)) → (get_or (behind (kind_in r)) (f + 1) nowhere).start ≡ (get_or (behind (kind_in r)) f nowhere).start + (15 + f)
    behind-next g =
        let z : suc f ≡ f + 1 = omega arith in
        let x : 0 + f ≡ f = omega arith in
        rw (z, x) at (next-at 0 (behind (kind_in r)) turn f (omega arith))
