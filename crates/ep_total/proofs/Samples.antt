-- The texts that document 02 prints, and others at the same bounds, with what they say; and texts that say nothing: a table each.
use Prim.Native.Nat.{ℕ, ◌-◌, ◌<◌}
use mathlib.Core.Path.{◌≡◌, refl, sym, ap, ◌∙◌}
use mathlib.Core.Bool.{false}
use mathlib.Core.List.{List, [], ◌∷◌, ◌++◌}
use lib.Dec.{lit<, lit≤}
use lib.ListN.{replicate, length}
use Rattle.text.specs.Numbers.{digits_of}
use Rattle.text.specs.Same.{same_bytes}
use Rattle.printing.specs.Decimal.{width_within, width_of, decimal}
use Rattle.printing.proofs.Widths.{decimal-between}
use Rattle.ep_total.specs.Answers.{Cents, NoTotal}
use Rattle.ep_total.specs.Total.{dot, comma, dotted_within, dotted, euro_text, total_text, total_field, with_digit, digits_in, total_of}
use Rattle.ep_total.proofs.Dotted.{dotted-small, dotted-more, euros-dotted, euros-plain}
use Rattle.ep_total.proofs.Reading.{other}
use Rattle.ep_total.proofs.Inverse.{read-written}

-- a text and spaces behind it
abbrev filled : List ℕ → List ℕ
filled t = t ++ replicate (15 - length t) 32

-- 0,05
abbrev five_cents : List ℕ
five_cents = 48 ∷ 44 ∷ 48 ∷ 53 ∷ []

-- 1.000,00
abbrev thousand : List ℕ
thousand = 49 ∷ 46 ∷ 48 ∷ 48 ∷ 48 ∷ 44 ∷ 48 ∷ 48 ∷ []

-- 999.999.999,99
abbrev last_dotted : List ℕ
last_dotted = 57 ∷ 57 ∷ 57 ∷ 46 ∷ 57 ∷ 57 ∷ 57 ∷ 46 ∷ 57 ∷ 57 ∷ 57 ∷ 44 ∷ 57 ∷ 57 ∷ []

-- 1000000000,00
abbrev first_plain : List ℕ
first_plain = 49 ∷ 48 ∷ 48 ∷ 48 ∷ 48 ∷ 48 ∷ 48 ∷ 48 ∷ 48 ∷ 48 ∷ 44 ∷ 48 ∷ 48 ∷ []

-- 999999999999,99
abbrev last_plain : List ℕ
last_plain = 57 ∷ 57 ∷ 57 ∷ 57 ∷ 57 ∷ 57 ∷ 57 ∷ 57 ∷ 57 ∷ 57 ∷ 57 ∷ 57 ∷ 44 ∷ 57 ∷ 57 ∷ []

field_of : (n : ℕ) (t : List ℕ) → total_text n ≡ t → total_field n ≡ filled t
unfolding total_field
field_of n t e = ap filled e

text-five : total_text 5 ≡ five_cents
unfolding total_text euro_text dotted dotted_within decimal width_of width_within digits_of
text-five = refl

text-thousand : total_text 100000 ≡ thousand
unfolding total_text decimal width_of width_within digits_of
text-thousand =
    ap (λ (l : List ℕ). l ++ (comma ∷ digits_of 2 0)) (euros-dotted 1000 (lit< tt) ∙ (dotted-more 1000 (lit≤ tt) ∙ ap (λ (l : List ℕ). l ++ (dot ∷ digits_of 3 0)) (dotted-small 1 (lit< tt))))

text-dotted : total_text 99999999999 ≡ last_dotted
unfolding total_text decimal width_of width_within digits_of
text-dotted =
    let one : dotted 999999 ≡ decimal 999 ++ (dot ∷ digits_of 3 999) = dotted-more 999999 (lit≤ tt) ∙ ap (λ (l : List ℕ). l ++ (dot ∷ digits_of 3 999)) (dotted-small 999 (lit< tt)) in
    let two : dotted 999999999 ≡ (decimal 999 ++ (dot ∷ digits_of 3 999)) ++ (dot ∷ digits_of 3 999) = dotted-more 999999999 (lit≤ tt) ∙ ap (λ (l : List ℕ). l ++ (dot ∷ digits_of 3 999)) one in
    ap (λ (l : List ℕ). l ++ (comma ∷ digits_of 2 99)) (euros-dotted 999999999 (lit< tt) ∙ two)

text-plain : total_text 100000000000 ≡ first_plain
unfolding total_text digits_of
text-plain = ap (λ (l : List ℕ). l ++ (comma ∷ digits_of 2 0)) (euros-plain 1000000000 (lit≤ tt) ∙ decimal-between 9 1000000000 (lit≤ tt) (lit< tt))

text-last : total_text 99999999999999 ≡ last_plain
unfolding total_text digits_of
text-last = ap (λ (l : List ℕ). l ++ (comma ∷ digits_of 2 99)) (euros-plain 999999999999 (lit≤ tt) ∙ decimal-between 11 999999999999 (lit≤ tt) (lit< tt))

-- a text of a number says it
says : (n : ℕ) (t : List ℕ) → total_text n ≡ t → n < 100000000000000 → total_of (filled t) ≡ Cents n
says n t e h = ap total_of (sym (field_of n t e)) ∙ read-written n h

-- "(0,05)", 1.000,00, "999.999.999,99 keeps them, 1000000000,00 doesn't", and the last that has a text
pub right-texts :
    (total_of (filled five_cents) ≡ Cents 5) × (total_of (filled thousand) ≡ Cents 100000) × (total_of (filled last_dotted) ≡ Cents 99999999999)
    × (total_of (filled first_plain) ≡ Cents 100000000000) × (total_of (filled last_plain) ≡ Cents 99999999999999)
right-texts =
    (says 5 five_cents text-five (lit< tt), says 100000 thousand text-thousand (lit< tt), says 99999999999 last_dotted text-dotted (lit< tt), says 100000000000 first_plain text-plain (lit< tt), says 99999999999999 last_plain text-last (lit< tt))

-- fifteen characters whose digits say n, and which are not the text of n, say nothing
nothing : (n : ℕ) (t u : List ℕ) → total_text n ≡ u → length t ≡ 15 → n ≡ digits_in 0 t → same_bytes t (filled u) ≡ false → total_of t ≡ NoTotal
nothing n t u e l d f = other t n l d false (sym (ap (same_bytes t) (field_of n u e) ∙ f)) refl

-- 00,05 (a leading zero)
abbrev zero_in_front : List ℕ
zero_in_front = filled (48 ∷ 48 ∷ 44 ∷ 48 ∷ 53 ∷ [])

-- ,05 (no digit)
abbrev no_digit : List ℕ
no_digit = filled (44 ∷ 48 ∷ 53 ∷ [])

-- 0,5 (one decimal)
abbrev one_decimal : List ℕ
one_decimal = filled (48 ∷ 44 ∷ 53 ∷ [])

-- 0,05 behind a space
abbrev space_in_front : List ℕ
space_in_front = filled (32 ∷ 48 ∷ 44 ∷ 48 ∷ 53 ∷ [])

-- 1000,00 (no dot)
abbrev no_dot : List ℕ
no_dot = filled (49 ∷ 48 ∷ 48 ∷ 48 ∷ 44 ∷ 48 ∷ 48 ∷ [])

-- 999999999,99 (no dots)
abbrev no_dots : List ℕ
no_dots = filled (57 ∷ 57 ∷ 57 ∷ 57 ∷ 57 ∷ 57 ∷ 57 ∷ 57 ∷ 57 ∷ 44 ∷ 57 ∷ 57 ∷ [])

-- "any other text gives 33"
pub wrong-texts :
    (total_of zero_in_front ≡ NoTotal) × (total_of no_digit ≡ NoTotal) × (total_of one_decimal ≡ NoTotal) × (total_of space_in_front ≡ NoTotal) × (total_of no_dot ≡ NoTotal) × (total_of no_dots ≡ NoTotal)
unfolding digits_in with_digit same_bytes
wrong-texts = (
  nothing 5 zero_in_front five_cents text-five refl refl refl,
  nothing 5 no_digit five_cents text-five refl refl refl,
  nothing 5 one_decimal five_cents text-five refl refl refl,
  nothing 5 space_in_front five_cents text-five refl refl refl,
  nothing 100000 no_dot thousand text-thousand refl refl refl,
  nothing 99999999999 no_dots last_dotted text-dotted refl refl refl,
)
