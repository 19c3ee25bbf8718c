-- Laws of the lines of the sections: a subtype has two digits, and the lines of one section after another are those of all.
use Prim.Native.Nat.{ℕ, zero, suc, ◌+◌, ◌*◌, ◌≤◌, ◌<◌}
use mathlib.Core.Path.{◌≡◌, sym, ap, ◌∙◌}
use mathlib.Core.List.{List, [], ◌∷◌, ◌++◌, append_assoc, append-nil}
use native.Mathlib.Numerals.{add-one}
use native.Mathlib.Omega.{arith}
use lib.ListN.{length, take, get_or}
use lib.Seq.{length-take-le, take-suc, take_all}
use Rattle.layout.specs.Sections.{section_at}
use Rattle.amounts.specs.declared.Sums.{Sums}
use Rattle.rules.specs.State.{no_sums}
use Rattle.report.specs.Printed.{section_text, sections_from, sections_text}
use Rattle.report.specs.Appended.{Appended}
use Rattle.printing.proofs.Appending.{append-none, append-on}

-- The subtype of a section's lines has two digits.
pub subtype-short : (s : ℕ) → (section_at s).line_subtype < 100
unfolding section_at
subtype-short zero = omega arith
subtype-short (suc zero) = omega arith
subtype-short (suc (suc zero)) = omega arith
subtype-short (suc (suc (suc zero))) = omega arith
subtype-short (suc (suc (suc (suc zero)))) = omega arith
subtype-short (suc (suc (suc (suc (suc s))))) = omega arith

-- The lines of the first s sections.
unfoldable pub first_lines : ℕ → List Sums → List ℕ
first_lines s l = sections_from 0 (take s l)

-- The lines of one section more end with its line.
lines_snoc : (i : ℕ) (l : List Sums) (x : Sums) → sections_from i (l ++ (x ∷ [])) ≡ sections_from i l ++ section_text (i + length l) x
unfolding sections_from
lines_snoc i [] x = append-nil (section_text i x) ∙ ap (λ (n : ℕ). section_text n x) (let e : i ≡ i + 0 = omega arith in e)
lines_snoc i (y ∷ l) x =
    let e : i + 1 + length l ≡ i + suc (length l) = omega arith in
    rw (lines_snoc (i + 1) l x, e) (sym (append_assoc (section_text i y) (sections_from (i + 1) l) (section_text (i + suc (length l)) x)))

-- No line is printed at first.
pub lines_none : (s : ℕ) (l : List Sums) (r : List ℕ) → s ≤ length r → Appended s (first_lines 0 l) (45 * 0) r r s
unfolding first_lines sections_from
lines_none s l r h = append-none h

-- A turn of the loop over sections prints the line of the next section.
pub lines-on : (l : List Sums) (s : ℕ) {at : ℕ} {r r' r'' : List ℕ} {e f : ℕ} → s < length l → Appended at (first_lines s l) (45 * s) r r' e → Appended e (section_text s (get_or l s no_sums)) 45 r' r'' f → Appended at (first_lines (s + 1) l) (45 * (s + 1)) r r'' f
unfolding first_lines
lines-on l s h a b =
    let e : 0 + length (take s l) ≡ s = omega (arith, length-take-le s l (omega arith)) in
    let n : 45 * s + 45 ≡ 45 * suc s = omega arith in
    rw (add-one s, take-suc l s no_sums h, lines_snoc 0 (take s l) (get_or l s no_sums), e, ← n) (append-on a b)

-- After the fifth section all lines are printed.
pub lines-all : (l : List Sums) (s : ℕ) {at : ℕ} {r r' : List ℕ} {e : ℕ} → length l ≡ 5 → s ≡ 5 → Appended at (first_lines s l) (45 * s) r r' e → Appended at (sections_text l) 225 r r' e
unfolding first_lines sections_text
lines-all l s h k a =
    let t : Appended _ (sections_from 0 (take s l)) (45 * s) _ _ _ = a in
    rw (k, take_all 5 l (omega arith)) at t
