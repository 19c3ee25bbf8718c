-- A record is a line or it is none; each subtype of lines names one section of the table.
use Prim.Native.Nat.{ℕ, zero, suc, ◌+◌, ◌-◌, ◌<◌, ◌≤◌}
use mathlib.Core.Path.{◌≡◌, refl, sym}
use mathlib.Core.Bool.{Bool, true, false, cond}
use mathlib.Core.List.{List, [], ◌∷◌}
use mathlib.Core.Logic.{◌⊎◌, inl, inr}
use types.Run.{OneOf, hit, miss}
use denote.Enum.Declared.{tag_of}
use native.Mathlib.Omega.{arith}
use native.Mathlib.Nat.{sub-zero}
use borrow.Author.Tests.{eqb-true}
use lib.Dec.{eqb}
use lib.ListN.{length, get_or}
use Rattle.layout.specs.declared.Section.{Section}
use Rattle.layout.specs.declared.Kind.{Kind}
use Rattle.layout.specs.declared.Kind.TheVariants.{Head, Taxpayer, Domicile, Line, Balance, Payment, Receipt, Addressee, Tail, Unknown}
use Rattle.layout.specs.contracts.Kind.{the_type}
use Rattle.layout.proofs.OtherKinds.{but-line}
use Rattle.layout.specs.Sections.{sections, no_section, section_at}
use Rattle.layout.specs.Kinds.{section_kind_from, section_kind}

-- a record of this kind is no line
abbrev pub Other : Kind → Type 0
Other k = OneOf but-line (tag_of the_type k)

pub no_other : (s : ℕ) → Other (Line s) → ⊥
no_other s o = miss but-line 3 tt o

-- it is a line of a section, or it is none
abbrev pub LineOrOther : Kind → Type 0
LineOrOther k = ((s : ℕ) × (k ≡ Line s)) ⊎ Other k

pub line-or-other : (k : Kind) → LineOrOther k
line-or-other Head = inr (hit but-line 0 tt)
line-or-other Taxpayer = inr (hit but-line 1 tt)
line-or-other Domicile = inr (hit but-line 2 tt)
line-or-other (Line s) = inl (s, refl)
line-or-other (Balance s) = inr (hit but-line 4 tt)
line-or-other Payment = inr (hit but-line 5 tt)
line-or-other Receipt = inr (hit but-line 6 tt)
line-or-other Addressee = inr (hit but-line 7 tt)
line-or-other Tail = inr (hit but-line 8 tt)
line-or-other Unknown = inr (hit but-line 9 tt)

-- a subtype that names the lines of section s, among the rows from the i-th on, is that of the row
pub record RowOf (i : ℕ) (xs : List Section) (n s : ℕ) : Type 0 where
  pub from : i ≤ s
  pub below : s < i + length xs
  pub subtype : (get_or xs (s - i) no_section).line_subtype ≡ n

row_of : (i : ℕ) (xs : List Section) (n s : ℕ) → section_kind_from i xs n ≡ Line s → RowOf i xs n s
unfolding section_kind_from
row_of i [] n s e = let z : ◌≡◌ {A = ℕ} 0 1 = cc in absurd (omega arith)
row_of i (x ∷ xs) n s e = go (eqb n x.line_subtype) (eqb n x.balance_subtype) refl e (row_of (i + 1) xs n s)
  where
    go : (a b : Bool) → eqb n x.line_subtype ≡ a → cond a (Line i) (cond b (Balance i) (section_kind_from (i + 1) xs n)) ≡ Line s →
        (section_kind_from (i + 1) xs n ≡ Line s → RowOf (i + 1) xs n s) → RowOf i (x ∷ xs) n s
    go true b q f g =
        let j : i ≡ s = cc in
        let z : s - i ≡ 0 = omega arith in
        record { from = omega arith; below = omega arith; subtype = rw z (sym (eqb-true _ _ q)) }
    go false true q f g = let z : ◌≡◌ {A = ℕ} 0 1 = cc in absurd (omega arith)
    go false false q f g =
        let h = g f in
        let z : s - i ≡ suc (s - (i + 1)) = omega (arith, h.from) in
        record { from = omega (arith, h.from); below = omega (arith, h.below); subtype = rw z h.subtype }

-- the section that a subtype names is of the table, and the subtype is that of its lines
pub named-row : (n s : ℕ) → section_kind n ≡ Line s → (s < 5) × ((section_at s).line_subtype ≡ n)
unfolding section_at
named-row n s e =
    let h = row_of 0 sections n s e in
    (h.below, rw sub-zero at h.subtype)

-- the subtype of a section's lines names that section
pub row_named : (s : ℕ) → s < 5 → section_kind (section_at s).line_subtype ≡ Line s
unfolding section_at section_kind_from
row_named zero h = refl
row_named (suc zero) h = refl
row_named (suc (suc zero)) h = refl
row_named (suc (suc (suc zero))) h = refl
row_named (suc (suc (suc (suc zero)))) h = refl
row_named (suc (suc (suc (suc (suc s))))) h = absurd (omega arith)
