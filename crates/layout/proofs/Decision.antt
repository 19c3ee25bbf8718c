-- The section decision and the table of sections agree.
use Prim.Native.Nat.{ℕ}
use mathlib.Core.Path.{◌≡◌, refl}
use mathlib.Core.Bool.{Bool, true, false, cond}
use lib.Dec.{eqb, eqb→eq}
use Rattle.std.specs.Prelude.{Option}
use Rattle.layout.specs.declared.Section.{Section}
use Rattle.layout.specs.declared.Subtype.{Subtype}
use Rattle.layout.specs.declared.Kind.{Kind}
use Rattle.layout.specs.Sections.{sections, no_section, section_at}
use Rattle.layout.specs.Kinds.{of_line, section_kind_from, section_kind}
use Rattle.layout.specs.Decision.{decided, kind_by, balance_by, balance_of}
use Rattle.layout.proofs.Table.{everywhere}

-- what is decided of a subtype has this kind, and the balance subtype of this kind's row
abbrev Agree : Option Subtype → Kind → Type 0
Agree t k = (kind_by t ≡ k) × (balance_by t ≡ of_line 0 (λ s. (section_at s).balance_subtype) k)

choice : (b : Bool) (t u : Option Subtype) (j k : Kind) → Agree t j → Agree u k → Agree (cond b t u) (cond b j k)
choice true t u j k p q = p
choice false t u j k p q = q

-- decision and table agree on the kind and on the balance for every number, those that are no subtype among them
pub decision-is-table : (n : ℕ) → (kind_by (decided n) ≡ section_kind n) × (balance_by (decided n) ≡ balance_of n)
unfolding decided section_kind_from section_at
decision-is-table n =
    choice (eqb n 1) _ _ _ _ (refl, refl)
    (choice (eqb n 2) _ _ _ _ (refl, refl)
    (choice (eqb n 3) _ _ _ _ (refl, refl)
    (choice (eqb n 4) _ _ _ _ (refl, refl)
    (choice (eqb n 5) _ _ _ _ (refl, refl)
    (choice (eqb n 6) _ _ _ _ (refl, refl)
    (choice (eqb n 7) _ _ _ _ (refl, refl)
    (choice (eqb n 8) _ _ _ _ (refl, refl)
    (choice (eqb n 17) _ _ _ _ (refl, refl)
    (choice (eqb n 18) _ _ _ _ (refl, refl) (refl, refl))))))))))

-- the balance that closes the lines of a section is the section's, also past the table
pub closing-balance : (s : ℕ) → balance_of (section_at s).line_subtype ≡ (section_at s).balance_subtype
unfolding section_kind_from section_at
closing-balance s = eqb→eq _ _ (everywhere (λ (x : Section). eqb (balance_of x.line_subtype) x.balance_subtype) no_section sections tt tt s)
