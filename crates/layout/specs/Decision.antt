-- Serves inner functions. The section decision, beside the table of sections: `decision-is-table` (proofs/Decision.antt) says that they agree on every number.
use Rattle.std.specs.Prelude.{ℕ, cond, eqb, Option, Some, None}
use Rattle.layout.specs.declared.Subtype.{Subtype}
use Rattle.layout.specs.declared.Subtype.TheVariants.{OfLine, OfBalance}
use Rattle.layout.specs.declared.Kind.{Kind}
use Rattle.layout.specs.declared.Kind.TheVariants.{Line, Balance, Unknown}
use Rattle.layout.specs.Sections.{section_at}
use Rattle.layout.specs.Kinds.{of_line, section_kind}

-- "a decision over the subtypes, in the order of the paper form", ask 3 of document 02: Erario, INPS, Regioni, IMU and local taxes, identifying elements
unfoldable pub decided : ℕ → Option Subtype
decided n =
    cond (eqb n 1) (Some (OfLine 0 2))
    (cond (eqb n 2) (Some (OfBalance 0))
    (cond (eqb n 3) (Some (OfLine 1 4))
    (cond (eqb n 4) (Some (OfBalance 1))
    (cond (eqb n 5) (Some (OfLine 2 6))
    (cond (eqb n 6) (Some (OfBalance 2))
    (cond (eqb n 7) (Some (OfLine 3 8))
    (cond (eqb n 8) (Some (OfBalance 3))
    (cond (eqb n 17) (Some (OfLine 4 18))
    (cond (eqb n 18) (Some (OfBalance 4)) None)))))))))

-- the kind of a record 40, by what its subtype stands for
abbrev pub kind_by : Option Subtype → Kind
kind_by (Some (OfLine s b)) = Line s
kind_by (Some (OfBalance s)) = Balance s
kind_by None = Unknown

-- the balance subtype of a line, by what the line's subtype stands for; none is 0
abbrev pub balance_by : Option Subtype → ℕ
balance_by (Some (OfLine s b)) = b
balance_by (Some (OfBalance s)) = 0
balance_by None = 0

-- "the step from a line's subtype to its balance subtype", looked up in the table: that of the section whose lines have the subtype; none is 0
abbrev pub balance_of : ℕ → ℕ
balance_of n = of_line 0 (λ s. (section_at s).balance_subtype) (section_kind n)
