-- Believed. The fields of a balance record that store something, in the order of position.
use Rattle.std.specs.Prelude.{ℕ, ◌+◌, cond, List, [], ◌∷◌}
use Rattle.layout.specs.declared.Field.{Field}
use Rattle.layout.specs.Sections.{section_at}
use Rattle.layout.specs.Fields.{amount_at}

-- "40-06: .. sign 45, balance 46-60", "40-18: sign 43, balance 44-58": the sign and the balance of section s, by the columns of the table.
abbrev pub sign_and_balance : ℕ → List Field
sign_and_balance s = record { start = (section_at s).sign; end = (section_at s).sign + 1 } ∷ amount_at (section_at s).balance ∷ []

-- "40-06: total debit 15-29, total credit 30-44", "40-18: .. it has no totals": the totals before them, where it has some.
abbrev pub balance_columns : ℕ → List Field
balance_columns s =
    cond (section_at s).totals
    (amount_at (section_at s).total_debit ∷ amount_at (section_at s).total_credit ∷ sign_and_balance s)
    (sign_and_balance s)
