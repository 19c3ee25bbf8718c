-- Believed. The table of the five sections. Columns are given as document 01 and CBI-F24-001 count them; `at` turns them into indexes.
use Rattle.std.specs.Prelude.{ℕ, ◌-◌, true, false, List, [], ◌∷◌, get_or}
use Rattle.layout.specs.declared.Section.{Section}

-- "Positions count from 1": the index of a position
abbrev pub at : ℕ → ℕ
at p = p - 1

-- a section whose balance record has totals: subtypes, debit and credit of a line, totals, sign and balance, most lines
abbrev with_totals : ℕ → ℕ → ℕ → ℕ → ℕ → ℕ → ℕ → ℕ → ℕ → Section
with_totals l b d c td tc sign bal most =
    record {
      line_subtype = l;
      balance_subtype = b;
      debit = at d;
      credit = at c;
      totals = true;
      total_debit = at td;
      total_credit = at tc;
      sign = at sign;
      balance = at bal;
      most_lines = most;
      credit_allowed = true;
    }

-- "40-18: sign 43, balance 44-58; it has no totals"; "In section 17 the credit must be zero"
abbrev identifying : Section
identifying =
    record {
      line_subtype = 17;
      balance_subtype = 18;
      debit = at 41;
      credit = at 56;
      totals = false;
      total_debit = 0;
      total_credit = 0;
      sign = at 43;
      balance = at 44;
      most_lines = 28;
      credit_allowed = false;
    }

-- Erario, INPS, Regioni, IMU and local taxes, identifying elements
abbrev pub sections : List Section
sections =
    with_totals 1 2 27 42 13 28 43 44 6
    ∷ with_totals 3 4 52 67 13 28 43 44 4
    ∷ with_totals 5 6 29 44 15 30 45 46 4
    ∷ with_totals 7 8 31 46 17 32 47 48 4
    ∷ identifying
    ∷ []

-- past the table: no section
abbrev pub no_section : Section
no_section =
    record {
      line_subtype = 0;
      balance_subtype = 0;
      debit = 0;
      credit = 0;
      totals = false;
      total_debit = 0;
      total_credit = 0;
      sign = 0;
      balance = 0;
      most_lines = 0;
      credit_allowed = false;
    }

-- the row of section s
unfoldable pub section_at : ℕ → Section
section_at s = get_or sections s no_section
