-- Believed. The stage in the order of records: what the last record was, and the lines of the open section.
use Rattle.std.specs.Prelude.{ℕ}
use Rattle.order.specs.declared.Stage.{Stage}

-- the phases in the order of records, by what the last record was
abbrev pub at_start : ℕ
at_start = 0

abbrev pub after_head : ℕ
after_head = 1

abbrev pub after_taxpayer : ℕ
after_taxpayer = 2

abbrev pub after_domicile : ℕ
after_domicile = 3

abbrev pub after_line : ℕ
after_line = 4

abbrev pub after_balance : ℕ
after_balance = 5

abbrev pub after_payment : ℕ
after_payment = 6

abbrev pub after_receipt : ℕ
after_receipt = 7

abbrev pub after_addressee : ℕ
after_addressee = 8

abbrev pub after_tail : ℕ
after_tail = 9

-- the stage after a record of a phase, of section s, with n lines of that section so far
abbrev pub stage_at : ℕ → ℕ → ℕ → Stage
stage_at p s n = record { phase = p; section = s; lines = n }
