-- Believed. What the records so far have established: the state of a judgement between two records.
use Rattle.std.specs.Prelude.{List, replicate}
use Rattle.amounts.specs.declared.Sums.{Sums}
use Rattle.rules.specs.declared.DelegaSums.{DelegaSums}
use Rattle.order.specs.Stages.{stage_at, at_start}
use Rattle.rules.specs.declared.Money.{Money}
use Rattle.rules.specs.declared.State.{State}

-- a debit and a credit of zero
abbrev pub no_sums : Sums
no_sums = record { debit = 0; credit = 0 }

-- "Sums start at zero for every delega"
abbrev pub zero_sections : List Sums
zero_sections = replicate 5 no_sums

abbrev pub zero_delega : DelegaSums
zero_delega = record { sections = zero_sections; all = no_sums }

-- before the first record
abbrev pub start_money : Money
start_money = record { delega = zero_delega; flow = zero_sections; total = 0 }

unfoldable pub start_state : State
start_state = record { stage = stage_at at_start 0 0; deleghe = 0; money = start_money; seen = 0; others = 0 }
