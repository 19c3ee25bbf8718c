-- Document 01's printed case, as the answers hold it: "For one delega with Regioni lines (10000, 0) and (0, 2500), all else sound".
use mathlib.Core.List.{List, [], ◌∷◌}
use Rattle.amounts.specs.declared.Sums.{Sums}
use Rattle.rules.specs.State.{no_sums}
use Rattle.judge.specs.declared.Judgement.{Judgement}
use Rattle.judge.specs.Refusal.{Accepted}
use Rattle.delega.specs.declared.DelegaAnswer.{DelegaAnswer}

-- "05 10000 2500", and zeros in the four other sections
abbrev pub regioni : List Sums
regioni = no_sums ∷ no_sums ∷ record { debit = 10000; credit = 2500 } ∷ no_sums ∷ no_sums ∷ []

-- "`ACCEPTED 1 8 7500 2`"
abbrev pub one_delega : Judgement
one_delega = record { verdict = Accepted; summary = record { deleghe = 1; records = 8; total = 7500; lines = 2; sums = regioni } }

-- the delega by itself: two lines, all of Regioni, whose number is 4
abbrev pub printed_delega : DelegaAnswer
printed_delega = record { verdict = Accepted; balance = 7500; lines = 2; set = 4; size = 1; first = 2; sums = regioni }
