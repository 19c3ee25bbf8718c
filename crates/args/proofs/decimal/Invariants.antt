-- `args::decimal` meets its contract. The loop's invariant: 64 bits hold `n`, and reading what is left after `n` says what the whole word says.
use Rattle.args.specs.Decimal.{fitting, decimal_of}
use Rattle.text.specs.Numbers.{number_from}
use lib.ListN.{drop}
use Prim.Native.Nat.{◌^◌, ◌<◌}
use mathlib.Core.Path.{◌≡◌}
use Rattle.args.proofs.decimal.Given as goal

abbrev pub invariant-loop-b : goal.invariant-loop-b
invariant-loop-b l = (l.n < 2 ^ 64) × (decimal_of l.word ≡ fitting (number_from l.b-index l.n (drop l.b-index l.word)))
